-- The members that a batch touches, from reads of those alone.
use Rattle.std.proofs.Common.{◌≡◌, ℕ, List, [], ◌∷◌, ◌++◌, length, map, Some, refl, sym, ◌∙◌, ap}
use Rattle.std.specs.Prelude.{bytes_eq, find, unwrap_or}
use Rattle.std.specs.List.{AllByRecursion}
use Rattle.std.proofs.lemmas.Slice.Eq.{bytes_eq-Decides}
use Rattle.wh_policy.specs.declared.attribute.Dim.{Dim}
use Rattle.wh_policy.specs.declared.record.DimensionRecord.{DimensionRecord}
use Rattle.wh_history.specs.Accepted.{Accepted, Content, Describes, anchors, members, member_of}
use Rattle.wh_history.specs.Touched.{TouchedMembers, touched, touch, touch_member, untouched, nothing_stored, touched_by}
use Rattle.wh_history.specs.declared.member.Member.{Member}
use Rattle.wh_history.proofs.Basics.{find_passes}
use Rattle.wh_history.proofs.Batches.{touched_is}
use Rattle.wh_history.proofs.Once.{among_distinct}
use Rattle.wh_plan.specs.NewRows.{named, naturals_told}
use Rattle.wh_plan.proofs.PlanningChanges.{found_there}
use Rattle.wh_plan.proofs.PlanningMembers.{Among, all_among, naturals}

-- the member with a natural key among those that were read
abbrev pub stored_in : List Member → List ℕ → Member
stored_in list natural = unwrap_or (named list natural) (nothing_stored natural)

-- what is found has the natural key that was asked for
pub named_so : (list : List Member) (natural : List ℕ) (m : Member) → named list natural ≡ Some m → m.natural ≡ natural
named_so list natural m is = (bytes_eq-Decides m.natural natural).0 (find_passes (λ (q : Member). bytes_eq q.natural natural) m list is)

-- of what is stored only the members that records mention matter
told_alone : (f g : List ℕ → Member) (t : TouchedMembers) (rs : List DimensionRecord) → AllByRecursion (λ r. f r.natural ≡ g r.natural) rs → touched f t rs ≡ touched g t rs
told_alone f g t [] same = refl
told_alone f g t (r ∷ rs) same =
    ap (λ m. touched f (touch_member t (unwrap_or (find (λ (q : Member). bytes_eq q.natural r.natural) t.list) m) r) rs) same.0
    ∙ told_alone f g (touch g t r) rs same.1

module _ (dim : Dim) (commands : List Accepted) (rs : List DimensionRecord) where
  abbrev read : List Member
  read = map (member_of dim commands) (naturals_told rs)

  read_is : (n : List ℕ) → Among (naturals rs) n → stored_in read n ≡ member_of dim commands n
  read_is n among =
      ap (λ o. unwrap_or o (nothing_stored n)) (found_there dim commands n (naturals_told rs) (among_distinct bytes_eq bytes_eq-Decides n (naturals rs) ∙ among))

  reads_are : (qs : List DimensionRecord) → AllByRecursion (Among (naturals rs)) (naturals qs) → AllByRecursion (λ r. stored_in read r.natural ≡ member_of dim commands r.natural) qs
  reads_are [] among = tt
  reads_are (q ∷ qs) among = (read_is q.natural among.0, reads_are qs among.1)

  -- so reads of those lead to the members after the batch
  pub touched_from : (c : Accepted) → c.content ≡ Describes dim rs → (stored : List Member) → stored ≡ read → (given_members given_anchors : ℕ) → given_members ≡ length (members dim commands) → given_anchors ≡ length (anchors dim commands)
      → touched (stored_in stored) (untouched given_members given_anchors) rs ≡ touched_by dim commands (commands ++ c ∷ []) rs
  touched_from c is stored stored_is given_members given_anchors members_are anchors_are =
      ap (λ list. touched (stored_in list) (untouched given_members given_anchors) rs) stored_is
      ∙ told_alone (stored_in read) (member_of dim commands) (untouched given_members given_anchors) rs (reads_are rs (all_among (naturals rs)))
      ∙ ap (λ n. touched (member_of dim commands) (untouched n given_anchors) rs) members_are
      ∙ ap (λ n. touched (member_of dim commands) (untouched (length (members dim commands)) n) rs) anchors_are
      ∙ touched_is dim commands c.id c.kind c.bytes rs
      ∙ ap (λ (content : Content). touched_by dim commands (commands ++ record { id = c.id; kind = c.kind; bytes = c.bytes; content = content } ∷ []) rs) (sym is)
