-- The plan of the touched members' rows is that of the table.
use Rattle.std.proofs.Common.{◌≡◌, ◌⊎◌, inl, inr, ℕ, zero, suc, ◌<◌, ◌==◌, Bool, true, false, ◌||◌, List, [], ◌∷◌, ◌++◌, map, Option, Some, None, refl, sym, ◌∙◌, ap, subst}
use Rattle.std.specs.Prelude.{◌≢◌, bytes_eq}
use Rattle.std.specs.List.{list_any}
use Rattle.std.proofs.lemmas.Bool.{eq-eqb}
use Rattle.std.proofs.lemmas.Slice.Eq.{bytes_eq-Decides}
use Rattle.wh_day.specs.Day.{first_day}
use Rattle.wh_policy.specs.declared.attribute.Dim.{Dim}
use Rattle.wh_policy.specs.declared.attribute.Dim.TheVariants.{Product, Store, Customer}
use Rattle.wh_policy.specs.declared.record.DimensionRecord.{DimensionRecord}
use Rattle.wh_history.specs.Keys.{at_place}
use Rattle.wh_history.specs.Dated.{dated}
use Rattle.wh_history.specs.Profiles.{profile_now}
use Rattle.wh_history.specs.Rows.{starts}
use Rattle.wh_history.specs.Accepted.{Accepted, Content, Describes, Anchor, anchors_by, anchors, durable_key, types_in, profiles_of, changes_of, member_of}
use Rattle.wh_history.specs.Laws.{governs, mentions_member}
use Rattle.wh_history.specs.Plan.{Needs, row_of}
use Rattle.wh_history.specs.Tables.{member_rows, numbered_row, dimension_row, no_card_row}
use Rattle.wh_history.specs.declared.member.Member.{Member}
use Rattle.wh_history.specs.declared.plan.Edit.{Edit}
use Rattle.wh_history.specs.declared.rows.DimRow.{DimRow}
use Rattle.wh_history.proofs.Basics.{or_true}
use Rattle.wh_history.proofs.Batches.{unmentioned}
use Rattle.wh_history.proofs.Growth.{durable_stays}
use Rattle.wh_history.proofs.Joins.{found_span, none_some}
use Rattle.wh_history.proofs.Once.{among_distinct}
use Rattle.wh_history.proofs.Owners.{owners_given}
use Rattle.wh_history.proofs.Stays.{types-last}
use Rattle.wh_plan.specs.Laws.{TouchedRowsAreThePlan}
use Rattle.wh_model.specs.Laws.{ShowsNoProfile}
use Rattle.wh_plan.specs.NewRows.{of_members, durables_touched, naturals_told}
use Rattle.wh_model.proofs.GrownKeys.{all_at}
use Rattle.wh_model.proofs.GrownUntouched.{found_at, untouched_member_keeps}
use Rattle.wh_plan.proofs.PlanningMembers.{Among}

-- ---- what a key needs, where some rows are kept out

none_needed : (key : ℕ) (o : Option DimRow) (e : Option (Edit DimRow ℕ)) → Needs key o o e → e ≡ None
none_needed key None e needs = needs
none_needed key (Some r) e needs = elim needs [ inl same ↦ same.1 | inr other ↦ absurd (other.0 refl) ]

needs_none : (key : ℕ) (o : Option DimRow) (e : Option (Edit DimRow ℕ)) → e ≡ None → Needs key o o e
needs_none key None e is = is
needs_none key (Some r) e is = inl (refl, is)

moved : (key : ℕ) (x y v w : Option DimRow) (e : Option (Edit DimRow ℕ)) → x ≡ v → y ≡ w → Needs key x y e → Needs key v w e
moved key x y v w e p q needs = subst (λ o. Needs key v o e) q (subst (λ o. Needs key o y e) p needs)

module _ (durables : List ℕ) where
  abbrev pub Touched : DimRow → Bool
  Touched r = list_any (λ d. d == r.durable) durables

  -- a key's row stays, or is of a touched member where there is one
  abbrev pub Settled : Option DimRow → Option DimRow → Type 0
  Settled before after = (before ≡ after) ⊎ ((of_members durables before ≡ before) × (of_members durables after ≡ after))

  kept : (r : DimRow) → Touched r ≡ true → of_members durables (Some r) ≡ Some r
  kept r e = rw e refl

  pub settled : (before after : Option DimRow) → ((r : DimRow) → before ≡ Some r → Touched r ≡ false → after ≡ Some r) → ((r : DimRow) → after ≡ Some r → Touched r ≡ false → before ≡ Some r) → Settled before after
  settled None None stays was = inl refl
  settled None (Some q) stays was =
      elim (Touched q) as (λ b. (Touched q ≡ b) → Settled None (Some q)) [
        | true ↦ λ e. inr (refl, kept q e)
        | false ↦ λ e. absurd (none_some (was q refl e))
      ] refl
  settled (Some r) None stays was =
      elim (Touched r) as (λ b. (Touched r ≡ b) → Settled (Some r) None) [
        | true ↦ λ e. inr (kept r e, refl)
        | false ↦ λ e. absurd (none_some (stays r refl e))
      ] refl
  settled (Some r) (Some q) stays was =
      elim (Touched r) as (λ b. (Touched r ≡ b) → Settled (Some r) (Some q)) [
        | true ↦ λ e.
            elim (Touched q) as (λ b. (Touched q ≡ b) → Settled (Some r) (Some q)) [
              | true ↦ λ f. inr (kept r e, kept q f)
              | false ↦ λ f. inl (was q refl f)
            ] refl
        | false ↦ λ e. inl (sym (stays r refl e))
      ] refl

  pub needed : (key : ℕ) (before after : Option DimRow) (e : Option (Edit DimRow ℕ)) → Settled before after → Needs key (of_members durables before) (of_members durables after) e → Needs key before after e
  needed key before after e so needs =
      elim so [
        | inl same ↦
            let none = none_needed key (of_members durables after) e (moved key (of_members durables before) (of_members durables after) (of_members durables after) (of_members durables after) e (ap (of_members durables) same) refl needs) in
            moved key after after before after e (sym same) refl (needs_none key after e none)
        | inr both ↦ moved key (of_members durables before) (of_members durables after) before after e both.0 both.1 needs
      ]

-- ---- the rows of touched members

-- the member of a row that stands under a number
pub owner_of : (dim : Dim) (list : List Accepted) (key : ℕ) (r : DimRow) → numbered_row list dim key ≡ Some r → (a : Anchor) × (at_place key (anchors dim list) ≡ Some a) × (r.natural ≡ a.natural) × (r.durable ≡ durable_key dim list a.natural)
owner_of dim list key r found =
    let from = found_at key (λ a. member_rows list dim a.natural) (at_place key (anchors dim list)) r found in
    let a : Anchor = from.0 in
    let span = found_span dim list a.natural (types_in dim list) (profile_now (types_in dim list) (profiles_of list) (member_of dim list a.natural)) (λ (q : DimRow). q.surrogate == key) r first_day (starts (types_in dim list) (dated (changes_of dim list a.natural))) from.2 in
    (a, from.1, ap (λ (q : DimRow). q.natural) span.2, ap (λ (q : DimRow). q.durable) span.2)

pub durable_given : (dim : Dim) (list : List Accepted) (key : ℕ) (a : Anchor) → at_place key (anchors dim list) ≡ Some a → 0 < durable_key dim list a.natural
durable_given dim list key a is = all_at (λ (b : Anchor). 0 < durable_key dim list b.natural) key (anchors dim list) a (owners_given dim list) is

-- the durable keys of these members
abbrev pub durables_of : Dim → List Accepted → List (List ℕ) → List ℕ
durables_of dim list ns = map (λ (m : Member). m.durable) (map (member_of dim list) ns)

module _ (dim : Dim) (commands : List Accepted) (c : Accepted) (rs : List DimensionRecord) (is : c.content ≡ Describes dim rs) where
  abbrev after : List Accepted
  after = commands ++ c ∷ []

  durable_among : (n : List ℕ) (ns : List (List ℕ)) → Among ns n → list_any (λ d. d == durable_key dim after n) (durables_of dim after ns) ≡ true
  durable_among n [] h = cc
  durable_among n (m ∷ ns) h =
      elim (bytes_eq m n) as (λ b. (bytes_eq m n ≡ b) → (b || list_any (λ m. bytes_eq m n) ns) ≡ true → ((durable_key dim after m == durable_key dim after n) || list_any (λ d. d == durable_key dim after n) (durables_of dim after ns)) ≡ true) [
        | true ↦ λ e _. rw (eq-eqb (durable_key dim after m) (durable_key dim after n) (ap (durable_key dim after) ((bytes_eq-Decides m n).0 e))) refl
        | false ↦ λ e t. rw (durable_among n ns t) (or_true (durable_key dim after m == durable_key dim after n))
      ] refl h

  abbrev durables : List ℕ
  durables = durables_touched dim commands after rs

  -- the batch does not mention a member whose durable key is none of theirs
  untouched : (natural : List ℕ) (r : DimRow) → r.durable ≡ durable_key dim after natural → Touched durables r ≡ false → mentions_member dim c natural ≡ false
  untouched natural r durable other =
      let told = map (λ (q : DimensionRecord). q.natural) rs in
      let none : list_any (λ n. bytes_eq n natural) told ≡ false =
      elim (list_any (λ n. bytes_eq n natural) told) as (λ b. (list_any (λ n. bytes_eq n natural) told ≡ b) → b ≡ false) [
        | true ↦ λ e.
            let there = durable_among natural (naturals_told rs) (among_distinct bytes_eq bytes_eq-Decides natural told ∙ e) in
            let here : Touched durables r ≡ true = ap (λ n. list_any (λ d. d == n) durables) durable ∙ there in
            cc
        | false ↦ λ e. refl
      ] refl in
      ap (λ (content : Content). list_any (λ a. bytes_eq a.natural natural) (anchors_by dim content)) is ∙ unmentioned dim commands c.id c.kind c.bytes natural rs none

  abbrev Unmentioned : DimRow → Type 0
  Unmentioned r = mentions_member dim c r.natural ≡ false

  unmentioned_now : (key : ℕ) (r : DimRow) → numbered_row after dim key ≡ Some r → Touched durables r ≡ false → Unmentioned r
  unmentioned_now key r found other =
      let owner = owner_of dim after key r found in
      untouched r.natural r (owner.3 ∙ ap (durable_key dim after) (sym owner.2)) other

  unmentioned_before : (key : ℕ) (r : DimRow) → numbered_row commands dim key ≡ Some r → Touched durables r ≡ false → Unmentioned r
  unmentioned_before key r found other =
      let owner = owner_of dim commands key r found in
      let stays = durable_stays dim commands (c ∷ []) owner.0.natural (durable_given dim commands key owner.0 owner.1) in
      untouched r.natural r (owner.3 ∙ sym stays ∙ ap (durable_key dim after) (sym owner.2)) other

module _ (commands : List Accepted) (c : Accepted) (rs : List DimensionRecord) where
  abbrev SettledAt : Dim → ℕ → Type 0
  SettledAt dim key = Settled (durables_touched dim commands (commands ++ c ∷ []) rs) (dimension_row commands dim key) (dimension_row (commands ++ c ∷ []) dim key)

  -- in a dimension's table, under a key where all rows are of members
  settled_at : (dim : Dim) (key : ℕ) → c.content ≡ Describes dim rs → (dim ≢ Customer → ShowsNoProfile commands dim)
      → dimension_row commands dim key ≡ numbered_row commands dim key → dimension_row (commands ++ c ∷ []) dim key ≡ numbered_row (commands ++ c ∷ []) dim key → SettledAt dim key
  settled_at dim key is plain before now =
      let batch : governs c.content ≡ false = ap governs is in
      settled (durables_touched dim commands (commands ++ c ∷ []) rs) (dimension_row commands dim key) (dimension_row (commands ++ c ∷ []) dim key)
      (λ r there other. (untouched_member_keeps commands c dim r.natural key r batch plain (unmentioned_before dim commands c rs is key r (sym before ∙ there) other) refl).0 there)
      (λ r there other. (untouched_member_keeps commands c dim r.natural key r batch plain (unmentioned_now dim commands c rs is key r (sym now ∙ there) other) refl).1 there)

  pub settled_in : (dim : Dim) (key : ℕ) → c.content ≡ Describes dim rs → (dim ≢ Customer → ShowsNoProfile commands dim) → SettledAt dim key
  settled_in Product key is plain = settled_at Product key is plain refl refl
  settled_in Store key is plain = settled_at Store key is plain refl refl
  settled_in Customer zero is plain = inl (ap (λ kinds. Some (no_card_row kinds)) (sym (types-last Customer commands c (ap governs is))))
  settled_in Customer (suc n) is plain = settled_at Customer (suc n) is plain refl refl

pub touched_rows_are_the_plan : TouchedRowsAreThePlan
touched_rows_are_the_plan commands c dim rs stored new edits is plain before now plan =
    let durables = durables_touched dim commands (commands ++ c ∷ []) rs in
    let old_row = dimension_row commands dim in
    let new_row = dimension_row (commands ++ c ∷ []) dim in record {
      ordered = plan.ordered;
      exact = λ key.
          needed durables key (old_row key) (new_row key) _ (settled_in commands c rs dim key is plain)
          (moved key (row_of key stored) (row_of key new) (of_members durables (old_row key)) (of_members durables (new_row key)) _ (before key) (now key) (plan.exact key));
    }
