-- Of records that stand member by member those of one member.
use Rattle.std.proofs.Common.{◌≡◌, ℕ, Bool, true, false, ◌||◌, List, [], ◌∷◌, ◌++◌, map, refl, sym, ap, ◌∙◌, subst, append-nil}
use Rattle.std.specs.Prelude.{filter, flat_map, bytes_eq}
use Rattle.std.specs.List.{AllByRecursion, list_any}
use Rattle.std.proofs.lemmas.List.Elements.{filter-append}
use Rattle.std.proofs.lemmas.Slice.Eq.{bytes_eq-Decides}
use Rattle.wh_policy.specs.declared.attribute.Dim.{Dim}
use Rattle.wh_policy.specs.declared.record.DimensionRecord.{DimensionRecord}
use Rattle.wh_history.specs.Accepted.{Accepted, Anchor, anchors_by, anchors_of_record, anchors_of_sale, described_by, sold_by, described, mentions, members, changes_of, change_of}
use Rattle.wh_history.proofs.Basics.{or_none}
use Rattle.wh_history.proofs.Once.{IsOnce, among_distinct, once_distinct}
use Rattle.wh_history.proofs.Untouched.{any_none, no_record}

-- whether a record is of a member
abbrev pub is_of_member : List ℕ → DimensionRecord → Bool
is_of_member natural r = bytes_eq r.natural natural

-- they are all of this member
abbrev pub AreOf : List ℕ → List DimensionRecord → Type 0
AreOf natural rs = AllByRecursion (λ r. r.natural ≡ natural) rs

all_kept : (natural : List ℕ) (rs : List DimensionRecord) → AreOf natural rs → filter (is_of_member natural) rs ≡ rs
all_kept natural [] all = refl
all_kept natural (r ∷ rs) all =
    let is : bytes_eq r.natural natural ≡ true = (bytes_eq-Decides r.natural natural).1 all.0 in
    rw is (ap (λ (t : List DimensionRecord). r ∷ t) (all_kept natural rs all.1))

none_kept : (natural other : List ℕ) (rs : List DimensionRecord) → AreOf other rs → bytes_eq other natural ≡ false → filter (is_of_member natural) rs ≡ []
none_kept natural other [] all apart = refl
none_kept natural other (r ∷ rs) all apart =
    let not_it : bytes_eq r.natural natural ≡ false = ap (λ n. bytes_eq n natural) all.0 ∙ apart in
    rw not_it (none_kept natural other rs all.1 apart)

module _ (records : List ℕ → List DimensionRecord) (owned : (natural : List ℕ) → AreOf natural (records natural)) (natural : List ℕ) where
  absent : (ms : List (List ℕ)) → list_any (λ m. bytes_eq m natural) ms ≡ false → filter (is_of_member natural) (flat_map records ms) ≡ []
  absent [] none = refl
  absent (m ∷ ms) none =
      let split = or_none (bytes_eq m natural) (list_any (λ m. bytes_eq m natural) ms) none in
      filter-append (is_of_member natural) (records m) (flat_map records ms)
      ∙ ap (λ t. t ++ filter (is_of_member natural) (flat_map records ms)) (none_kept natural m (records m) (owned m) split.0)
      ∙ absent ms split.1

  present : (ms : List (List ℕ)) → IsOnce bytes_eq bytes_eq-Decides ms → list_any (λ m. bytes_eq m natural) ms ≡ true → filter (is_of_member natural) (flat_map records ms) ≡ records natural
  present [] once some = absurd cc
  present (m ∷ ms) once some =
      filter-append (is_of_member natural) (records m) (flat_map records ms)
      ∙ elim (bytes_eq m natural) as (λ b. (bytes_eq m natural ≡ b) → (b || list_any (λ m. bytes_eq m natural) ms) ≡ true → filter (is_of_member natural) (records m) ++ filter (is_of_member natural) (flat_map records ms) ≡ records natural) [
        | true ↦ λ e h.
            let is : m ≡ natural = (bytes_eq-Decides m natural).0 e in
            let others : list_any (λ n. bytes_eq n natural) ms ≡ false = subst (λ (n : List ℕ). list_any (λ k. bytes_eq k n) ms ≡ false) is once.0 in
            let here : filter (is_of_member natural) (records m) ≡ records natural = subst (λ (n : List ℕ). filter (is_of_member natural) (records n) ≡ records natural) (sym is) (all_kept natural (records natural) (owned natural)) in
            rw (here, absent ms others) (append-nil (records natural))
        | false ↦ λ e h. rw (none_kept natural m (records m) (owned m) e) (present ms once.1 h)
      ] refl some

-- ---- of a dimension's members

module _ (dim : Dim) (natural : List ℕ) where
  unmentioned : (commands : List Accepted) → list_any (λ (a : Anchor). bytes_eq a.natural natural) (mentions dim commands) ≡ false → filter (is_of_member natural) (described dim commands) ≡ []
  unmentioned [] none = refl
  unmentioned (c ∷ commands) none =
      let apart = any_none (λ (a : Anchor). bytes_eq a.natural natural) (anchors_by dim c.content) (mentions dim commands) none in
      let parts = any_none (λ (a : Anchor). bytes_eq a.natural natural) (flat_map anchors_of_record (described_by dim c.content)) (flat_map (anchors_of_sale dim) (sold_by c.content)) apart.0 in
      filter-append (is_of_member natural) (described_by dim c.content) (described dim commands)
      ∙ ap (λ t. t ++ filter (is_of_member natural) (described dim commands)) (no_record natural (described_by dim c.content) parts.0)
      ∙ unmentioned commands apart.1

  by_naturals : (as' : List Anchor) → list_any (λ m. bytes_eq m natural) (map (λ (a : Anchor). a.natural) as') ≡ list_any (λ (a : Anchor). bytes_eq a.natural natural) as'
  by_naturals [] = refl
  by_naturals (a ∷ as') = ap (λ b. bytes_eq a.natural natural || b) (by_naturals as')

  -- what is no member has no change
  no_changes : (commands : List Accepted) → list_any (λ m. bytes_eq m natural) (members dim commands) ≡ false → changes_of dim commands natural ≡ []
  no_changes commands none =
      let named = map (λ (a : Anchor). a.natural) (mentions dim commands) in
      let nowhere : list_any (λ (a : Anchor). bytes_eq a.natural natural) (mentions dim commands) ≡ false =
      sym (by_naturals (mentions dim commands)) ∙ sym (among_distinct bytes_eq bytes_eq-Decides natural named) ∙ none in
      ap (map (change_of dim commands)) (unmentioned commands nowhere)

  -- those of the member among all, where a key without a change has none
  pub of_member : (commands : List Accepted) (records : List ℕ → List DimensionRecord) → ((n : List ℕ) → AreOf n (records n)) → (changes_of dim commands natural ≡ [] → records natural ≡ [])
      → filter (is_of_member natural) (flat_map records (members dim commands)) ≡ records natural
  of_member commands records owned empty =
      elim (list_any (λ m. bytes_eq m natural) (members dim commands)) as (λ b. (list_any (λ m. bytes_eq m natural) (members dim commands) ≡ b) → filter (is_of_member natural) (flat_map records (members dim commands)) ≡ records natural) [
        | true ↦ λ e. present records owned natural (members dim commands) (once_distinct bytes_eq bytes_eq-Decides (map (λ (a : Anchor). a.natural) (mentions dim commands))) e
        | false ↦ λ e. absent records owned natural (members dim commands) e ∙ sym (empty (no_changes commands e))
      ] refl
