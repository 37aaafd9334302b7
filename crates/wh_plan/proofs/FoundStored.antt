-- A member as the tables hold it, and one that no command mentions.
use Rattle.std.proofs.Common.{◌≡◌, ℕ, ◌<◌, true, false, cond, List, [], ◌∷◌, map, filter, Option, Some, None, refl, sym, ◌∙◌, ap, subst, arith, inl, inr, length, ◌++◌, ◌&&◌, ◌↔◌, IsSome}
use Rattle.std.specs.FinMap.{values}
use Rattle.std.specs.Prelude.{bytes_eq, option_map, unwrap_or}
use Rattle.std.proofs.lemmas.Bool.{cases_lt}
use Rattle.std.specs.List.{list_any, AllByRecursion}
use Rattle.std.specs.Option.{option_to_list}
use Rattle.std.proofs.lemmas.Slice.Eq.{bytes_eq-Decides}
use Rattle.wh_policy.specs.declared.attribute.Dim.{Dim}
use Rattle.wh_policy.specs.declared.record.DimensionRecord.{DimensionRecord}
use Rattle.wh_history.specs.Accepted.{Accepted, same_anchor, opening_of, day_of, described, mentions, members, durable_key, surrogate_key, change_of, changes_of, member_of}
use Rattle.wh_history.specs.Touched.{nothing_stored}
use Rattle.wh_history.specs.Keys.{at_place}
use Rattle.wh_history.proofs.Basics.{some_is}
use Rattle.wh_history.proofs.Numbers.{place-distinct_none}
use Rattle.wh_history.proofs.Places.{anchors_decide, at_place-place}
use Rattle.wh_history.proofs.Joins.{told_in_all, Told}
use Rattle.wh_history.proofs.Once.{no_place}
use Rattle.wh_history.proofs.Untouched.{no_anchor}
use Rattle.wh_rows.specs.declared.rows.MemberRow.{MemberRow}
use Rattle.wh_rows.specs.Tables.{Tables}
use Rattle.wh_rows.specs.Firsts.{part}
use Rattle.wh_sql.specs.Answers.{same_text}
use Rattle.wh_sql.proofs.Reading.{last_is}
use Rattle.wh_history.specs.Tables.{Limits}
use Rattle.wh_model.specs.Defined.{AreOf, member_at}
use Rattle.wh_plan.specs.Reading.{last_opening}
use Rattle.wh_plan.proofs.FoundMembers.{same_dim, member_is, natural_at, member_found, last_member}
use Rattle.wh_model.proofs.FoundPlaces.{place_given, at_place_there}
use Rattle.wh_model.proofs.GrownMembers.{key_of}
use Rattle.wh_plan.proofs.FoundOwners.{is_mentioned}

module _ (dim : Dim) (commands : List Accepted) (natural : List ℕ) (absent : durable_key dim commands natural ≡ 0) where
  unmentioned : list_any (λ a. bytes_eq a.natural natural) (mentions dim commands) ≡ false
  unmentioned = sym (is_mentioned dim commands natural) ∙ no_place bytes_eq bytes_eq-Decides natural (members dim commands) absent

  none_told : (rs : List DimensionRecord) → AllByRecursion (Told (mentions dim commands)) rs → filter (λ r. bytes_eq r.natural natural) rs ≡ []
  none_told [] all = refl
  none_told (r ∷ rs) all =
      elim (bytes_eq r.natural natural) as (λ b. (bytes_eq r.natural natural ≡ b) → cond b (r ∷ filter (λ r. bytes_eq r.natural natural) rs) (filter (λ r. bytes_eq r.natural natural) rs) ≡ []) [
        | true ↦ λ e.
            let is = (bytes_eq-Decides r.natural natural).0 e in
            let none : list_any (λ a. same_anchor a (day_of natural r.day)) (mentions dim commands) ≡ false = no_place same_anchor anchors_decide (day_of natural r.day) (mentions dim commands) (no_anchor natural (Some r.day) (mentions dim commands) unmentioned) in
            let told : list_any (λ a. same_anchor a (day_of natural r.day)) (mentions dim commands) ≡ true = subst (λ (n : List ℕ). list_any (λ a. same_anchor a (day_of n r.day)) (mentions dim commands) ≡ true) is all.0 in
            cc
        | false ↦ λ e. none_told rs all.1
      ] refl

  no_opening : surrogate_key dim commands (opening_of natural) ≡ 0
  no_opening = place-distinct_none same_anchor (opening_of natural) (mentions dim commands) (no_anchor natural None (mentions dim commands) unmentioned)

  no_changes : changes_of dim commands natural ≡ []
  no_changes = ap (map (change_of dim commands)) (none_told (described dim commands) (told_in_all dim commands))

  -- all numbers of a member that is not mentioned are 0, and nothing was accepted of it
  pub member_absent : member_of dim commands natural ≡ nothing_stored natural
  member_absent = rw (absent, no_opening, no_changes) refl

-- the row of a member that is mentioned
pub member_row_is : (dim : Dim) (commands : List Accepted) (natural : List ℕ) → 0 < durable_key dim commands natural
    → member_at commands (key_of dim (durable_key dim commands natural)) ≡ Some (record { dim = dim; durable = durable_key dim commands natural; natural = natural; opening = surrogate_key dim commands (opening_of natural) })
member_row_is dim commands natural given = member_is commands dim (durable_key dim commands natural) natural (at_place-place bytes_eq bytes_eq-Decides natural (members dim commands) given)

-- the row that is found of a natural key
pub row_found : (dim : Dim) (commands : List Accepted) (natural : List ℕ) (row : MemberRow) → member_at commands (key_of dim (durable_key dim commands natural)) ≡ Some row
    → (0 < row.durable) × (row.durable ≡ durable_key dim commands natural) × (row.natural ≡ natural) × (row.opening ≡ surrogate_key dim commands (opening_of natural))
row_found dim commands natural row is =
    let number = durable_key dim commands natural in
    let given : 0 < number = place_given number (members dim commands) row.natural (natural_at commands (key_of dim number) row is) in
    let same = some_is _ _ (sym is ∙ member_row_is dim commands natural given) in
    let durable : row.durable ≡ number = ap (λ (r : MemberRow). r.durable) same in
    (omega arith, durable, ap (λ (r : MemberRow). r.natural) same, ap (λ (r : MemberRow). r.opening) same)

-- where none is found the member is not mentioned
pub none_found : (dim : Dim) (commands : List Accepted) (natural : List ℕ) → member_at commands (key_of dim (durable_key dim commands natural)) ≡ None → durable_key dim commands natural ≡ 0
none_found dim commands natural none =
    elim (cases_lt 0 (durable_key dim commands natural)) [
      | inl given ↦ let row = member_row_is dim commands natural given in absurd (cc)
      | inr up ↦ omega arith
    ]

-- the row of the greatest durable key
pub last_row : (dim : Dim) (commands : List Accepted) (row : MemberRow) → member_at commands (key_of dim (length (members dim commands))) ≡ Some row → (row.durable ≡ length (members dim commands)) × (row.opening ≡ last_opening dim commands)
last_row dim commands row is =
    let count = length (members dim commands) in
    let name = natural_at commands (key_of dim count) row is in
    let same = some_is _ _ (sym is ∙ member_is commands dim count row.natural name) in (
      ap (λ (r : MemberRow). r.durable) same,
      ap (λ (r : MemberRow). r.opening) same ∙ sym (ap (λ (o : Option (List ℕ)). unwrap_or (option_map (λ n. surrogate_key dim commands (opening_of n)) o) 0) name),
    )

pub no_last_row : (dim : Dim) (commands : List Accepted) → member_at commands (key_of dim (length (members dim commands))) ≡ None → (0 ≡ length (members dim commands)) × (0 ≡ last_opening dim commands)
no_last_row dim commands none =
    let count = length (members dim commands) in
    let empty : length (members dim commands) ≡ 0 = elim (cases_lt 0 count) [
      | inl given ↦
          let there = at_place_there count (members dim commands) given (omega arith) in
          let row = member_is commands dim count there.0 there.1 in absurd (cc)
      | inr up ↦ omega arith
    ] in
    (sym empty, sym (ap (λ n. unwrap_or (option_map (λ m. surrogate_key dim commands (opening_of m)) (at_place n (members dim commands))) 0) empty))

-- what is popped of the answers to a search by a natural key, and to one for the greatest durable key
module _ (limits : Limits) (commands : List Accepted) (t : Tables) (are : AreOf limits commands t) (dim : Dim) where
  pub member_popped : (natural : List ℕ) (popped : Option MemberRow) (items left : List MemberRow) (n : ℕ) → n ≡ length items → items ≡ filter (λ r. same_dim dim r.dim && same_text natural r.natural) (values t.member) → items ≡ left ++ option_to_list popped → (IsSome popped ↔ (0 < n)) → member_at commands (key_of dim (durable_key dim commands natural)) ≡ popped
  member_popped natural popped items left n len listed split some = sym (last_is (member_at commands (key_of dim (durable_key dim commands natural))) popped items left n len (listed ∙ member_found limits commands t are dim natural) split some)

  pub last_popped : (popped : Option MemberRow) (items left : List MemberRow) (n : ℕ) → n ≡ length items → items ≡ part (Some (record { most = 1; backwards = true })) (filter (λ r. same_dim dim r.dim) (values t.member)) → items ≡ left ++ option_to_list popped → (IsSome popped ↔ (0 < n)) → member_at commands (key_of dim (length (members dim commands))) ≡ popped
  last_popped popped items left n len listed split some = sym (last_is (member_at commands (key_of dim (length (members dim commands)))) popped items left n len (listed ∙ last_member limits commands t are dim) split some)
