-- A member that a batch does not mention keeps its rows under their keys.
use Rattle.std.proofs.Common.{◌≡◌, ℕ, zero, suc, ◌==◌, Bool, true, false, List, [], ◌∷◌, ◌++◌, Option, Some, None, refl, sym, ◌∙◌, ap, append-nil}
use Rattle.std.specs.Prelude.{◌≢◌, find, bytes_eq, slice_get}
use Rattle.std.specs.Option.{option_and_then}
use Rattle.std.specs.List.{list_any, AllByRecursion}
use Rattle.std.proofs.lemmas.Slice.Eq.{bytes_eq-Decides}
use Rattle.wh_policy.specs.declared.attribute.Dim.{Dim}
use Rattle.wh_policy.specs.declared.attribute.Dim.TheVariants.{Product, Store, Customer}
use Rattle.wh_day.specs.Day.{first_day}
use Rattle.wh_history.specs.Keys.{at_place}
use Rattle.wh_history.specs.Dated.{dated}
use Rattle.wh_history.specs.Profiles.{profile_now}
use Rattle.wh_history.specs.Rows.{starts}
use Rattle.wh_history.specs.Accepted.{Accepted, Anchor, same_anchor, anchors_by, anchors, mentions, types_in, profiles_of, changes_of, member_of}
use Rattle.wh_history.specs.Laws.{governs, mentions_member}
use Rattle.wh_history.specs.Tables.{member_rows, numbered_row, no_card_row}
use Rattle.wh_history.specs.declared.rows.DimRow.{DimRow}
use Rattle.wh_history.proofs.Basics.{or_true}
use Rattle.wh_history.proofs.Growth.{anchors-append}
use Rattle.wh_history.proofs.Joins.{all_weaker, found_span}
use Rattle.wh_history.proofs.Numbers.{fresh}
use Rattle.wh_history.proofs.Owners.{all_distinct, all_fresh}
use Rattle.wh_history.proofs.Stays.{types-last, rows_stay, customer_rows_stay}
use Rattle.wh_model.specs.Laws.{ShowsNoProfile, UntouchedMembersKeep}
use Rattle.wh_model.proofs.GrownKeys.{all_at}

-- a place in the front is one in the whole, and one in the whole that is not in the back is one in the front
get_more : {X : Type 0} (n : ℕ) (xs ys : List X) (x : X) → slice_get xs n ≡ Some x → slice_get (xs ++ ys) n ≡ Some x
get_more n [] ys x h = cc
get_more zero (y ∷ xs) ys x h = h
get_more (suc n) (y ∷ xs) ys x h = get_more n xs ys x h

at_more : {X : Type 0} (n : ℕ) (xs ys : List X) (x : X) → at_place n xs ≡ Some x → at_place n (xs ++ ys) ≡ Some x
at_more zero xs ys x h = cc
at_more (suc n) xs ys x h = get_more n xs ys x h

get_less : {X : Type 0} (P : X → Type 0) (n : ℕ) (xs ys : List X) (x : X) → AllByRecursion P ys → (P x → ⊥) → slice_get (xs ++ ys) n ≡ Some x → slice_get xs n ≡ Some x
get_less P n [] ys x all not h = absurd (not (all_at P (suc n) ys x all h))
get_less P zero (y ∷ xs) ys x all not h = h
get_less P (suc n) (y ∷ xs) ys x all not h = get_less P n xs ys x all not h

at_less : {X : Type 0} (P : X → Type 0) (n : ℕ) (xs ys : List X) (x : X) → AllByRecursion P ys → (P x → ⊥) → at_place n (xs ++ ys) ≡ Some x → at_place n xs ≡ Some x
at_less P zero xs ys x all not h = cc
at_less P (suc n) xs ys x all not h = get_less P n xs ys x all not h

-- what is found came from the anchor of its key
pub found_at : (key : ℕ) (rows : Anchor → List DimRow) (o : Option Anchor) (r : DimRow) → option_and_then (λ (a : Anchor). find (λ (q : DimRow). q.surrogate == key) (rows a)) o ≡ Some r
    → (a : Anchor) × (o ≡ Some a) × (find (λ (q : DimRow). q.surrogate == key) (rows a) ≡ Some r)
found_at key rows None r h = cc
found_at key rows (Some a) r h = (a, refl, h)

-- a member's rows name it
named_by : (dim : Dim) (commands : List Accepted) (natural : List ℕ) (p : DimRow → Bool) (r : DimRow) → find p (member_rows commands dim natural) ≡ Some r → r.natural ≡ natural
named_by dim commands natural p r h =
    let span = found_span dim commands natural (types_in dim commands) (profile_now (types_in dim commands) (profiles_of commands) (member_of dim commands natural)) p r first_day (starts (types_in dim commands) (dated (changes_of dim commands natural))) h in
    ap (λ (q : DimRow). q.natural) span.2

abbrev Mentioned : List Anchor → Anchor → Type 0
Mentioned ms a = list_any (λ (b : Anchor). bytes_eq b.natural a.natural) ms ≡ true

mentioned_in : (ms : List Anchor) → AllByRecursion (Mentioned ms) ms
mentioned_in [] = tt
mentioned_in (m ∷ ms) = (
  rw ((bytes_eq-Decides m.natural m.natural).1 refl) refl,
  all_weaker (Mentioned ms) (Mentioned (m ∷ ms)) (λ a t. rw t (or_true (bytes_eq m.natural a.natural))) ms (mentioned_in ms),
)

-- the row of a member under a surrogate key
abbrev pub row_in : Dim → List Accepted → ℕ → Anchor → Option DimRow
row_in dim list key a = find (λ (q : DimRow). q.surrogate == key) (member_rows list dim a.natural)

module _ (dim : Dim) (commands : List Accepted) (c : Accepted) (natural : List ℕ) (other : mentions_member dim c natural ≡ false) (stay : member_rows (commands ++ c ∷ []) dim natural ≡ member_rows commands dim natural) where
  abbrev after : List Accepted
  after = commands ++ c ∷ []

  abbrev here : Anchor → Type 0
  here a = mentions_member dim c a.natural ≡ true

  new_mentioned : AllByRecursion here (fresh same_anchor (mentions dim commands) (anchors dim (c ∷ [])))
  new_mentioned =
      let all : AllByRecursion here (anchors_by dim c.content ++ []) = rw (append-nil (anchors_by dim c.content)) (mentioned_in (anchors_by dim c.content)) in
      all_fresh here same_anchor (mentions dim commands) (anchors dim (c ∷ [])) (all_distinct here same_anchor (mentions dim (c ∷ [])) all)

  -- the row that an anchor of the member has under a key
  row_stays : (key : ℕ) (a : Anchor) → a.natural ≡ natural → row_in dim after key a ≡ row_in dim commands key a
  row_stays key a same =
      let rows_of = λ (list : List Accepted) (n : List ℕ). find (λ (q : DimRow). q.surrogate == key) (member_rows list dim n) in
      ap (rows_of after) same ∙ ap (find (λ (q : DimRow). q.surrogate == key)) stay ∙ sym (ap (rows_of commands) same)

  kept : (key : ℕ) (r : DimRow) → r.natural ≡ natural → numbered_row commands dim key ≡ Some r → numbered_row after dim key ≡ Some r
  kept key r mine is =
      let from = found_at key (λ a. member_rows commands dim a.natural) (at_place key (anchors dim commands)) r is in
      let a : Anchor = from.0 in
      let same : a.natural ≡ natural = sym (named_by dim commands a.natural (λ (q : DimRow). q.surrogate == key) r from.2) ∙ mine in
      let there : at_place key (anchors dim after) ≡ Some a = ap (at_place key) (anchors-append dim commands (c ∷ [])) ∙ at_more key (anchors dim commands) _ a from.1 in
      ap (option_and_then (row_in dim after key)) there ∙ row_stays key a same ∙ from.2

  was_there : (key : ℕ) (r : DimRow) → r.natural ≡ natural → numbered_row after dim key ≡ Some r → numbered_row commands dim key ≡ Some r
  was_there key r mine is =
      let from = found_at key (λ a. member_rows after dim a.natural) (at_place key (anchors dim after)) r is in
      let a : Anchor = from.0 in
      let same : a.natural ≡ natural = sym (named_by dim after a.natural (λ (q : DimRow). q.surrogate == key) r from.2) ∙ mine in
      let unmentioned : here a → ⊥ = λ t. let f : mentions_member dim c a.natural ≡ false = ap (mentions_member dim c) same ∙ other in cc in
      let there : at_place key (anchors dim commands) ≡ Some a = at_less here key (anchors dim commands) _ a new_mentioned unmentioned (sym (ap (at_place key) (anchors-append dim commands (c ∷ []))) ∙ from.1) in
      ap (option_and_then (row_in dim commands key)) there ∙ sym (row_stays key a same) ∙ from.2

rows_kept : (dim : Dim) (commands : List Accepted) (c : Accepted) (natural : List ℕ) → governs c.content ≡ false → (dim ≢ Customer → ShowsNoProfile commands dim) → mentions_member dim c natural ≡ false → member_rows (commands ++ c ∷ []) dim natural ≡ member_rows commands dim natural
rows_kept Product commands c natural batch plain other = rows_stay commands c batch Product natural (plain (λ e. cc)) other
rows_kept Store commands c natural batch plain other = rows_stay commands c batch Store natural (plain (λ e. cc)) other
rows_kept Customer commands c natural batch plain other = customer_rows_stay commands c batch natural other

pub untouched_member_keeps : UntouchedMembersKeep
untouched_member_keeps commands c Product natural key r batch plain other mine =
    let stay = rows_kept Product commands c natural batch plain other in
    (kept Product commands c natural other stay key r mine, was_there Product commands c natural other stay key r mine)
untouched_member_keeps commands c Store natural key r batch plain other mine =
    let stay = rows_kept Store commands c natural batch plain other in
    (kept Store commands c natural other stay key r mine, was_there Store commands c natural other stay key r mine)
untouched_member_keeps commands c Customer natural zero r batch plain other mine =
    let first = ap (λ kinds. Some (no_card_row kinds)) (types-last Customer commands c batch) in
    (λ is. first ∙ is, λ is. sym first ∙ is)
untouched_member_keeps commands c Customer natural (suc n) r batch plain other mine =
    let stay = rows_kept Customer commands c natural batch plain other in
    (kept Customer commands c natural other stay (suc n) r mine, was_there Customer commands c natural other stay (suc n) r mine)
