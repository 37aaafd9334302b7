-- A sale's keys are those of the rows that hold its day.
use Rattle.std.proofs.Common.{◌≡◌, ℕ, zero, suc, ◌<◌, ◌≤◌, ◌==◌, true, false, cond, ◌||◌, ◌&&◌, List, [], ◌∷◌, map, Option, Some, None, refl, sym, ◌∙◌, ap, subst, arith, inl, inr}
use Rattle.std.specs.Prelude.{filter, bytes_eq, find, option_map, unwrap_or}
use Rattle.std.specs.Option.{option_and_then}
use Rattle.std.specs.List.{list_any, AllByRecursion}
use Rattle.std.proofs.lemmas.Bool.{cases_lt, eqb-true}
use Rattle.std.proofs.lemmas.Bool.Decides.{nat_tests}
use Rattle.std.proofs.lemmas.Slice.Eq.{bytes_eq-Decides}
use Rattle.wh_day.specs.Day.{first_day, last_day, is_day, day_before}
use Rattle.wh_policy.specs.declared.attribute.Dim.{Dim}
use Rattle.wh_policy.specs.declared.attribute.Dim.TheVariants.{Product, Store, Customer}
use Rattle.wh_policy.specs.declared.attribute.AttributeType.{AttributeType}
use Rattle.wh_policy.specs.declared.record.DimensionRecord.{DimensionRecord}
use Rattle.wh_history.specs.Keys.{at_place}
use Rattle.wh_history.specs.Dated.{dated}
use Rattle.wh_history.specs.Profiles.{profile_now}
use Rattle.wh_history.specs.Rows.{starts, spans, row, holds, start_key}
use Rattle.wh_history.specs.Accepted.{Accepted, Anchor, same_anchor, same_day, described, mentions, anchors, members, durable_key, change_of, changes_of, member_of, opening_of, types_in, profiles_of}
use Rattle.wh_history.specs.Tables.{member_rows, numbered_row, dimension_row, key_at}
use Rattle.wh_history.specs.Laws.{ChangesHaveDays, RecordsHaveDays, IsMember, IsEffective}
use Rattle.wh_history.specs.declared.member.Change.{Change}
use Rattle.wh_history.specs.declared.member.Member.{Member}
use Rattle.wh_history.specs.declared.rows.DimRow.{DimRow}
use Rattle.wh_history.proofs.Basics.{some_is, find_passes}
use Rattle.wh_day.proofs.Days.{from_first, to_last}
use Rattle.wh_history.proofs.Spans.{Rises, InOrder, InOrder-dated, Rises-starts}
use Rattle.wh_history.proofs.Places.{at_place-place, one_place, place-distinct_given, anchors_decide}
use Rattle.wh_history.proofs.Joins.{InSpans, in_spans_above, start_anchor, Keyed, key_of_start, find_by_key, found_span}
use Rattle.wh_history.proofs.Shown.{from_held, to_held}

pub days_in : (dim : Dim) (commands : List Accepted) (natural : List ℕ) (rs : List DimensionRecord) → AllByRecursion (λ r. is_day r.day ≡ true) rs → ChangesHaveDays (map (change_of dim commands) (filter (λ r. bytes_eq r.natural natural) rs))
days_in dim commands natural [] all = tt
days_in dim commands natural (r ∷ rs) all =
    let rest = days_in dim commands natural rs all.1 in
    elim (bytes_eq r.natural natural) as (λ b. ChangesHaveDays (map (change_of dim commands) (cond b (r ∷ filter (λ r. bytes_eq r.natural natural) rs) (filter (λ r. bytes_eq r.natural natural) rs)))) [
      | true ↦ (all.0, rest)
      | false ↦ rest
    ]

member_natural : (natural : List ℕ) (ms : List Anchor) → list_any (λ a. same_anchor a (opening_of natural)) ms ≡ true → list_any (λ n. bytes_eq n natural) (map (λ (a : Anchor). a.natural) ms) ≡ true
member_natural natural [] h = cc
member_natural natural (a ∷ ms) h =
    elim (bytes_eq a.natural natural) as (λ b. ((b && same_day a.day None) || list_any (λ a. same_anchor a (opening_of natural)) ms) ≡ true → (b || list_any (λ n. bytes_eq n natural) (map (λ (a : Anchor). a.natural) ms)) ≡ true) [
      | true ↦ λ _. refl
      | false ↦ λ later. member_natural natural ms later
    ] h

-- a day is in one span alone
one_span : (day : ℕ) (s t : ℕ × ℕ) (from : ℕ) (more : List ℕ) → Rises from more → InSpans s from more → InSpans t from more → s.0 ≤ day → day ≤ s.1 → t.0 ≤ day → day ≤ t.1 → s ≡ t
one_span day s t from [] up here there a b c d = here ∙ sym there
one_span day s t from (next ∷ more) up here there a b c d =
    let before = up.2.0 in
    elim here [
      | inl first ↦ elim there [
        | inl same ↦ first ∙ sym same
        | inr later ↦
            let above = in_spans_above t next more up.3 later in
            let ends = ap (λ (u : ℕ × ℕ). u.1) first in
            absurd (omega arith)
      ]
      | inr later ↦ elim there [
        | inl first ↦
            let above = in_spans_above s next more up.3 later in
            let ends = ap (λ (u : ℕ × ℕ). u.1) first in
            absurd (omega arith)
        | inr beside ↦ one_span day s t next more up.3 later beside a b c d
      ]
    ]

module _ (kinds : List AttributeType) (number : ℕ) (m : Member) where
  -- a day from the first start on is in some row
  some_row : (day from : ℕ) (more : List ℕ) → is_day day ≡ true → Rises from more → from ≤ day → (r : DimRow) × (find (holds day) (map (row kinds number m) (spans from more)) ≡ Some r)
  some_row day from [] is up late =
      let within = to_last day is in
      let t : holds day (row kinds number m (from, last_day)) ≡ true = grind (arith, nat_tests) in
      (row kinds number m (from, last_day), rw t refl)
  some_row day from (next ∷ more) is up late =
      elim (cases_lt day next) [
        | inl early ↦
            let before = up.2.1 day is early in
            let t : holds day (row kinds number m (from, day_before next)) ≡ true = grind (arith, nat_tests) in
            (row kinds number m (from, day_before next), rw t refl)
        | inr later ↦
            let rest = some_row day next more is up.3 later in
            let before = up.2.0 in
            let t : holds day (row kinds number m (from, day_before next)) ≡ false = grind (arith, nat_tests) in
            (rest.0, rw t rest.1)
      ]

module _ (dim : Dim) (commands : List Accepted) (natural : List ℕ) (ends : RecordsHaveDays commands) (member : IsMember dim commands natural) where
  abbrev kinds : List AttributeType
  kinds = types_in dim commands

  abbrev number : ℕ
  number = profile_now (types_in dim commands) (profiles_of commands) (member_of dim commands natural)

  abbrev changes : List Change
  changes = changes_of dim commands natural

  pub in_order : InOrder (dated (changes_of dim commands natural))
  in_order = InOrder-dated (changes_of dim commands natural) (days_in dim commands natural (described dim commands) (ends dim))

  pub rising : Rises first_day (starts (types_in dim commands) (dated (changes_of dim commands natural)))
  rising = Rises-starts (types_in dim commands) (dated (changes_of dim commands natural)) in_order

  keyed : (s : ℕ × ℕ) → InSpans s first_day (starts (types_in dim commands) (dated (changes_of dim commands natural))) → Keyed dim commands natural s.0
  keyed s here = key_of_start dim commands natural (types_in dim commands) s (dated (changes_of dim commands natural)) refl member in_order here

  -- each row of the member stands in the table under its number
  pub stands : (s : ℕ × ℕ) → InSpans s first_day (starts (types_in dim commands) (dated (changes_of dim commands natural))) → numbered_row commands dim (start_key (member_of dim commands natural) s.0) ≡ Some (row kinds number (member_of dim commands natural) s)
  stands s here =
      let k = keyed s here in
      let placed : at_place (start_key (member_of dim commands natural) s.0) (anchors dim commands) ≡ Some (start_anchor dim commands natural s.0) =
      ap (λ n. at_place n (anchors dim commands)) k.0 ∙ at_place-place same_anchor anchors_decide (start_anchor dim commands natural s.0) (anchors dim commands) k.1 in
      ap (option_and_then (λ (a : Anchor). find (λ (r : DimRow). r.surrogate == start_key (member_of dim commands natural) s.0) (member_rows commands dim a.natural))) placed
      ∙ find_by_key dim commands natural kinds number s first_day (starts (types_in dim commands) (dated (changes_of dim commands natural))) rising keyed here

-- each row of the table stands for an anchor
pub came_from : (dim : Dim) (commands : List Accepted) (key : ℕ) (q : DimRow) (o : Option Anchor) → at_place key (anchors dim commands) ≡ o → option_and_then (λ (a : Anchor). find (λ (r : DimRow). r.surrogate == key) (member_rows commands dim a.natural)) o ≡ Some q → (a : Anchor) × (find (λ (r : DimRow). r.surrogate == key) (member_rows commands dim a.natural) ≡ Some q)
came_from dim commands key q None is h = cc
came_from dim commands key q (Some a) is h = (a, h)

pub in_table : (dim : Dim) (commands : List Accepted) (key : ℕ) → 0 < key → dimension_row commands dim key ≡ numbered_row commands dim key
in_table Product commands key given = refl
in_table Store commands key given = refl
in_table Customer commands zero given = absurd (omega arith)
in_table Customer commands (suc n) given = refl

-- a row of a member that has a number is one of those under numbers
numbered_from : (dim : Dim) (commands : List Accepted) (key : ℕ) (q : DimRow) → dimension_row commands dim key ≡ Some q → 0 < q.durable → numbered_row commands dim key ≡ Some q
numbered_from Product commands key q h given = h
numbered_from Store commands key q h given = h
numbered_from Customer commands zero q h given =
    let is : 0 ≡ q.durable = ap (λ (r : DimRow). r.durable) (some_is _ q h) in
    absurd (omega arith)
numbered_from Customer commands (suc n) q h given = h

module _ (dim : Dim) (commands : List Accepted) (natural : List ℕ) (ends : RecordsHaveDays commands) (member : IsMember dim commands natural) (day : ℕ) (is : is_day day ≡ true) where
  abbrev starts_here : List ℕ
  starts_here = starts (types_in dim commands) (dated (changes_of dim commands natural))

  abbrev row_here : ℕ × ℕ → DimRow
  row_here = row (types_in dim commands) (profile_now (types_in dim commands) (profiles_of commands) (member_of dim commands natural)) (member_of dim commands natural)

  pub durable_given : 0 < durable_key dim commands natural
  durable_given = place-distinct_given bytes_eq bytes_eq-Decides natural (map (λ (a : Anchor). a.natural) (mentions dim commands)) (member_natural natural (mentions dim commands) member)

  -- a row of the table that is of the member and holds the day is the row of the span that does
  the_row : (s : ℕ × ℕ) → InSpans s first_day starts_here → s.0 ≤ day → day ≤ s.1 → (key : ℕ) (q : DimRow) → dimension_row commands dim key ≡ Some q → q.durable ≡ durable_key dim commands natural → holds day q ≡ true → key ≡ (row_here s).surrogate
  the_row s here after before key q there of_member holds_day =
      let numbered = numbered_from dim commands key q there (omega (arith, durable_given)) in
      let from = came_from dim commands key q (at_place key (anchors dim commands)) refl numbered in
      let a : Anchor = from.0 in
      let other = found_span dim commands a.natural (types_in dim commands) (profile_now (types_in dim commands) (profiles_of commands) (member_of dim commands a.natural)) (λ (r : DimRow). r.surrogate == key) q first_day (starts (types_in dim commands) (dated (changes_of dim commands a.natural))) from.1 in
      let durable : durable_key dim commands natural ≡ durable_key dim commands a.natural = sym of_member ∙ ap (λ (r : DimRow). r.durable) other.2 in
      let same : natural ≡ a.natural = one_place bytes_eq bytes_eq-Decides natural a.natural (members dim commands) durable_given durable in
      let found : find (λ (r : DimRow). r.surrogate == key) (member_rows commands dim natural) ≡ Some q = subst (λ (n : List ℕ). find (λ (r : DimRow). r.surrogate == key) (member_rows commands dim n) ≡ Some q) (sym same) from.1 in
      let mine = found_span dim commands natural (types_in dim commands) (profile_now (types_in dim commands) (profiles_of commands) (member_of dim commands natural)) (λ (r : DimRow). r.surrogate == key) q first_day starts_here found in
      let low : mine.0.0 ≤ day = subst (λ (r : DimRow). r.from_day ≤ day) mine.2 (from_held day q holds_day) in
      let high : day ≤ mine.0.1 = subst (λ (r : DimRow). day ≤ r.to_day) mine.2 (to_held day q holds_day) in
      let one : s ≡ mine.0 = one_span day s mine.0 first_day starts_here (rising dim commands natural ends member) here mine.1 after before low high in
      let passes = find_passes (λ (r : DimRow). r.surrogate == key) q (member_rows commands dim natural) found in
      let is = eqb-true q.surrogate key passes in
      sym is ∙ ap (λ (r : DimRow). r.surrogate) mine.2 ∙ ap (λ (t : ℕ × ℕ). (row_here t).surrogate) (sym one)

  -- the fact's row is the one that is found by the day
  pub found_row : (r : DimRow) × (find (holds day) (member_rows commands dim natural) ≡ Some r) × (dimension_row commands dim (key_at commands dim day natural) ≡ Some r)
  found_row =
      let some = some_row (types_in dim commands) (profile_now (types_in dim commands) (profiles_of commands) (member_of dim commands natural)) (member_of dim commands natural) day first_day starts_here is (rising dim commands natural ends member) (from_first day is) in
      let r : DimRow = some.0 in
      let found : find (holds day) (member_rows commands dim natural) ≡ Some r = some.1 in
      let mine = found_span dim commands natural (types_in dim commands) (profile_now (types_in dim commands) (profiles_of commands) (member_of dim commands natural)) (holds day) r first_day starts_here found in
      let key : key_at commands dim day natural ≡ r.surrogate = ap (λ (o : Option DimRow). unwrap_or (option_map (λ (r : DimRow). r.surrogate) o) 0) found in
      let k = keyed dim commands natural ends member mine.0 mine.1 in
      let given : 0 < start_key (member_of dim commands natural) mine.0.0 = subst (λ (n : ℕ). 0 < n) (sym k.0) k.1 in
      let here : dimension_row commands dim (start_key (member_of dim commands natural) mine.0.0) ≡ Some (row_here mine.0) = in_table dim commands (start_key (member_of dim commands natural) mine.0.0) given ∙ stands dim commands natural ends member mine.0 mine.1 in
      let number : key_at commands dim day natural ≡ (row_here mine.0).surrogate = key ∙ ap (λ (q : DimRow). q.surrogate) mine.2 in
      (r, found, ap (dimension_row commands dim) number ∙ here ∙ ap Some (sym mine.2))

  pub effective : IsEffective commands dim (durable_key dim commands natural) day (key_at commands dim day natural)
  effective =
      let some = some_row (types_in dim commands) (profile_now (types_in dim commands) (profiles_of commands) (member_of dim commands natural)) (member_of dim commands natural) day first_day starts_here is (rising dim commands natural ends member) (from_first day is) in
      let r : DimRow = some.0 in
      let found : find (holds day) (member_rows commands dim natural) ≡ Some r = some.1 in
      let mine = found_span dim commands natural (types_in dim commands) (profile_now (types_in dim commands) (profiles_of commands) (member_of dim commands natural)) (holds day) r first_day starts_here found in
      let key : key_at commands dim day natural ≡ r.surrogate = ap (λ (o : Option DimRow). unwrap_or (option_map (λ (r : DimRow). r.surrogate) o) 0) found in
      let k = keyed dim commands natural ends member mine.0 mine.1 in
      let given : 0 < start_key (member_of dim commands natural) mine.0.0 = subst (λ (n : ℕ). 0 < n) (sym k.0) k.1 in
      let here : dimension_row commands dim (start_key (member_of dim commands natural) mine.0.0) ≡ Some (row_here mine.0) = in_table dim commands (start_key (member_of dim commands natural) mine.0.0) given ∙ stands dim commands natural ends member mine.0 mine.1 in
      let number : key_at commands dim day natural ≡ (row_here mine.0).surrogate = key ∙ ap (λ (q : DimRow). q.surrogate) mine.2 in
      let passes = find_passes (holds day) r (member_rows commands dim natural) found in
      let low : mine.0.0 ≤ day = subst (λ (r : DimRow). r.from_day ≤ day) mine.2 (from_held day r passes) in
      let high : day ≤ mine.0.1 = subst (λ (r : DimRow). day ≤ r.to_day) mine.2 (to_held day r passes) in
      record {
        row = r;
        there = ap (dimension_row commands dim) number ∙ here ∙ ap Some (sym mine.2);
        of_member = ap (λ (q : DimRow). q.durable) mine.2;
        holds_day = passes;
        only = λ other q there of_member holds_day. the_row mine.0 mine.1 low high other q there of_member holds_day ∙ sym number;
      }
