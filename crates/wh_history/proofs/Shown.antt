-- The row that holds a day shows the values in force on that day.
use Rattle.std.proofs.Common.{◌≡◌, ℕ, zero, suc, ◌+◌, ◌<◌, ◌≤◌, ◌-◌, length, replicate, Bool, true, false, cond, List, [], ◌∷◌, ◌++◌, map, Some, None, refl, sym, ◌∙◌, ap, subst, arith, inl, inr, nat_le}
use Rattle.std.specs.Prelude.{slice_get, find}
use Rattle.std.proofs.lemmas.Bool.{cases_lt}
use Rattle.std.proofs.lemmas.Bool.Decides.{nat_tests}
use Rattle.wh_policy.specs.Types.{rule, shows_first_day, is_tracked}
use Rattle.wh_history.specs.Slots.{slot, columns_from, picked, picks}
use Rattle.wh_history.specs.Dated.{dated, in_force, at, value_at, said}
use Rattle.wh_history.specs.Rows.{starts, later_starts, same_tracked, spans, row, rows, holds, main_text, main_column}
use Rattle.wh_day.specs.Day.{last_day}
use Rattle.wh_history.specs.Profiles.{profile_now}
use Rattle.wh_policy.specs.declared.attribute.AttributeType.{AttributeType}
use Rattle.wh_policy.specs.declared.type_rule.MainColumn.{MainColumn}
use Rattle.wh_policy.specs.declared.type_rule.MainColumn.TheVariants as main
use Rattle.wh_history.specs.declared.member.Change.{Change}
use Rattle.wh_history.specs.declared.member.Member.{Member}
use Rattle.wh_history.specs.declared.rows.DimRow.{DimRow}
use Rattle.wh_day.specs.Day.{first_day, is_day, day_before}
use Rattle.wh_history.specs.Laws.{ChangesHaveDays}
use Rattle.wh_history.proofs.Basics.{texts_decide, some_is, first_or}
use Rattle.wh_day.proofs.Days.{from_first}
use Rattle.wh_history.proofs.Calendar.{ends_before}
use Rattle.wh_history.proofs.Spans.{Follows, InOrder, InOrder-dated, Rises-later_starts}
use Rattle.wh_history.proofs.Joins.{InSpans, in_spans_above}

pub get_column : (f : ℕ → AttributeType → List ℕ) (kinds : List AttributeType) (from place : ℕ) (kind : AttributeType) (tail : List (List ℕ)) → slice_get kinds place ≡ Some kind → slice_get (columns_from f from kinds ++ tail) place ≡ Some (f (from + place) kind)
get_column f [] from place kind tail h = cc
get_column f (k ∷ kinds) from zero kind tail h =
    let is : k ≡ kind = cc in
    let at : from + 0 ≡ from = omega arith in
    rw (at, is) refl
get_column f (k ∷ kinds) from (suc place) kind tail h =
    let at : from + suc place ≡ suc from + place = omega arith in
    rw at (get_column f kinds (suc from) place kind tail h)

module _ (kinds : List AttributeType) where
  abbrev tracked : Change → List (List ℕ)
  tracked c = picks is_tracked kinds c.values

  -- before a change's day none of it is in force
  early_is : (day : ℕ) (first d : Change) (ds : List Change) → day < d.day → in_force day first (d ∷ ds) ≡ first
  early_is day first d ds early = let t : nat_le d.day day ≡ false = grind (arith, nat_tests) in rw t refl

  late_is : (day : ℕ) (first d : Change) (ds : List Change) → d.day ≤ day → in_force day first (d ∷ ds) ≡ in_force day d ds
  late_is day first d ds late = let t : nat_le d.day day ≡ true = grind (arith, nat_tests) in rw t refl

  stays_before : (day low : ℕ) (first : Change) (ds : List Change) → day < low → Follows low ds → in_force day first ds ≡ first
  stays_before day low first [] early up = refl
  stays_before day low first (d ∷ ds) early up = early_is day first d ds (omega arith)

  -- a change that tracks nothing new may be passed over
  same_passed : (day : ℕ) (first d : Change) (ds : List Change) → tracked first ≡ tracked d → Follows d.day ds → tracked (in_force day first (d ∷ ds)) ≡ tracked (in_force day d ds)
  same_passed day first d ds same up =
      elim (cases_lt day d.day) [
        | inl early ↦ ap tracked (early_is day first d ds early) ∙ same ∙ ap tracked (sym (stays_before day d.day d ds early up))
        | inr late ↦ ap tracked (late_is day first d ds late)
      ]

  -- on a span's days the tracked values are those of its start
  same_on_span : (day : ℕ) (s : ℕ × ℕ) (from : ℕ) (first : Change) (cs : List Change) → is_day first.day ≡ true → Follows first.day cs → from ≤ first.day → InSpans s from (later_starts kinds first cs) → s.0 ≤ day → day ≤ s.1 → tracked (in_force day first cs) ≡ tracked (in_force s.0 first cs)
  same_on_span day s from first [] is up low here after before = refl
  same_on_span day s from first (d ∷ ds) is up low here after before =
      let early = from_first first.day is in
      let ends_first = (ends_before d.day up.1 (omega arith)).0 in
      elim (same_tracked kinds first d) as (λ b. (same_tracked kinds first d ≡ b) → InSpans s from (cond b (later_starts kinds d ds) (d.day ∷ later_starts kinds d ds)) → tracked (in_force day first (d ∷ ds)) ≡ tracked (in_force s.0 first (d ∷ ds))) [
        | true ↦ λ e there.
            let same = (texts_decide (tracked first) (tracked d)).0 e in
            same_passed day first d ds same up.2 ∙ same_on_span day s from d ds up.1 up.2 (omega arith) there after before ∙ sym (same_passed s.0 first d ds same up.2)
        | false ↦ λ e there. elim there [
          | inl opens ↦
              let start = ap (λ (t : ℕ × ℕ). t.0) opens in
              let end = ap (λ (t : ℕ × ℕ). t.1) opens in
              ap tracked (early_is day first d ds (omega arith)) ∙ ap tracked (sym (early_is s.0 first d ds (omega arith)))
          | inr later ↦
              let above = in_spans_above s d.day (later_starts kinds d ds) (Rises-later_starts kinds d.day d ds (omega arith) up.1 up.2) later in
              ap tracked (late_is day first d ds (omega arith)) ∙ same_on_span day s d.day d ds up.1 up.2 (omega arith) later after before ∙ ap tracked (sym (late_is s.0 first d ds above))
        ]
      ] refl here

  -- so a tracked slot has its value
  pub same_slot : (place : ℕ) (kind : AttributeType) (c d : Change) → slice_get kinds place ≡ Some kind → is_tracked kind ≡ true → tracked c ≡ tracked d → slot c.values place ≡ slot d.values place
  same_slot place kind c d is counts same =
      let left = get_column (picked is_tracked c.values) kinds 0 place kind [] is in
      let right = get_column (picked is_tracked d.values) kinds 0 place kind [] is in
      let both : slice_get (tracked c ++ []) place ≡ slice_get (tracked d ++ []) place = ap (λ (ts : List (List ℕ)). slice_get (ts ++ []) place) same in
      let zero_left : 0 + place ≡ place = omega arith in
      let l : slice_get (tracked c ++ []) place ≡ Some (slot c.values place) = left ∙ rw (zero_left, counts) refl in
      let r : slice_get (tracked d ++ []) place ≡ Some (slot d.values place) = right ∙ rw (zero_left, counts) refl in
      some_is _ _ (sym l ∙ both ∙ r)

-- what is found among the rows of spans is that of a span, and passes
pub span_found : (kinds : List AttributeType) (number : ℕ) (m : Member) (p : DimRow → Bool) (r : DimRow) (from : ℕ) (more : List ℕ) → find p (map (row kinds number m) (spans from more)) ≡ Some r → (s : ℕ × ℕ) × InSpans s from more × (r ≡ row kinds number m s) × (p r ≡ true)
span_found kinds number m p r from [] h =
    elim (p (row kinds number m (from, last_day))) as (λ b. (p (row kinds number m (from, last_day)) ≡ b) → first_or b (row kinds number m (from, last_day)) None ≡ Some r → (s : ℕ × ℕ) × InSpans s from [] × (r ≡ row kinds number m s) × (p r ≡ true)) [
      | true ↦ λ passes e. let is = sym (some_is _ r e) in ((from, last_day), refl, is, ap p is ∙ passes)
      | false ↦ λ fails e. cc
    ] refl h
span_found kinds number m p r from (next ∷ more) h =
    elim (p (row kinds number m (from, day_before next))) as (λ b. (p (row kinds number m (from, day_before next)) ≡ b) → first_or b (row kinds number m (from, day_before next)) (find p (map (row kinds number m) (spans next more))) ≡ Some r → (s : ℕ × ℕ) × InSpans s from (next ∷ more) × (r ≡ row kinds number m s) × (p r ≡ true)) [
      | true ↦ λ passes e. let is = sym (some_is _ r e) in ((from, day_before next), inl refl, is, ap p is ∙ passes)
      | false ↦ λ fails e. let rest = span_found kinds number m p r next more e in (rest.0, inr rest.1, rest.2, rest.3)
    ] refl h

first_day_shows : (changes : List Change) (start place : ℕ) (column : MainColumn) → shows_first_day column ≡ true → main_text changes start place column ≡ value_at start place changes
first_day_shows changes start place main.Original h = cc
first_day_shows changes start place main.FirstDay h = refl
first_day_shows changes start place main.Latest h = cc
first_day_shows changes start place main.Nothing h = cc

same_value : (kinds : List AttributeType) (h : List Change) (day : ℕ) (s : ℕ × ℕ) (place : ℕ) (kind : AttributeType) → InOrder h → InSpans s first_day (starts kinds h) → s.0 ≤ day → day ≤ s.1 → slice_get kinds place ≡ Some kind → is_tracked kind ≡ true → said place (at day h) ≡ said place (at s.0 h)
same_value kinds [] day s place kind up here after before is counts = refl
same_value kinds (c ∷ cs) day s place kind up here after before is counts =
    same_slot kinds place kind (in_force day c cs) (in_force s.0 c cs) is counts (same_on_span kinds day s first_day c cs up.0 up.1 (from_first c.day up.0) here after before)

-- a row that holds a day begins by then
pub from_held : (day : ℕ) (r : DimRow) → holds day r ≡ true → r.from_day ≤ day
from_held day r h = grind (arith, nat_tests)

-- and ends then or later
pub to_held : (day : ℕ) (r : DimRow) → holds day r ≡ true → day ≤ r.to_day
to_held day r h = grind (arith, nat_tests)

pub shows_the_day : (kinds : List AttributeType) (combinations : List (List (List ℕ))) (m : Member) (day : ℕ) (r : DimRow) (place : ℕ) (kind : AttributeType) → ChangesHaveDays m.changes → find (holds day) (rows kinds combinations m) ≡ Some r → slice_get kinds place ≡ Some kind → is_tracked kind ≡ true → slice_get r.a place ≡ Some (value_at day place m.changes)
shows_the_day kinds combinations m day r place kind ends found is counts =
    let number = profile_now kinds combinations m in
    let span = span_found kinds (profile_now kinds combinations m) m (holds day) r first_day (starts kinds (dated m.changes)) found in
    let s : ℕ × ℕ = span.0 in
    let after : s.0 ≤ day = subst (λ (q : DimRow). q.from_day ≤ day) span.2 (from_held day r span.3) in
    let before : day ≤ s.1 = subst (λ (q : DimRow). day ≤ q.to_day) span.2 (to_held day r span.3) in
    let columns = columns_from (main_column m.changes s.0) 0 kinds in
    let shown = get_column (main_column m.changes s.0) kinds 0 place kind (replicate (6 - length columns) []) is in
    let zero_left : 0 + place ≡ place = omega arith in
    let value : main_column m.changes s.0 place kind ≡ value_at day place m.changes =
    first_day_shows m.changes s.0 place (rule kind).main counts ∙ sym (same_value kinds (dated m.changes) day s place kind (InOrder-dated m.changes ends) span.1 after before is counts) in
    ap (λ (q : DimRow). slice_get q.a place) span.2 ∙ shown ∙ ap (λ n. Some (main_column m.changes s.0 n kind)) zero_left ∙ ap Some value
