-- The spans of a member's rows, one after another.
use Rattle.std.proofs.Common.{◌≡◌, ℕ, ◌<◌, ◌≤◌, true, false, cond, List, [], ◌∷◌, map, arith, inl, inr}
use Rattle.std.specs.List.{count_by}
use Rattle.std.proofs.lemmas.Bool.Decides.{nat_tests}
use Rattle.std.proofs.lemmas.Bool.{cases_lt, cases_eq, lt-ltb, eq-eqb, le-ltb, ne_eqb}
use Rattle.std.proofs.lemmas.List.Sums.{sum_by-cons}
use Rattle.wh_day.specs.Day.{first_day, last_day, is_day, day_before}
use Rattle.wh_policy.specs.declared.attribute.AttributeType.{AttributeType}
use Rattle.wh_history.specs.declared.rows.DimRow.{DimRow}
use Rattle.wh_history.specs.declared.member.Change.{Change}
use Rattle.wh_history.specs.declared.member.Member.{Member}
use Rattle.wh_history.specs.Dated.{keep, dated}
use Rattle.wh_history.specs.Rows.{starts, later_starts, same_tracked, spans, row, holds}
use Rattle.wh_history.specs.Laws.{ChangesHaveDays, EachDayHasOneRow, OneRowIsCurrent}
use Rattle.wh_day.proofs.Days.{from_first, to_last}
use Rattle.wh_history.proofs.Calendar.{EndsBefore, ends_before}

-- days that rise from one on, none past the last
abbrev pub Rises : ℕ → List ℕ → Type 0
Rises day [] = Unit {0}
Rises day (next ∷ more) = (day < next) × (next ≤ last_day) × EndsBefore (day_before next) next × Rises next more

module _ (kinds : List AttributeType) (number : ℕ) (m : Member) where
  -- the rows of spans
  abbrev rows_of : List (ℕ × ℕ) → List DimRow
  rows_of = map (row kinds number m)

  -- before the first start no row holds a day
  pub none_before : (day from : ℕ) (more : List ℕ) → Rises from more → day < from → count_by (holds day) (map (row kinds number m) (spans from more)) ≡ 0
  none_before day from [] up early = grind (arith, nat_tests)
  none_before day from (next ∷ more) up early =
      let rest = none_before day next more up.3 (omega arith) in
      let step = sum_by-cons (λ r. cond (holds day r) 1 0) (row kinds number m (from, day_before next)) (rows_of (spans next more)) in
      grind (arith, nat_tests, rest, step)

  -- from it on, one does
  pub one_from : (day from : ℕ) (more : List ℕ) → is_day day ≡ true → Rises from more → from ≤ day → count_by (holds day) (map (row kinds number m) (spans from more)) ≡ 1
  one_from day from [] is up late =
      let within = to_last day is in
      grind (arith, nat_tests)
  one_from day from (next ∷ more) is up late =
      let step = sum_by-cons (λ r. cond (holds day r) 1 0) (row kinds number m (from, day_before next)) (rows_of (spans next more)) in
      elim (cases_lt day next) [
        | inl early ↦
            let rest = none_before day next more up.3 early in
            let before = up.2.1 day is early in
            grind (arith, nat_tests, rest, step)
        | inr later ↦
            let rest = one_from day next more is up.3 later in
            let before = up.2.0 in
            grind (arith, nat_tests, rest, step)
      ]

  -- the last is the current one
  pub one_current : (from : ℕ) (more : List ℕ) → Rises from more → count_by (λ r. r.is_current) (map (row kinds number m) (spans from more)) ≡ 1
  one_current from [] up = grind (arith, nat_tests)
  one_current from (next ∷ more) up =
      let rest = one_current next more up.3 in
      let before = up.2.0 in
      let step = sum_by-cons (λ r. cond r.is_current 1 0) (row kinds number m (from, day_before next)) (rows_of (spans next more)) in
      grind (arith, nat_tests, rest, step)

-- changes in order of their days, after a day
abbrev pub Follows : ℕ → List Change → Type 0
Follows day [] = Unit {0}
Follows day (c ∷ cs) = (day < c.day) × (is_day c.day ≡ true) × Follows c.day cs

abbrev pub InOrder : List Change → Type 0
InOrder [] = Unit {0}
InOrder (c ∷ cs) = (is_day c.day ≡ true) × Follows c.day cs

pub Follows-keep : (day : ℕ) (c : Change) (es : List Change) → day < c.day → is_day c.day ≡ true → Follows day es → Follows day (keep c es)
Follows-keep day c [] early within up = (early, within, tt)
Follows-keep day c (e ∷ es) early within up =
    elim (cases_lt c.day e.day) [
      | inl before ↦ rw (lt-ltb c.day e.day before) (early, within, (before, up.1, up.2))
      | inr late ↦ rw (le-ltb c.day e.day late) (elim (cases_eq c.day e.day) [
        | inl same ↦ rw (eq-eqb c.day e.day same) up
        | inr other ↦ rw (ne_eqb c.day e.day other) (up.0, up.1, Follows-keep e.day c es (omega arith) within up.2)
      ])
    ]

pub InOrder-keep : (c : Change) (es : List Change) → is_day c.day ≡ true → InOrder es → InOrder (keep c es)
InOrder-keep c [] within up = (within, tt)
InOrder-keep c (e ∷ es) within up =
    elim (cases_lt c.day e.day) [
      | inl before ↦ rw (lt-ltb c.day e.day before) (within, (before, up.0, up.1))
      | inr late ↦ rw (le-ltb c.day e.day late) (elim (cases_eq c.day e.day) [
        | inl same ↦ rw (eq-eqb c.day e.day same) up
        | inr other ↦ rw (ne_eqb c.day e.day other) (up.0, Follows-keep e.day c es (omega arith) within up.1)
      ])
    ]

pub InOrder-dated : (cs : List Change) → ChangesHaveDays cs → InOrder (dated cs)
InOrder-dated [] within = tt
InOrder-dated (c ∷ cs) within = InOrder-keep c (dated cs) within.0 (InOrder-dated cs within.1)

-- rows begin at some of the days
pub Rises-later_starts : (kinds : List AttributeType) (day : ℕ) (c : Change) (cs : List Change) → day ≤ c.day → is_day c.day ≡ true → Follows c.day cs → Rises day (later_starts kinds c cs)
Rises-later_starts kinds day c [] late is up = tt
Rises-later_starts kinds day c (d ∷ ds) late is up =
    let rest = Rises-later_starts kinds d.day d ds (omega arith) up.1 up.2 in
    let less = Rises-later_starts kinds day d ds (omega arith) up.1 up.2 in
    let low = from_first c.day is in
    elim (same_tracked kinds c d) as (λ b. Rises day (cond b (later_starts kinds d ds) (d.day ∷ later_starts kinds d ds))) [
      | true ↦ less
      | false ↦ (omega arith, to_last d.day up.1, ends_before d.day up.1 (omega arith), rest)
    ]

pub Rises-starts : (kinds : List AttributeType) (cs : List Change) → InOrder cs → Rises first_day (starts kinds cs)
Rises-starts kinds [] up = tt
Rises-starts kinds (c ∷ cs) up = Rises-later_starts kinds first_day c cs (from_first c.day up.0) up.0 up.1

module _ (kinds : List AttributeType) (number : ℕ) (m : Member) (days : ChangesHaveDays m.changes) where
  rising : Rises first_day (starts kinds (dated m.changes))
  rising = Rises-starts kinds (dated m.changes) (InOrder-dated m.changes days)

  pub each_day_has_one_row : EachDayHasOneRow (map (row kinds number m) (spans first_day (starts kinds (dated m.changes))))
  each_day_has_one_row day is = one_from kinds number m day first_day (starts kinds (dated m.changes)) is rising (from_first day is)

  pub one_row_is_current : OneRowIsCurrent (map (row kinds number m) (spans first_day (starts kinds (dated m.changes))))
  one_row_is_current = one_current kinds number m first_day (starts kinds (dated m.changes)) rising
