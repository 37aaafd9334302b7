-- The calendar of a making has the days of the policy's years.
use Rattle.std.proofs.Common.{◌≡◌, inl, inr, ℕ, suc, ◌+◌, ◌-◌, ◌*◌, ◌<◌, ◌≤◌, true, false, leb, ◌&&◌, List, [], ◌∷◌, ◌++◌, Some, None, refl, sym, ◌∙◌, ap, append_assoc, arith}
use Rattle.std.specs.Prelude.{filter_map}
use Rattle.std.specs.List.{range_with_len, cons_option}
use Rattle.std.specs.FinMap.{empty, get, get-empty, nat_cmp-IsAntisymmetric}
use Rattle.std.specs.Ordering.{nat_cmp}
use Rattle.std.proofs.lemmas.Bool.{and_parts, leb-true, le-leb, cases_Bool}
use Rattle.std.proofs.lemmas.Cmp.{nat_cmp_total}
use Rattle.wh_day.specs.Calendar.{date_row}
use Rattle.wh_day.specs.Day.{is_day, day_of_number, year_of}
use Rattle.wh_day.specs.declared.calendar.DateRow.{DateRow}
use Rattle.wh_day.proofs.Days.{parts, number_is}
use Rattle.wh_policy.specs.declared.policy.Policy.{Policy}
use Rattle.wh_history.proofs.Basics.{some_is}
use Rattle.wh_rows.specs.Rows as row
use Rattle.wh_model.specs.Defined.{day_at}
use Rattle.wh_plan.specs.FirstRows.{calendar_rows}
use Rattle.wh_plan.proofs.WrittenRows.{written}
use Rattle.wh_model.proofs.Growing.{Grows}
use Rattle.wh_rows.specs.Steps.{with_rows}
use Rattle.wh_migration.proofs.PlanCalendar.{month_short, keyed}

-- the rows of the days from a number on
abbrev pub rows_from : Policy → ℕ → ℕ → List DateRow
rows_from policy number end = filter_map (day_at policy) (range_with_len number (end - number))

-- ---- what the loop makes

pub at_first : (policy : Policy) (first end : ℕ) → first ≡ policy.years.first * 10000 + 101 → end ≡ policy.years.last * 10000 + 1232 → rows_from policy first end ≡ calendar_rows policy
at_first policy first end from to =
    let start : first ≡ suc (policy.years.first * 10000 + 100) = omega arith in
    let len : end - first ≡ policy.years.last * 10000 + 1231 - (policy.years.first * 10000 + 100) = omega arith in
    rw (len, start) refl

pub at_end : (policy : Policy) (number end : ℕ) → end ≤ number → rows_from policy number end ≡ []
at_end policy number end past =
    let none : end - number ≡ 0 = omega arith in
    rw none refl

next : (policy : Policy) (number end : ℕ) → number < end → rows_from policy number end ≡ cons_option (day_at policy number) (rows_from policy (number + 1) end)
next policy number end within =
    let len : end - number ≡ suc (end - (number + 1)) = omega arith in
    rw len refl

day_of : (policy : Policy) (number : ℕ) → is_day number ≡ true → policy.years.first ≤ year_of number → year_of number ≤ policy.years.last → day_at policy number ≡ Some (date_row policy.holidays number)
day_of policy number found from to = rw (found, le-leb _ _ from, le-leb _ _ to) refl

no_day_of : (policy : Policy) (number : ℕ) → is_day number ≡ false → day_at policy number ≡ None
no_day_of policy number missing = rw missing refl

pub one_day : (policy : Policy) (number end day : ℕ) (items : List DateRow) (found : DateRow)
    → policy.years.first * 10000 + 101 ≤ number → end ≡ policy.years.last * 10000 + 1232 → number < end
    → day_of_number number ≡ Some day → found ≡ date_row policy.holidays day → items ++ rows_from policy number end ≡ calendar_rows policy
    → (items ++ found ∷ []) ++ rows_from policy (number + 1) end ≡ calendar_rows policy
one_day policy number end day items found from to within is row whole =
    elim (cases_Bool (is_day number)) [
      | inl there ↦
          let here : number ≡ day = some_is number day (rw there at is) in
          let at = day_of policy number there (omega arith) (omega arith) in
          let same : found ≡ date_row policy.holidays number = row ∙ ap (date_row policy.holidays) (sym here) in
          append_assoc items (found ∷ []) (rows_from policy (number + 1) end) ∙ ap (λ r. items ++ r ∷ rows_from policy (number + 1) end) same
          ∙ ap (λ o. items ++ cons_option o (rows_from policy (number + 1) end)) (sym at) ∙ ap (λ rest. items ++ rest) (sym (next policy number end within)) ∙ whole
      | inr missing ↦ let none : None ≡ Some day = rw missing at is in absurd (cc)
    ]

pub no_day : (policy : Policy) (number end : ℕ) (items : List DateRow) → number < end → day_of_number number ≡ None → items ++ rows_from policy number end ≡ calendar_rows policy
    → items ++ rows_from policy (number + 1) end ≡ calendar_rows policy
no_day policy number end items within is whole =
    elim (cases_Bool (is_day number)) [
      | inl there ↦ let some : Some number ≡ None = rw there at is in absurd (cc)
      | inr missing ↦ ap (λ o. items ++ cons_option o (rows_from policy (number + 1) end)) (sym (no_day_of policy number missing)) ∙ ap (λ rest. items ++ rest) (sym (next policy number end within)) ∙ whole
    ]

-- ---- what the table has

grows : (policy : Policy) (day : ℕ) → Grows (λ n. n) (policy.years.first * 10000 + 100) (policy.years.last * 10000 + 1231) (λ _. None) (day_at policy) day
grows policy day =
    elim (cases_Bool (is_day day && leb policy.years.first (year_of day) && leb (year_of day) policy.years.last)) [
      | inl all ↦
          let (within, last) = and_parts (is_day day && leb policy.years.first (year_of day)) (leb (year_of day) policy.years.last) all in
          let (found, first) = and_parts (is_day day) (leb policy.years.first (year_of day)) within in
          let p = parts day found in
          let short = month_short day p in
          let from : policy.years.first ≤ year_of day = leb-true _ _ first in
          let to : year_of day ≤ policy.years.last = leb-true _ _ last in
          inr (record {
            number = day;
            is = refl;
            above = omega (arith, p.month_low, p.day_low, number_is day);
            within = omega (arith, p.month_high, p.day_high, number_is day);
            none = refl;
          })
      | inr not_all ↦ inl (record { same = rw not_all refl })
    ]

pub calendar_made : (policy : Policy) (day : ℕ) → get (with_rows row.calendar (calendar_rows policy) empty) day ≡ day_at policy day
calendar_made policy day =
    written row.calendar nat_cmp_total nat_cmp-IsAntisymmetric (day_at policy) (keyed policy) (λ n. n)
    (λ _. None) (policy.years.first * 10000 + 100) (policy.years.last * 10000 + 1231) empty (calendar_rows policy) day (get-empty nat_cmp day) refl (grows policy day)
