-- The edits of the days of a policy's years are those between two calendars.
use Rattle.std.proofs.Common.{◌≡◌, inl, inr, ℕ, suc, ◌+◌, ◌-◌, ◌*◌, ◌<◌, ◌≤◌, Bool, true, false, leb, ◌&&◌, cond, List, Some, None, Option, refl, sym, ◌∙◌, ap, arith}
use Rattle.std.specs.Prelude.{bytes_eq}
use Rattle.std.proofs.lemmas.Bool.{and_parts, leb-true, le-leb, cases_Bool}
use Rattle.std.proofs.lemmas.Slice.Eq.{bytes_eq-Decides}
use Rattle.wh_day.specs.Calendar.{date_row}
use Rattle.wh_day.specs.Day.{is_day, year_of, day_of_month}
use Rattle.wh_day.specs.declared.calendar.DateRow.{DateRow}
use Rattle.wh_day.specs.declared.holiday.Holiday.{Holiday}
use Rattle.wh_day.proofs.Days.{Parts, parts, number_is}
use Rattle.wh_policy.specs.Laws.{IsFit}
use Rattle.wh_policy.specs.Names.{fits}
use Rattle.wh_policy.specs.declared.policy.Policy.{Policy}
use Rattle.wh_policy.proofs.NameLaws.{fits_exactly}
use Rattle.wh_history.specs.Plan.{Needs, same_holiday, edit_between}
use Rattle.wh_history.specs.declared.plan.Edit.TheVariants.{Put}
use Rattle.wh_history.proofs.Basics.{some_is}
use Rattle.wh_rows.specs.Rows as row
use Rattle.wh_model.specs.Defined.{day_at}
use Rattle.wh_plan.specs.Edits.{IsTablePlan}
use Rattle.wh_migration.specs.Migration.{edit_on, edits_of_days}
use Rattle.wh_migration.proofs.NumberedPlans.{numbered_plan}

-- a day of the policy's years
abbrev has_day : Policy → ℕ → Bool
has_day policy day = is_day day && leb policy.years.first (year_of day) && leb (year_of day) policy.years.last

record Within (policy : Policy) (day : ℕ) : Type 0 where
  pub is : is_day day ≡ true
  pub from : policy.years.first ≤ year_of day
  pub to : year_of day ≤ policy.years.last

within : (policy : Policy) (day : ℕ) → has_day policy day ≡ true → Within policy day
within policy day has =
    let (first_part, last) = and_parts (is_day day && leb policy.years.first (year_of day)) (leb (year_of day) policy.years.last) has in
    let (is, first) = and_parts (is_day day) (leb policy.years.first (year_of day)) first_part in
    record { is = is; from = leb-true _ _ first; to = leb-true _ _ last }

-- the row of a day is found under its number
pub keyed : (policy : Policy) (day : ℕ) (found : DateRow) → day_at policy day ≡ Some found → row.calendar.key found ≡ day
unfolding date_row
keyed policy day found is =
    elim (cases_Bool (has_day policy day)) [
      | inl has ↦
          let some : Some (date_row policy.holidays day) ≡ Some found = rw has at is in
          ap (λ (r : DateRow). r.date_key) (sym (some_is (date_row policy.holidays day) found some))
      | inr has_not ↦ let none : None ≡ Some found = rw has_not at is in absurd (cc)
    ]

pub month_short : (n : ℕ) → Parts n → day_of_month n ≤ 31
month_short n p = grind (arith, p.day_high)

-- the numbers of the days of the policy's years
record IsNumbered (policy : Policy) (day : ℕ) : Type 0 where
  pub above : policy.years.first * 10000 + 100 < day
  pub below : day ≤ policy.years.last * 10000 + 1231

numbered : (policy : Policy) (day : ℕ) → has_day policy day ≡ true → IsNumbered policy day
numbered policy day has =
    let w = within policy day has in
    let p = parts day w.is in
    let short = month_short day p in
    let from : policy.years.first ≤ year_of day = w.from in
    let to : year_of day ≤ policy.years.last = w.to in
    record { above = omega (arith, p.month_low, p.day_low, number_is day); below = omega (arith, p.month_high, p.day_high, number_is day) }

-- two rows of one day with one holiday are the same
one_row : (older newer : List Holiday) (day : ℕ) → bytes_eq (date_row older day).holiday (date_row newer day).holiday ≡ true → date_row older day ≡ date_row newer day
unfolding date_row
one_row older newer day same = ap (λ text. record (date_row older day) { holiday = text }) ((bytes_eq-Decides (date_row older day).holiday (date_row newer day).holiday).0 same)

module _ (older newer : Policy) (fit : fits older newer ≡ true) where
  is_fit : IsFit older newer
  is_fit = (fits_exactly older newer).0 fit

  stays : (day : ℕ) → has_day older day ≡ true → has_day newer day ≡ true
  stays day has =
      let w = within older day has in
      let from : newer.years.first ≤ year_of day = let first = is_fit.from in let on = w.from in omega arith in
      let to : year_of day ≤ newer.years.last = let last = is_fit.to in let on = w.to in omega arith in
      rw (w.is, le-leb _ _ from, le-leb _ _ to) refl

  both : (day : ℕ) → Needs day (Some (date_row older.holidays day)) (Some (date_row newer.holidays day)) (edit_between same_holiday day (Some (date_row older.holidays day)) (Some (date_row newer.holidays day)))
  both day =
      let old = date_row older.holidays day in
      let new = date_row newer.holidays day in
      elim (bytes_eq old.holiday new.holiday) as (λ b. bytes_eq old.holiday new.holiday ≡ b → Needs day (Some old) (Some new) (cond b None (Some (Put new)))) [
        | true ↦ λ same. inl (one_row older.holidays newer.holidays day same, refl)
        | false ↦ λ other. inr ((λ same. let test : bytes_eq old.holiday new.holiday ≡ true = (bytes_eq-Decides old.holiday new.holiday).1 (ap (λ (r : DateRow). r.holiday) same) in cc), refl)
      ] refl

  abbrev on : Policy → ℕ → Bool → Option DateRow
  on policy day has = cond has (Some (date_row policy.holidays day)) None

  by_days : (day : ℕ) (before after : Bool) → (before ≡ true → after ≡ true) → Needs day (on older day before) (on newer day after) (edit_between same_holiday day (on older day before) (on newer day after))
  by_days day true true kept = both day
  by_days day true false kept = let never = kept refl in absurd cc
  by_days day false true kept = refl
  by_days day false false kept = refl

  none_of : (day : ℕ) → has_day newer day ≡ false → edit_on older newer day ≡ None
  none_of day has_not = elim (cases_Bool (has_day older day)) [
    | inl had ↦ let has = stays day had in absurd (cc)
    | inr had_not ↦ ap (λ old. edit_between same_holiday day old (day_at newer day)) (ap (on older day) had_not) ∙ ap (edit_between same_holiday day None) (ap (on newer day) has_not)
  ]

  outside : (day : ℕ) → (IsNumbered newer day → ⊥) → edit_on older newer day ≡ None
  outside day apart = elim (cases_Bool (has_day newer day)) [
    | inl has ↦ absurd (apart (numbered newer day has))
    | inr has_not ↦ none_of day has_not
  ]

  pub calendar_plan : IsTablePlan row.calendar (day_at older) (day_at newer) (edits_of_days older newer)
  calendar_plan =
      numbered_plan (λ (r : DateRow). r.date_key) (day_at older) (day_at newer) (keyed newer) (edit_on older newer) (λ day. by_days day (has_day older day) (has_day newer day) (stays day))
      (suc (newer.years.first * 10000 + 100)) (newer.years.last * 10000 + 1231 - (newer.years.first * 10000 + 100))
      (λ day before. outside day (λ is. let above = is.above in omega arith)) (λ day past. outside day (λ is. let below = is.below in omega arith))
