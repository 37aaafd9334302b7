use Rattle.std.proofs.Common.{◌≡◌, ◌∙◌, inl, inr, ℕ, Some, None, pos, to_z, w64, sym, ap, arith}
use Rattle.std.specs.Option.{option_copied}
use Rattle.std.proofs.lemmas.Bool.{cases_Bool}
use Rattle.std.proofs.lemmas.Int.{to_z_pos}
use Rattle.wh_day.specs.Day.{is_day, day_of_key, day_of_number}
use Rattle.wh_history.specs.Plan.{same_holiday, edit_between}
use Rattle.wh_history.proofs.Basics.{some_is}
use Rattle.wh_model.specs.Defined.{day_at}
use Rattle.wh_migration.specs.Migration.{edit_on}
use Rattle.wh_migration.proofs.calendar_plan.edit_on.Goals as goal

-- the day of a number is that number
the_day : (number day : ℕ) → day_of_number number ≡ Some day → day ≡ number
the_day number day is = elim (cases_Bool (is_day number)) [
  | inl there ↦ sym (some_is number day (rw there at is))
  | inr missing ↦ let none : None ≡ Some day = rw missing at is in absurd (cc)
]

pub returns-in_ok-edit-in-Some : goal.returns-in_ok-edit-in-Some
returns-in_ok-edit-in-Some c =
    let number = c.args.number in
    let day = c.in-Some.day in
    let signed : to_z w64 number ≡ pos number = to_z_pos w64 number (omega arith) in
    let read : day_of_number number ≡ Some day = sym (c.from_key.ensures ∙ ap day_of_key signed) ∙ c.in-Some.is in
    c.in_ok-edit-in-Some.ensures
    ∙ ap (λ old. edit_between same_holiday day old (option_copied c.as_ref-in-Some.result)) (c.as_ref.ensures.value ∙ c.in_ok-old-in-Some.ensures)
    ∙ ap (edit_between same_holiday day (day_at c.args.older.now day)) (c.as_ref-in-Some.ensures.value ∙ c.in_ok-new-in-Some.ensures)
    ∙ ap (edit_on c.args.older.now c.args.newer.now) (the_day number day read)
