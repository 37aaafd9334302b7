use Rattle.std.proofs.Common.{◌≡◌, arith, w8, to_z, of_z}
use Rattle.std.specs.Int.{w16}
use Rattle.std.proofs.lemmas.Int.{ints}
use Rattle.wh_day.proofs.Days.{date_day}
use Rattle.wh_day.proofs.day.date_number.Goals as goal

pub invariant_of-result : goal.invariant_of-result
invariant_of-result c =
    let year : to_z w16 (of_z w16 c.year-year.result) ≡ c.year-year.result = omega (arith, ints) in
    let month : to_z w8 (of_z w8 c.month-month.result) ≡ c.month-month.result = omega (arith, ints) in
    let day : to_z w8 (of_z w8 c.day-day.result) ≡ c.day-day.result = omega (arith, ints) in
    rw (year, month, day, c.year-year.ensures, c.month-month.ensures, c.day-day.ensures) (date_day c.args.date c.requires)
