use Rattle.std.proofs.Common.{◌/◌, ◌%◌, arith, refl}
use Rattle.std.proofs.Output.{has_written_of_eq}
use Rattle.wh_day.specs.Day.{year_of, month_of, day_of_month}
use Rattle.wh_day.proofs.Days.{parts}
use Rattle.wh_day.proofs.Texts.{padded_two}
use Rattle.wh_day.proofs.day.DayDisplay.fmt.Goals as goal

pub returns-clause-writes : goal.returns-clause-writes
returns-clause-writes g c = λ plain ok.
    let key = c.self.inside.key in
    let p = parts key c.self.invariant in
    has_written_of_eq _ _ _ _ _
    (rw (
      c.laid_out.ensures,
      c.laid_out-2.ensures,
      c.laid_out-3.ensures,
      c.laid_out-4.ensures,
      padded_two (year_of key / 100) (omega (arith, p.year_high)),
      padded_two (year_of key % 100) (omega arith),
      padded_two (month_of key) (omega arith),
      padded_two (day_of_month key) (omega arith),
      ← c.self.view_is,
    ) refl)
    (c.write.ensures.writes plain ok)
