use Rattle.std.proofs.Common.{◌≡◌, map, take}
use Rattle.wh_plan.specs.Reading.{change_in}
use Rattle.wh_plan.proofs.reading.changes_of_rows.Given as goal

abbrev pub invariant-loop-row : goal.invariant-loop-row
invariant-loop-row l = l.changes ≡ map change_in (take l.row-index l.rows)
