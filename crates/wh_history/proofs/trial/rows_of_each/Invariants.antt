use Rattle.std.proofs.Common.{◌≡◌, ◌++◌, map, drop}
use Rattle.wh_history.specs.Shapes.{shape_of, shape_rows}
use Rattle.wh_history.proofs.trial.rows_of_each.Given as goal

abbrev pub invariant-loop-member : goal.invariant-loop-member
invariant-loop-member l = l.found.items ++ map (shape_rows (shape_of l.dimension)) (drop l.member-index l.members) ≡ map (shape_rows (shape_of l.dimension)) l.members
