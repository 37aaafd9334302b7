use Rattle.std.proofs.Common.{◌≡◌, map, take}
use Rattle.wh_plan.specs.VoidEdits.{void_of}
use Rattle.wh_plan.proofs.voids.void_rows.Given as goal

abbrev pub invariant-loop-line : goal.invariant-loop-line
invariant-loop-line l = l.rows.items ≡ map (void_of l.number) (take l.line-index l.lines)
