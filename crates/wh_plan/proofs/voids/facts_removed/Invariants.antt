use Rattle.std.proofs.Common.{◌≡◌, map, take}
use Rattle.wh_plan.specs.VoidEdits.{fact_removed}
use Rattle.wh_plan.proofs.voids.facts_removed.Given as goal

abbrev pub invariant-loop-row : goal.invariant-loop-row
invariant-loop-row l = l.edits.items ≡ map fact_removed (take l.row-index l.rows)
