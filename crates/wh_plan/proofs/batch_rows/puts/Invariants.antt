use Rattle.std.proofs.Common.{◌≡◌, ◌++◌, map}
use Rattle.wh_history.specs.declared.plan.Edit.TheVariants.{Put}
use Rattle.wh_plan.proofs.batch_rows.puts.Given as goal

abbrev pub invariant-loop-row : goal.invariant-loop-row
invariant-loop-row g l = l.edits.items ++ map Put l.row-iterator.rest.items ≡ map Put l.fn.rows.items
