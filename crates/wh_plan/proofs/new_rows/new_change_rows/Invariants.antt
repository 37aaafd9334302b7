use Rattle.std.proofs.Common.{◌≡◌, ◌++◌, suc, drop}
use Rattle.wh_plan.specs.NewRows.{by_place, new_change}
use Rattle.wh_plan.proofs.new_rows.new_change_rows.Given as goal

abbrev pub invariant-loop-place : goal.invariant-loop-place
invariant-loop-place l = let give = new_change l.dim l.command l.touched in l.rows.items ++ by_place give (suc l.place) (drop l.place l.records) ≡ by_place give 1 l.records
