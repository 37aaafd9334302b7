use Rattle.std.proofs.Common.{◌≡◌, ◌++◌, suc, drop}
use Rattle.wh_history.specs.Picked.{picked_from}
use Rattle.wh_history.proofs.trial.pick.Given as goal

abbrev pub invariant-loop-place : goal.invariant-loop-place
invariant-loop-place l = l.table.items ++ picked_from l.rows (suc l.place) (drop l.place l.owners) ≡ l.fn.table.items ++ picked_from l.rows 1 l.owners
