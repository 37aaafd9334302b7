use Rattle.std.proofs.Common.{◌≡◌, drop}
use Rattle.wh_day.specs.Value.{are_same}
use Rattle.wh_day.proofs.values.are_same.Given as goal

abbrev pub invariant-loop-slot : goal.invariant-loop-slot
invariant-loop-slot l = are_same (drop l.slot l.texts) (drop l.slot l.others) ≡ are_same l.texts l.others
