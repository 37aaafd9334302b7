use Rattle.std.proofs.Common.{◌≡◌, ◌+◌, drop}
use Rattle.wh_policy.specs.Names.{slot_from}
use Rattle.wh_policy.proofs.names.slot_from.Given as goal

abbrev pub invariant-loop-i : goal.invariant-loop-i
invariant-loop-i l = slot_from (l.i + 1) l.name (drop l.i l.attributes) ≡ slot_from 1 l.name l.attributes
