use Rattle.std.proofs.Common.{◌≡◌, ◌-◌, length}
use Rattle.wh_history.specs.Slots.{padded}
use Rattle.wh_history.proofs.slots.pad.Given as goal

abbrev pub invariant-slots : goal.invariant-slots
invariant-slots l = padded l.text l.values ≡ padded l.text l.fn.values

abbrev pub decreases-slots : goal.decreases-slots
decreases-slots l = 6 - length l.values
