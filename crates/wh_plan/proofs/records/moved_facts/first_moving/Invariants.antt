use Rattle.std.proofs.Common.{◌≡◌, ◌≤◌, drop, length, map}
use Rattle.wh_plan.specs.MovedFacts.{pair_of}
use Rattle.wh_plan.specs.OnePass.{first_moving}
use Rattle.wh_plan.proofs.records.moved_facts.first_moving.Given as goal

abbrev pub invariant-loop-left : goal.invariant-loop-left
invariant-loop-left l = record {
  within : l.left ≤ length l.touched;
  first : l.first ≡ first_moving (map pair_of (drop l.left l.touched));
}

abbrev pub decreases-loop-left : goal.decreases-loop-left
decreases-loop-left l = l.left
