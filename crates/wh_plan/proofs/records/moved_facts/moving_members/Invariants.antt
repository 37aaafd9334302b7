use Rattle.std.proofs.Common.{◌≡◌, ◌≤◌, ℕ, drop, length, map}
use Rattle.std.specs.Prelude.{option_map}
use Rattle.wh_history.specs.Shapes.{shape_of}
use Rattle.wh_plan.specs.MovedFacts.{pair_of}
use Rattle.wh_plan.specs.OnePass.{mover, moving_of, owner_in}
use Rattle.wh_plan.proofs.records.moved_facts.moving_members.Given as goal

abbrev pub invariant-loop-left : goal.invariant-loop-left
invariant-loop-left l = record {
  within : l.left ≤ length l.touched;
  found : (durable : ℕ) → mover l.members durable ≡ option_map (moving_of (shape_of l.dimension)) (owner_in (map pair_of (drop l.left l.touched)) durable);
}

abbrev pub decreases-loop-left : goal.decreases-loop-left
decreases-loop-left l = l.left
