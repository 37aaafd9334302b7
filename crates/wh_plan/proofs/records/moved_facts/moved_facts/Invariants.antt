use Rattle.std.proofs.Common.{◌≡◌, ◌++◌, drop}
use Rattle.std.specs.Prelude.{filter_map}
use Rattle.wh_history.specs.Shapes.{shape_of}
use Rattle.wh_plan.specs.OnePass.{moved_fact, mover}
use Rattle.wh_plan.proofs.records.moved_facts.moved_facts.Given as goal

abbrev pub invariant-loop-fact : goal.invariant-loop-fact
invariant-loop-fact l =
    let moves = filter_map (moved_fact (shape_of l.dimension) (mover l.members)) in
    l.moved.items ++ moves (drop l.fact-index l.facts) ≡ moves l.facts
