use Rattle.std.proofs.Common.{◌≡◌, ◌++◌, drop}
use Rattle.std.specs.Prelude.{filter_map}
use Rattle.wh_history.specs.Facts.{rekeyed_fact}
use Rattle.wh_history.specs.Shapes.{shape_of, shown}
use Rattle.wh_history.proofs.dimension.DimensionShape.rekeyed_facts.Given as goal

abbrev pub invariant-loop-fact : goal.invariant-loop-fact
invariant-loop-fact l =
    let rekeyed = filter_map (rekeyed_fact (shape_of l.self) (shown l.member)) in
    l.found.items ++ rekeyed (drop l.fact-index l.facts) ≡ rekeyed l.facts
