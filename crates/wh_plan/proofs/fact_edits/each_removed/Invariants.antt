use Rattle.std.proofs.Common.{◌≡◌, map, take}
use Rattle.wh_plan.specs.FactEdits.{remove_of}
use Rattle.wh_plan.proofs.fact_edits.each_removed.Given as goal

abbrev pub invariant-loop-fact : goal.invariant-loop-fact
invariant-loop-fact l = l.edits.items ≡ map remove_of (take l.fact-index l.facts)
