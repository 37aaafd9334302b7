use Rattle.std.proofs.Common.{◌≡◌, ◌++◌, map}
use Rattle.wh_plan.specs.FactEdits.{rekey_of}
use Rattle.wh_plan.proofs.fact_edits.each_rekeyed.Given as goal

abbrev pub invariant-loop-fact : goal.invariant-loop-fact
invariant-loop-fact l = l.edits.items ++ map rekey_of l.fact-iterator.rest.items ≡ map rekey_of l.fn.facts.items
