use Rattle.std.proofs.Common.{◌≡◌, map, take}
use Rattle.wh_history.specs.declared.plan.Edit.TheVariants.{Put}
use Rattle.wh_plan.specs.declared.edits.FactEdit.TheVariants.{Row}
use Rattle.wh_engine.proofs.write.facts_put.Given as goal

abbrev pub invariant-loop-edit : goal.invariant-loop-edit
invariant-loop-edit l = map (λ fact. Row (Put fact)) (map (λ f. f.now) l.facts.items) ≡ take l.edit-index l.edits
