use Rattle.std.proofs.Common.{◌∷◌, ◌++◌, [], ap, ◌∙◌, refl, sym, subst}
use Rattle.wh_history.specs.declared.plan.Edit.TheVariants.{Put}
use Rattle.wh_plan.specs.BatchRows.{AreBatchRows}
use Rattle.wh_plan.proofs.BatchPlans.{brought_as_edits}
use Rattle.wh_plan.proofs.batch_rows.edits_of_batch.Goals as goal

pub returns-clause-exact : goal.returns-clause-exact
returns-clause-exact c commands sent format stays batch unvoided are =
    let inside = subst (AreBatchRows commands sent) (sym c.rows.view_is) are in
    brought_as_edits commands sent batch unvoided _ inside _ c.args.format format stays refl c.new.ensures.items (c.in_ok-push.ensures.items ∙ ap (λ es. es ++ Put c.rows.inside.command ∷ []) c.new-commands.ensures.items) c.in_ok-puts.ensures c.in_ok-puts-2.ensures refl refl refl c.in_ok-puts-3.ensures c.new-2.ensures.items c.in_tables-facts.ensures.one c.in_tables-facts.ensures.two c.new-3.ensures.items
