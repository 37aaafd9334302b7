use Rattle.std.proofs.Common.{List, ◌++◌, ◌∷◌, [], ◌∙◌, subst}
use Rattle.wh_history.specs.Plan.{IsRowPlan, row_of}
use Rattle.wh_history.specs.declared.rows.DimRow.{DimRow}
use Rattle.wh_plan.proofs.PlanRows.{rows_of_pairs, rows_planned}
use Rattle.wh_plan.proofs.records.record_plan.row_edits.Goals as goal

pub returns : goal.returns
returns c shape commands batch records is typed days days_after touched stored_is =
    let stored = c.args.stored.now in
    let new = c.in_ok-after.after.items in
    let edits = c.in_ok-plan_rows.field-0.items in
    let plan = subst (λ (after : List DimRow). IsRowPlan (λ key. row_of key stored) (λ key. row_of key after) edits) c.deref.ensures.value c.in_ok-plan_rows.ensures in
    let rows = c.in_ok-after.ensures ∙ rows_of_pairs shape commands (commands ++ batch ∷ []) records c.args.touched.items touched in
    rows_planned commands batch shape.dim records shape.kinds is typed shape.number stored new edits days days_after stored_is rows touched.enough plan
