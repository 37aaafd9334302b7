use Rattle.std.proofs.Common.{List, ap, subst, ◌∙◌}
use Rattle.wh_history.specs.Plan.{IsRowPlan, row_of}
use Rattle.wh_history.specs.Tables.{dimension_row}
use Rattle.wh_history.specs.declared.rows.DimRow.{DimRow}
use Rattle.wh_migration.proofs.AllRows.{row_in_table, shown_rows, plan_by_keys}
use Rattle.wh_migration.proofs.migrated.migrated_edits.Goals as goal

pub returns-clause-edits : goal.returns-clause-edits
returns-clause-edits g c clean limits commands t are at after ends anew =
    let dimension = c.args.dimension.now in
    let stored = c.in_ok-stored.stored.items in
    let new = c.in_ok-after.after.items in
    let edits = c.in_ok-plan_rows.field-0.items in
    let first = subst (λ (old : List DimRow). IsRowPlan (λ key. row_of key old) (λ key. row_of key c.deref-2.result.now) edits) c.deref.ensures.value c.in_ok-plan_rows.ensures in
    let plan = subst (λ (rows : List DimRow). IsRowPlan (λ key. row_of key stored) (λ key. row_of key rows) edits) c.deref-2.ensures.value first in
    plan_by_keys stored new (dimension_row commands dimension.dim) (dimension_row after dimension.dim) edits
    (λ key. ap (row_of key) (c.in_ok-stored.ensures.rows clean limits commands t are at) ∙ row_in_table dimension.dim commands key)
    (shown_rows after ends dimension c.args.members.now new anew c.in_ok-after.ensures)
    plan
