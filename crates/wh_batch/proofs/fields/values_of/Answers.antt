use Rattle.std.proofs.Common.{sym, ◌∙◌}
use Rattle.std.proofs.lemmas.Result.{err_from_is_err_and}
use Rattle.wh_batch.proofs.FieldLemmas.{values-next, values-fail, values-done, fields-from, fields-past}
use Rattle.wh_batch.proofs.fields.values_of.Goals as goal

pub returns-in_err-value_of : goal.returns-in_err-value_of
returns-in_err-value_of c =
    let p = err_from_is_err_and c.from_residual.result c.from_residual.ensures.1 in
    let here = fields-from c.args.fields.now c.loop-field.field-index _ c.loop-field-test.true in
    rw (p.1, p.2, ← c.loop-field.invariant, here) (values-fail c.in_err-value_of.field-0.0 c.loop-field.values _ _ c.in_err-value_of.ensures)

pub loop-field-preserved : goal.loop-field-preserved
loop-field-preserved c =
    let here = fields-from c.args.fields.now c.loop-field.field-index _ c.loop-field-test.true in
    rw c.in_ok-push.ensures.ok (sym (values-next c.loop-field.values _ _ c.in_ok-value_of.field-0 c.in_ok-value_of.ensures) ∙ rw here at c.loop-field.invariant)

pub returns : goal.returns
returns c =
    let here = fields-past c.args.fields.now c.loop-field.field-index c.loop-field-test.false in
    sym (rw here at c.loop-field.invariant) ∙ values-done c.loop-field.values
