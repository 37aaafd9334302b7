use Rattle.std.proofs.Common.{sym, ◌∙◌}
use Rattle.std.proofs.lemmas.Result.{err_from_is_err_and}
use Rattle.wh_policy.specs.Holidays.{holiday_of}
use Rattle.wh_policy.proofs.ReadingLemmas.{each-next, each-fail, each-done, tables-from, tables-past}
use Rattle.wh_policy.proofs.holidays.holiday_list.Goals as goal

pub returns-in_err-next : goal.returns-in_err-next
returns-in_err-next c =
    let p = err_from_is_err_and c.from_residual.result c.from_residual.ensures.1 in
    let here = rw (← c.table-item.is) at (tables-from c.args.tables.now c.loop-table.table-index c.table-item.result c.loop-table-test.true) in
    let front = c.loop-table.holidays in
    rw (p.1, p.2, ← c.loop-table.invariant, here) (each-fail (holiday_of c.args.years) c.in_err-next.field-0.0 front front _ _ c.in_err-next.ensures.value)

pub loop-table-preserved : goal.loop-table-preserved
loop-table-preserved c =
    let here = rw (← c.table-item.is) at (tables-from c.args.tables.now c.loop-table.table-index c.table-item.result c.loop-table-test.true) in
    let front = c.loop-table.holidays in
    let step = each-next (holiday_of c.args.years) front front _ _ c.in_ok-next.next c.in_ok-next.ensures.value in
    rw c.in_ok-push.ensures.ok (sym step ∙ rw here at c.loop-table.invariant)

pub returns : goal.returns
returns c =
    let here = tables-past c.args.tables.now c.loop-table.table-index c.loop-table-test.false in
    sym (rw here at c.loop-table.invariant) ∙ each-done (holiday_of c.args.years) c.loop-table.holidays c.loop-table.holidays
