use Rattle.std.proofs.lemmas.Result.{err_from_is_err_and}
use Rattle.wh_sql.proofs.BoundRows.{one_more, not_all}
use Rattle.wh_sql.proofs.insert.bind_rows.Goals as goal

pub returns-in_err-columns-clause-err : goal.returns-in_err-columns-clause-err
returns-in_err-columns-clause-err g c =
    let layout = g.T.StoredTable.layout in
    let p = err_from_is_err_and c.from_residual.result c.from_residual.ensures.1 in
    rw (p.1, p.2) (λ other. let why = c.in_err-columns.ensures.err other in (why.0, not_all layout.encode layout.is_valid c.args.rows.now c.loop-row.row-index c.row-item.result c.loop-row-test.true c.row-item.is why.1))

pub loop-row-preserved : goal.loop-row-preserved
loop-row-preserved g c =
    let layout = g.T.StoredTable.layout in
    one_more layout.encode layout.is_valid _ _ _ c.args.rows.now c.loop-row.row-index c.row-item.result _ c.loop-row-test.true c.row-item.is c.in_ok-columns.ensures.ok
    c.in_ok-append.ensures.ok c.loop-row.invariant
