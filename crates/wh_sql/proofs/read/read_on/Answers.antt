-- A damaged row stays one of those that are shown.
use Rattle.wh_sql.proofs.RowByRow.{damaged_before, damaged_now}
use Rattle.wh_sql.proofs.read.read_on.Goals as goal

pub returns-in_default-clause-read : goal.returns-in_default-clause-read
returns-in_default-clause-read g c rows are = damaged_before g.T.StoredTable.layout rows c.args.row.now c.args.read c.in_default.is are

pub returns-clause-read : goal.returns-clause-read
returns-clause-read g c rows are = damaged_now g.T.StoredTable.layout rows c.args.row.now (c.in-Err-Fault.ensures.err (λ memory. absurd (let fault = c.in-Err-Fault.field-0-is in cc)))
