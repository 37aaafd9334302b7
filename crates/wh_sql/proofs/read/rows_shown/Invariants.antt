use Rattle.std.proofs.Common.{◌≡◌}
use Rattle.sqlite.specs.Values.{bound}
use Rattle.wh_sql.proofs.RowByRow.{IsReading}
use Rattle.wh_sql.proofs.read.rows_shown.Given as goal

abbrev pub invariant-rows : goal.invariant-rows
invariant-rows g l = (l.shown.conn.ghost_name ≡ l.initial.shown.conn.ghost_name) × IsReading g.T.StoredTable.layout g.S.Store l.fn.text (bound l.fn.params) l.fn.conn l.shown.conn.now l.read
