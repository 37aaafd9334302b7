use Rattle.std.proofs.Common.{◌≡◌}
use Rattle.sqlite.specs.Values.{bound}
use Rattle.wh_rows.specs.Since.{is_of_members}
use Rattle.wh_sql.proofs.Picking.{IsPicking}
use Rattle.wh_sql.proofs.picked.rows_of_members.Given as goal

abbrev pub invariant-rows : goal.invariant-rows
invariant-rows g l = (l.shown.conn.ghost_name ≡ l.initial.shown.conn.ghost_name)
    × IsPicking g.T.StoredTable.layout (is_of_members (g.M.SomeMembers.among l.fn.members) l.fn.dim) g.S.Store l.fn.text (bound l.fn.params) l.fn.conn l.shown.conn.now l.read
