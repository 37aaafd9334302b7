use Rattle.std.proofs.Common.{refl, rules, ap, ◌∙◌}
use Rattle.std.proofs.lemmas.Result.{err_from_is_err_and}
use Rattle.sqlite.specs.Held.{state}
use Rattle.sqlite.specs.Values.{bound}
use Rattle.wh_rows.specs.Names.{is_there}
use Rattle.wh_sql.proofs.Putting.{remove_leaves, removes_on}
use Rattle.wh_sql.proofs.writing.Writing.remove.Goals as goal

pub returns-in_err-execute : goal.returns-in_err-execute
returns-in_err-execute g c =
    let p = err_from_is_err_and c.from_residual-in_err-execute.result c.from_residual-in_err-execute.ensures.1 in
    let same = ap bound c.deref.ensures.value ∙ c.in_ok-values.ensures.ok in
    rw (p.1, p.2) (record {
      same_reference = refl;
      writes = record { clean = c.execute.ensures.clean; counts = c.execute.ensures.counts; left = λ clean before made at may. remove_leaves _ _ (state g.S.Store c.args.self.now.tables.now.conn) (state g.S.Store c.execute.new.conn) before made at clean c.execute.ensures.survives g.T.StoredTable.layout (is_there g.T.KeyedTable.name made.format) g.T.KeyedTable.bind (rw c.statements.ensures.1 (g.met.T.KeyedTable.means.removes made.format)) };
      edited = λ clean before made at may. tt;
      cause = λ clean inside room types. (λ other. rw (c.statements.ensures.1, same) at (c.in_err-execute.ensures.cause clean inside));
      counted = tt;
      late = λ off. (refl, (c.execute.ensures.late off).1);
      noted = search rules;
    })

pub returns : goal.returns
returns g c =
    let same = ap bound c.deref.ensures.value ∙ c.in_ok-values.ensures.ok in
    record {
      same_reference = refl;
      writes = record { clean = c.execute.ensures.clean; counts = c.execute.ensures.counts; left = λ clean before made at may. remove_leaves _ _ (state g.S.Store c.args.self.now.tables.now.conn) (state g.S.Store c.execute.new.conn) before made at clean c.execute.ensures.survives g.T.StoredTable.layout (is_there g.T.KeyedTable.name made.format) g.T.KeyedTable.bind (rw c.statements.ensures.1 (g.met.T.KeyedTable.means.removes made.format)) };
      edited = λ clean before made at may. removes_on _ _ (state g.S.Store c.args.self.now.tables.now.conn) (state g.S.Store c.execute.new.conn) before made at clean c.execute.ensures.survives g.T.StoredTable.layout g.T.StoredTable.rows g.T.StoredTable.with_rows (is_there g.T.KeyedTable.name) g.met.T.KeyedTable.means.placed c.in_ok-execute.field-0 (c.in_ok-execute.ensures.runs clean) g.T.KeyedTable.bind (rw c.statements.ensures.1 (g.met.T.KeyedTable.means.removes made.format)) c.args.key.now same;
      cause = λ clean inside room types. tt;
      counted = c.in_ok-writes.ensures.more;
      late = λ off. search rules;
      noted = c.replace-refused.ensures.value;
    }
