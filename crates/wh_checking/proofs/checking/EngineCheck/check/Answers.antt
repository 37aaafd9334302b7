use Rattle.std.proofs.Common.{sym, subst, ◌∙◌}
use Rattle.sqlite.specs.Held.{state}
use Rattle.wh_rows.specs.Raw.{stored_of}
use Rattle.wh_rows.proofs.RawTables.{rests_on}
use Rattle.wh_admission.specs.Checked.{stored_in}
use Rattle.wh_checking.specs.Checked.{IsChecked}
use Rattle.wh_checking.proofs.SoundTables.{checked, covers}
use Rattle.wh_engine.proofs.Scanning.{read, shut}
use Rattle.wh_checking.proofs.checking.EngineCheck.check.Goals as goal
use Rattle.wh_sql.proofs.Sparing.{tables_again, tables_left}

pub returns-then-must_reopen-clause-reads : goal.returns-then-must_reopen-clause-reads
returns-then-must_reopen-clause-reads g c = shut g.S.Store c.args.self.now (sym c.must_reopen.ensures ∙ c.if-must_reopen.true)

pub returns-clause-reads : goal.returns-clause-reads
returns-clause-reads g c = rw c.note.ensures (read g.S.Store c.args.self.now c.check_tables-verdict.new.tables c.check_tables-verdict.result (sym c.must_reopen.ensures ∙ c.if-must_reopen.false) c.check_tables-verdict.ensures.reads)

pub returns-clause-sound : goal.returns-clause-sound
returns-clause-sound g c = rw c.note.ensures (λ clean limits commands ready.
    let old = state g.S.Store c.args.self.now.tables.conn in
    let new = state g.S.Store c.check_tables-verdict.new.tables.conn in
    let t = ready.rests.tables in
    let rests = ready.rests.rests in
    let judged = c.check_tables-verdict.ensures.checked clean (stored_of t) (rests_on t old rests) (rw c.format-format.ensures (covers limits commands c.args.self.now.session old new ready)) in
    checked limits commands c.args.self.now.session old new ready c.check_tables-verdict.result
    (subst (λ format. IsChecked (stored_in format (stored_of t)) c.check_tables-verdict.result) c.format-format.ensures judged) (tables_again c.check_tables-verdict.ensures.reads.spares clean t rests) (tables_left c.check_tables-verdict.ensures.reads.spares clean t rests))
