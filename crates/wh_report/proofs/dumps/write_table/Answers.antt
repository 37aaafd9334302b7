use Rattle.std.proofs.Common.{[], refl, sym, ◌∙◌}
use Rattle.std.proofs.lemmas.Result.{err_from_is_err_and}
use Rattle.std.specs.FinMap.{values}
use Rattle.wh_engine.proofs.Scanning.{unserved}
use Rattle.wh_report.specs.Dump.{header_line, row_line}
use Rattle.wh_report.proofs.Arranged.{none_read}
use Rattle.wh_report.proofs.EngineReading.{only_flagged}
use Rattle.wh_report.proofs.Parts.{no_line}
use Rattle.wh_report.proofs.dumps.write_table.Goals as goal

pub returns-then-must_reopen-clause-reads : goal.returns-then-must_reopen-clause-reads
returns-then-must_reopen-clause-reads g c = unserved _ _ (sym c.must_reopen.ensures ∙ c.if-must_reopen.true)

pub returns-then-must_reopen-clause-stored : goal.returns-then-must_reopen-clause-stored
returns-then-must_reopen-clause-stored g c clean stored same on = record { rows = []; read = none_read g.T.StoredTable.layout (stored.rows g.T.KeyedTable.name); out = refl; named = tt }

pub returns-in_err-add_names-clause-out : goal.returns-in_err-add_names-clause-out
returns-in_err-add_names-clause-out g c clean t same at =
    let p = err_from_is_err_and c.from_residual.result c.from_residual.ensures.1 in
    rw (p.1, p.2) (no_line (header_line g.T.StoredTable.layout) (row_line g.T.StoredTable.layout) _ (values (g.T.StoredTable.rows t)))

pub returns-in_err-add_names-clause-stored : goal.returns-in_err-add_names-clause-stored
returns-in_err-add_names-clause-stored g c clean stored same on =
    let layout = g.T.StoredTable.layout in
    let p = err_from_is_err_and c.from_residual.result c.from_residual.ensures.1 in
    rw (p.1, p.2) (record { rows = []; read = none_read layout (stored.rows g.T.KeyedTable.name); out = no_line (header_line layout) (row_line layout) _ []; named = tt })

pub returns-clause-out : goal.returns-clause-out
returns-clause-out g c clean t same at = c.write_rows.ensures.out (c.in_ok-add_names.ensures [] c.new-part.ensures) (sym c.must_reopen.ensures ∙ c.if-must_reopen.false) clean t same at

pub returns-clause-stored : goal.returns-clause-stored
returns-clause-stored g c clean stored same on = c.write_rows.ensures.stored (c.in_ok-add_names.ensures [] c.new-part.ensures) (sym c.must_reopen.ensures ∙ c.if-must_reopen.false) clean stored same on

pub returns-clause-only : goal.returns-clause-only
returns-clause-only g c = only_flagged _ _ _ _ _ c.write_rows.ensures.reads
