use Rattle.std.proofs.Common.{◌≡◌, ◌++◌}
use Rattle.std.specs.Prelude.{Ok}
use Rattle.std.specs.FinMap.{values}
use Rattle.wh_engine.specs.Scanned.{ReadsThrough}
use Rattle.wh_sql.specs.Answers.{SaysInFormat, SaysAsStoredIn, state_of}
use Rattle.wh_store.specs.Scan.{rows_left, AreLeft, AreValid}
use Rattle.wh_report.specs.Dump.{header_line, row_line}
use Rattle.wh_report.specs.CsvBuffer.{Gathers}
use Rattle.wh_report.proofs.Arranged.{HasSeen}
use Rattle.wh_report.proofs.Parts.{HasGone}
use Rattle.wh_report.proofs.dumps.write_rows.Given as goal

-- of the lines of the rows that were handed out all went out but what is gathered
abbrev pub invariant-rows : goal.invariant-rows
invariant-rows g l = record {
  reads : ReadsThrough {A = Unit {0}} l.fn.engine.session l.engine.session (state_of g.S.Store l.fn.engine.tables) (state_of g.S.Store l.engine.tables) (Ok tt);
  writes : l.engine.writes ≡ l.fn.engine.writes;
  gone : Gathers l.fn.part (header_line g.T.StoredTable.layout) → HasGone (header_line g.T.StoredTable.layout) (row_line g.T.StoredTable.layout)
      (λ done. SaysInFormat g.S.Store g.T.KeyedTable.name l.fn.engine.session.format l.fn.engine.tables l.engine.tables (λ t. done ++ rows_left g.T.StoredTable.layout (g.T.StoredTable.rows t) l.cursor ≡ values (g.T.StoredTable.rows t)))
      (λ done. SaysAsStoredIn g.S.Store g.T.KeyedTable.name l.fn.engine.session.format l.fn.engine.tables l.engine.tables (λ stored. HasSeen g.T.StoredTable.layout (stored.rows g.T.KeyedTable.name) (AreLeft g.T.StoredTable.layout g.T.KeyedTable.bind (stored.rows g.T.KeyedTable.name) l.cursor) done × AreValid g.T.StoredTable.layout l.cursor))
      l.part (g.W.Write.contents l.fn.out) (g.W.Write.contents l.out);
}
