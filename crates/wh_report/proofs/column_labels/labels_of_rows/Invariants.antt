use Rattle.std.proofs.Common.{◌≡◌}
use Rattle.std.specs.Prelude.{Ok}
use Rattle.wh_report.specs.Joined.{table_of_dim}
use Rattle.wh_report.specs.Reported.{left_of_dim, rows_of_dim, layout_of_dim}
use Rattle.wh_rows.specs.Keys.{bind_number}
use Rattle.wh_store.specs.Scan.{AreLeft, AreValid}
use Rattle.wh_engine.specs.Scanned.{ReadsThrough}
use Rattle.wh_sql.specs.Answers.{SaysAtRest, SaysAsStored, state_of}
use Rattle.wh_report.specs.Labels.{labels_get, row_labels, AreLabels}
use Rattle.wh_report.proofs.Arranged.{HasMade}
use Rattle.wh_report.proofs.HandedRows.{Seen}
use Rattle.wh_report.proofs.column_labels.labels_of_rows.Given as goal

-- the labels so far are those of the rows that were handed out
abbrev pub invariant-rows : goal.invariant-rows
invariant-rows g l = record {
  reads : ReadsThrough {A = Unit {0}} l.fn.engine.session l.engine.session (state_of g.S.Store l.fn.engine.tables) (state_of g.S.Store l.engine.tables) (Ok tt);
  writes : l.engine.writes ≡ l.fn.engine.writes;
  labels : SaysAtRest (state_of g.S.Store l.fn.engine.tables) (state_of g.S.Store l.engine.tables) (λ t. Seen (λ done. AreLabels l.labels (row_labels l.column (labels_get l.profiles) done)) (left_of_dim l.dim t l.cursor) (rows_of_dim l.dim t));
  stored : SaysAsStored (state_of g.S.Store l.fn.engine.tables) (state_of g.S.Store l.engine.tables) (λ stored. HasMade (layout_of_dim l.dim) (stored.rows (table_of_dim l.dim)) (AreLeft (layout_of_dim l.dim) bind_number (stored.rows (table_of_dim l.dim)) l.cursor) (AreValid (layout_of_dim l.dim) l.cursor) (λ done. AreLabels l.labels (row_labels l.column (labels_get l.profiles) done)));
}
