use Rattle.std.proofs.Common.{◌≡◌}
use Rattle.std.specs.Prelude.{Ok}
use Rattle.std.specs.FinMap.{values}
use Rattle.wh_rows.specs.Rows as row
use Rattle.wh_rows.specs.Keys.{bind_number}
use Rattle.wh_rows.specs.declared.table.Table.TheVariants as table
use Rattle.wh_store.specs.Scan.{rows_left, AreLeft, AreValid}
use Rattle.wh_engine.specs.Scanned.{ReadsThrough}
use Rattle.wh_sql.specs.Answers.{SaysAtRest, SaysAsStored, state_of}
use Rattle.wh_report.specs.Labels.{profile_labels, AreLabels}
use Rattle.wh_report.proofs.Arranged.{HasMade}
use Rattle.wh_report.proofs.HandedRows.{Seen}
use Rattle.wh_report.proofs.column_labels.labels_of_profiles.Given as goal

-- the labels so far are those of the rows that were handed out
abbrev pub invariant-profiles : goal.invariant-profiles
invariant-profiles g l = record {
  reads : ReadsThrough {A = Unit {0}} l.fn.engine.session l.engine.session (state_of g.S.Store l.fn.engine.tables) (state_of g.S.Store l.engine.tables) (Ok tt);
  writes : l.engine.writes ≡ l.fn.engine.writes;
  labels : SaysAtRest (state_of g.S.Store l.fn.engine.tables) (state_of g.S.Store l.engine.tables) (λ t. Seen (λ done. AreLabels l.labels (profile_labels l.column done)) (rows_left row.profile t.profile l.cursor) (values t.profile));
  stored : SaysAsStored (state_of g.S.Store l.fn.engine.tables) (state_of g.S.Store l.engine.tables) (λ stored. HasMade row.profile (stored.rows table.Profile) (AreLeft row.profile bind_number (stored.rows table.Profile) l.cursor) (AreValid row.profile l.cursor) (λ done. AreLabels l.labels (profile_labels l.column done)));
}
