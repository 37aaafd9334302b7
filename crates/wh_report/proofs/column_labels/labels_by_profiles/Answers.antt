use Rattle.std.specs.FinMap.{values}
use Rattle.std.proofs.lemmas.Result.{IfOk-weaker}
use Rattle.std.specs.Prelude.{List}
use Rattle.wh_policy.specs.declared.attribute.Dim.TheVariants.{Customer}
use Rattle.wh_history.specs.declared.rows.DimRow.{DimRow}
use Rattle.wh_rows.specs.declared.rows.ProfileRow.{ProfileRow}
use Rattle.wh_report.specs.Labels.{AreLabels, first_text, row_labels, profile_labels}
use Rattle.wh_report.specs.Reported.{AreAllOfDim, AreAllProfiles}
use Rattle.wh_report.proofs.EngineReading.{and_then}
use Rattle.wh_report.proofs.Entries.{labels_through}
use Rattle.wh_report.proofs.column_labels.labels_by_profiles.Goals as goal
use Rattle.wh_sql.proofs.Sparing.{stored_again, tables_again}

pub returns-clause-labels : goal.returns-clause-labels
returns-clause-labels g c clean t at =
    let first = c.in_ok-profiles.ensures in
    let second = c.labels_of_rows.ensures in
    let before = second.reads.spares.clean clean in
    IfOk-weaker _ _ _ (λ labels of. labels_through c.args.column (values t.customer) (profile_labels c.args.column (values t.profile)) _ labels (first.labels before t at) of)
    (second.labels clean t (tables_again first.reads.spares before t at tt))

pub returns-clause-stored : goal.returns-clause-stored
returns-clause-stored g c clean stored on =
    let first = c.in_ok-profiles.ensures in
    let second = c.labels_of_rows.ensures in
    let before = second.reads.spares.clean clean in
    let read = first.stored before stored on in
    IfOk-weaker _ _ (λ labels. (rows : List DimRow) × AreAllOfDim Customer stored rows × ((profiles : List ProfileRow) × AreAllProfiles stored profiles × AreLabels labels (row_labels c.args.column (λ number. first_text number (profile_labels c.args.column profiles)) rows))) (λ labels rows. (rows.0, rows.1, (read.0, read.1, labels_through c.args.column rows.0 (profile_labels c.args.column read.0) _ labels read.2 rows.2)))
    (second.stored clean stored (stored_again first.reads.spares before stored on tt))

pub returns-clause-reads : goal.returns-clause-reads
returns-clause-reads g c = and_then _ _ _ _ _ _ _ _ c.in_ok-profiles.ensures.reads c.labels_of_rows.ensures.reads
