use Rattle.wh_report.proofs.column_labels.labels_of_dimension.Goals as goal

pub returns-clause-labels : goal.returns-clause-labels
returns-clause-labels g c clean t at = rw c.new-no_profiles.ensures at (c.labels_of_rows.ensures.labels clean t at)

pub returns-clause-stored : goal.returns-clause-stored
returns-clause-stored g c clean stored on = rw c.new-no_profiles.ensures at (c.labels_of_rows.ensures.stored clean stored on)
