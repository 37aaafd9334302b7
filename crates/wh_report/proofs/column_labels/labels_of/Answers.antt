use Rattle.std.specs.Prelude.{List, [], None, ℕ}
use Rattle.wh_day.specs.declared.calendar.DateRow.{DateRow}
use Rattle.wh_policy.specs.declared.attribute.Dim.TheVariants.{Customer}
use Rattle.wh_history.specs.declared.rows.DimRow.{DimRow}
use Rattle.wh_rows.specs.declared.rows.ProfileRow.{ProfileRow}
use Rattle.wh_report.specs.Labels.{AreLabels, first_text, row_labels, profile_labels, date_labels}
use Rattle.wh_report.specs.Reported.{AreAllOfDim, AreAllProfiles, AreAllDays}
use Rattle.wh_report.specs.declared.column.LabelColumn.{LabelColumn}
use Rattle.wh_report.specs.declared.column.LabelColumn.TheVariants.{Main, Second, CurrentMain}
use Rattle.wh_report.proofs.StoredReports.{from_other, from_all, rows_alone, profiles_alone, days_alone}
use Rattle.wh_report.proofs.column_labels.labels_of.Goals as goal

pub returns-in-CurrentProfile-clause-labels : goal.returns-in-CurrentProfile-clause-labels
returns-in-CurrentProfile-clause-labels g c clean t at = rw c.in-CurrentProfile.is (rw c.in-CurrentProfile.is at (c.labels_by_profiles.ensures.labels clean t at))

pub returns-in-Main-clause-stored : goal.returns-in-Main-clause-stored
returns-in-Main-clause-stored g c clean stored on =
    from_other c.args.column (Main c.in-Main.dim c.in-Main.field-1) c.in-Main.is stored c.labels_of_dimension.result (λ (labels : List (ℕ × List ℕ)). (rows : List DimRow) × AreAllOfDim c.in-Main.dim stored rows × AreLabels labels (row_labels (Main c.in-Main.dim c.in-Main.field-1) (λ _. None) rows))
    (λ labels read. (rows_alone read.0, read.1, read.2)) (c.labels_of_dimension.ensures.stored clean stored on)

pub returns-in-Second-clause-stored : goal.returns-in-Second-clause-stored
returns-in-Second-clause-stored g c clean stored on =
    from_other c.args.column (Second c.in-Second.dim c.in-Second.field-1) c.in-Second.is stored c.labels_of_dimension-in-Second.result (λ (labels : List (ℕ × List ℕ)). (rows : List DimRow) × AreAllOfDim c.in-Second.dim stored rows × AreLabels labels (row_labels (Second c.in-Second.dim c.in-Second.field-1) (λ _. None) rows))
    (λ labels read. (rows_alone read.0, read.1, read.2)) (c.labels_of_dimension-in-Second.ensures.stored clean stored on)

pub returns-in-CurrentMain-clause-stored : goal.returns-in-CurrentMain-clause-stored
returns-in-CurrentMain-clause-stored g c clean stored on =
    from_other c.args.column (CurrentMain c.in-CurrentMain.dim c.in-CurrentMain.field-1) c.in-CurrentMain.is stored c.labels_of_dimension-in-CurrentMain.result (λ (labels : List (ℕ × List ℕ)). (rows : List DimRow) × AreAllOfDim c.in-CurrentMain.dim stored rows × AreLabels labels (row_labels (CurrentMain c.in-CurrentMain.dim c.in-CurrentMain.field-1) (λ _. None) rows))
    (λ labels read. (rows_alone read.0, read.1, read.2)) (c.labels_of_dimension-in-CurrentMain.ensures.stored clean stored on)

pub returns-in-FactProfile-clause-stored : goal.returns-in-FactProfile-clause-stored
returns-in-FactProfile-clause-stored g c clean stored on =
    from_all c.args.column _ c.in-FactProfile.is stored c.labels_of_profiles.result (λ (column : LabelColumn) (labels : List (ℕ × List ℕ)). (rows : List ProfileRow) × AreAllProfiles stored rows × AreLabels labels (profile_labels column rows))
    (λ labels read. (profiles_alone read.0, read.1, read.2)) (c.labels_of_profiles.ensures.stored clean stored on)

pub returns-in-CurrentProfile-clause-stored : goal.returns-in-CurrentProfile-clause-stored
returns-in-CurrentProfile-clause-stored g c clean stored on =
    from_all c.args.column _ c.in-CurrentProfile.is stored c.labels_by_profiles.result (λ (column : LabelColumn) (labels : List (ℕ × List ℕ)). (rows : List DimRow) × AreAllOfDim Customer stored rows × ((profiles : List ProfileRow) × AreAllProfiles stored profiles × AreLabels labels (row_labels column (λ number. first_text number (profile_labels column profiles)) rows)))
    (λ labels read. (record { rows = read.0; profiles = read.2.0; days = [] }, (read.1, read.2.1), read.2.2)) (c.labels_by_profiles.ensures.stored clean stored on)

pub returns-in-CalendarMonth-clause-stored : goal.returns-in-CalendarMonth-clause-stored
returns-in-CalendarMonth-clause-stored g c clean stored on =
    from_all c.args.column _ c.in-CalendarMonth.is stored c.labels_of_days.result (λ (column : LabelColumn) (labels : List (ℕ × List ℕ)). (rows : List DateRow) × AreAllDays stored rows × AreLabels labels (date_labels column rows))
    (λ labels read. (days_alone read.0, read.1, read.2)) (c.labels_of_days.ensures.stored clean stored on)

pub returns-in-CalendarHoliday-clause-stored : goal.returns-in-CalendarHoliday-clause-stored
returns-in-CalendarHoliday-clause-stored g c clean stored on =
    from_all c.args.column _ c.in-CalendarHoliday.is stored c.labels_of_days-in-CalendarHoliday.result (λ (column : LabelColumn) (labels : List (ℕ × List ℕ)). (rows : List DateRow) × AreAllDays stored rows × AreLabels labels (date_labels column rows))
    (λ labels read. (days_alone read.0, read.1, read.2)) (c.labels_of_days-in-CalendarHoliday.ensures.stored clean stored on)
