-- What a report reads of a warehouse, and what it says.
use Rattle.std.specs.Prelude.{◌≡◌, ◌≤◌, ◌⊎◌, ℕ, List, [], Option, Result, Ok, Err, option_map, unwrap_or, map, filter_map, length, ⊤}
use Rattle.std.specs.List.{AllByRecursion}
use Rattle.std.specs.List.Sorted.{IsPermutation}
use Rattle.std.specs.Option.{option_and_then}
use Rattle.std.specs.FinMap.{values}
use Rattle.std.specs.declared.alloc.Global.{Global}
use Rattle.std.specs.declared.vec.Vec.{Vec}
use Rattle.wh_policy.specs.declared.attribute.Dim.{Dim}
use Rattle.wh_policy.specs.declared.attribute.Dim.TheVariants.{Product, Store, Customer}
use Rattle.wh_policy.specs.declared.policy.Policy.{Policy}
use Rattle.wh_day.specs.declared.calendar.DateRow.{DateRow}
use Rattle.wh_history.specs.Accepted.{Accepted}
use Rattle.wh_history.specs.declared.facts.Fact.{Fact}
use Rattle.wh_history.specs.declared.rows.DimRow.{DimRow}
use Rattle.wh_rows.specs.Holds.{Layout}
use Rattle.wh_rows.specs.KeyedSales.{read_keyed_sale, shown_of}
use Rattle.wh_rows.specs.Raw.{Stored}
use Rattle.wh_rows.specs.Rows as row
use Rattle.wh_policy.specs.declared.format.Format.{Format}
use Rattle.wh_rows.specs.Facts.{facts_in, facts_table}
use Rattle.wh_rows.specs.Tables.{Tables}
use Rattle.wh_rows.specs.declared.keyed_sale.FactColumn.{FactColumn}
use Rattle.wh_rows.specs.declared.keyed_sale.KeyedSale.{KeyedSale}
use Rattle.wh_rows.specs.declared.rows.ProfileRow.{ProfileRow}
use Rattle.wh_rows.specs.declared.table.Table.{Table}
use Rattle.wh_rows.specs.declared.table.Table.TheVariants as table
use Rattle.wh_store.specs.Scan.{rows_left}
use Rattle.wh_store.specs.declared.scan.Cursor.{Cursor}
use Rattle.wh_admission.specs.Admission.{current_policy}
use Rattle.wh_engine.specs.Scanned.{IsWanting}
use Rattle.wh_engine.specs.declared.fault.Fault.TheVariants as faults
use Rattle.wh_report.specs.Asked.{Asked}
use Rattle.wh_report.specs.Counting.{measures_of, with_label, counted, sales_asked, sales_of, AreLabelled, HasNoLabel}
use Rattle.wh_report.specs.Dumped.{BeginsWith}
use Rattle.wh_report.specs.Joined.{column_of, label_column_fact_key, label_column_table, table_of_dim}
use Rattle.wh_report.specs.Label.{report, text_asked}
use Rattle.wh_report.specs.Labels.{LabelRows, labels_in, first_text}
use Rattle.wh_report.specs.Subject.{subject_in, reading_of}
use Rattle.wh_report.specs.Summary.{Sold, Summed, summed}
use Rattle.wh_report.specs.Sums.{IsMeasured}
use Rattle.wh_report.specs.declared.column.LabelColumn.{LabelColumn}
use Rattle.wh_report.specs.declared.column.LabelColumn.TheVariants.{Main, Second, CurrentMain, FactProfile, CurrentProfile, CalendarMonth, CalendarHoliday}
use Rattle.wh_report.specs.declared.fact.FactFault.{FactFault}
use Rattle.wh_report.specs.declared.fact.FactFault.TheVariants as uncountable
use Rattle.wh_report.specs.declared.output.ReportFault.{ReportFault}
use Rattle.wh_report.specs.declared.output.ReportFault.TheVariants.{Write, Warehouse, Unwritten, Inconsistent}

-- ---- of any tables

-- the rows of a dimension
abbrev pub rows_of_dim : Dim → Tables → List DimRow
rows_of_dim Product t = values t.product
rows_of_dim Store t = values t.store
rows_of_dim Customer t = values t.customer

-- those of them that are left to hand out
abbrev pub left_of_dim : Dim → Tables → Cursor ℕ DimRow → List DimRow
left_of_dim Product t cursor = rows_left row.product t.product cursor
left_of_dim Store t cursor = rows_left row.store t.store cursor
left_of_dim Customer t cursor = rows_left row.customer t.customer cursor

-- the rows of the dimension in which a column stands
abbrev pub rows_for : LabelColumn → Tables → List DimRow
rows_for (Main dim place) t = rows_of_dim dim t
rows_for (Second dim place) t = rows_of_dim dim t
rows_for (CurrentMain dim place) t = rows_of_dim dim t
rows_for (FactProfile place) t = []
rows_for (CurrentProfile place) t = values t.customer
rows_for CalendarMonth t = []
rows_for CalendarHoliday t = []

abbrev pub label_rows : LabelColumn → Tables → LabelRows
label_rows column t = record { rows = rows_for column t; profiles = values t.profile; days = values t.calendar }

-- the text that a key leads to
abbrev pub text_at : LabelColumn → Tables → ℕ → Option (List ℕ)
text_at column t key = first_text key (labels_in column (label_rows column t))

-- the facts of a format in the range, each with the label that its key leads to
abbrev pub sold_by_keys : Format → Asked → LabelColumn → Tables → List Sold
sold_by_keys format r column t = filter_map (counted r column (text_at column t)) (values (facts_in format t))

-- a row that a fact of the range names is missing in the table that is found; or that is the facts', and it has more than can be counted
abbrev pub IsInconsistent : Format → Asked → LabelColumn → (ℕ → Option (List ℕ)) → List Fact → Table → Type 0
IsInconsistent format r column labels facts found = ((found ≡ label_column_table column) × HasNoLabel labels (sales_of r column facts)) ⊎ ((found ≡ facts_table format) × (4_294_967_295 ≤ length facts))

-- what the facts come to, none of the range being passed over, or that they can't be counted
abbrev pub IsSummed : Format → Asked → LabelColumn → (ℕ → Option (List ℕ)) → List Fact → Result Summed ReportFault → Type 0
IsSummed format r column labels facts (Ok sums) = (sums ≡ summed (filter_map (counted r column labels) facts)) × AreLabelled labels (sales_of r column facts)
IsSummed format r column labels facts (Err (Inconsistent found)) = IsInconsistent format r column labels facts found
IsSummed format r column labels facts (Err fault) = ⊤

-- why a fact isn't counted, as a fault of the report
abbrev pub uncounted : Format → LabelColumn → FactFault → ReportFault
uncounted format column uncountable.Memory = Warehouse faults.Memory
uncounted format column uncountable.NoLabel = Inconsistent (label_column_table column)
uncounted format column uncountable.Damaged = Inconsistent (facts_table format)

-- what a report of any tables says; each fact of the range is in it, under the label that its key leads to
abbrev pub ReportsTables : Format → Asked → LabelColumn → Tables → Result (Vec ℕ Global) ReportFault → Type 0
ReportsTables format r column t (Ok text) = (text.items ≡ text_asked r (sold_by_keys format r column t)) × AreLabelled (text_at column t) (sales_of r column (values (facts_in format t)))
ReportsTables format r column t (Err (Inconsistent found)) = IsInconsistent format r column (text_at column t) (values (facts_in format t)) found
ReportsTables format r column t (Err fault) = ⊤

-- ---- of any stored rows

abbrev pub layout_of_dim : Dim → Layout ℕ DimRow
layout_of_dim Product = row.product
layout_of_dim Store = row.store
layout_of_dim Customer = row.customer

-- these are all rows of a dimension by key, each of its type
abbrev pub AreAllOfDim : Dim → Stored → List DimRow → Type 0
AreAllOfDim dim stored rows = BeginsWith (layout_of_dim dim) (stored.rows (table_of_dim dim)) rows []

abbrev pub AreAllProfiles : Stored → List ProfileRow → Type 0
AreAllProfiles stored rows = BeginsWith row.profile (stored.rows table.Profile) rows []

abbrev pub AreAllDays : Stored → List DateRow → Type 0
AreAllDays stored rows = BeginsWith row.calendar (stored.rows table.Calendar) rows []

-- so it is of the rows in which the labels of a column are looked up
abbrev pub AreAllFor : LabelColumn → Stored → LabelRows → Type 0
AreAllFor (Main dim place) stored t = AreAllOfDim dim stored t.rows
AreAllFor (Second dim place) stored t = AreAllOfDim dim stored t.rows
AreAllFor (CurrentMain dim place) stored t = AreAllOfDim dim stored t.rows
AreAllFor (FactProfile place) stored t = AreAllProfiles stored t.profiles
AreAllFor (CurrentProfile place) stored t = AreAllOfDim Customer stored t.rows × AreAllProfiles stored t.profiles
AreAllFor CalendarMonth stored t = AreAllDays stored t.days
AreAllFor CalendarHoliday stored t = AreAllDays stored t.days

-- the text that a key leads to in them
abbrev pub label_in : LabelColumn → LabelRows → ℕ → Option (List ℕ)
label_in column t key = first_text key (labels_in column t)

-- the stored facts of a format are these sales by one of their keys, in any order: each is of its types in the columns that are read
abbrev pub AreAllSales : Format → FactColumn → Stored → List KeyedSale → Type 0
AreAllSales format which stored sales = IsPermutation (map read_keyed_sale sales) (map (shown_of which) (stored.rows (facts_table format)))

-- a row that a sale of the range names is missing in the table that is found; or that is the facts', and it has more than can be counted, or measures that no
-- sale has
abbrev pub AreInconsistent : Format → Asked → LabelColumn → (ℕ → Option (List ℕ)) → List KeyedSale → Table → Type 0
AreInconsistent format r column labels sales found = ((found ≡ label_column_table column) × HasNoLabel labels (sales_asked r sales)) ⊎ ((found ≡ facts_table format) × (AllByRecursion (λ s. IsMeasured (measures_of s)) sales → 4_294_967_295 ≤ length sales))

-- what the sales of the range come to, none being passed over, or that they can't be counted
abbrev pub IsSummedOf : Format → Asked → LabelColumn → (ℕ → Option (List ℕ)) → Stored → Result Summed ReportFault → Type 0
IsSummedOf format r column labels stored (Ok sums) = (sales : List KeyedSale) × AreAllSales format (label_column_fact_key column) stored sales × (sums ≡ summed (filter_map (with_label labels) (sales_asked r sales))) × AreLabelled labels (sales_asked r sales)
IsSummedOf format r column labels stored (Err (Inconsistent found)) = (sales : List KeyedSale) × AreAllSales format (label_column_fact_key column) stored sales × AreInconsistent format r column labels sales found
IsSummedOf format r column labels stored (Err fault) = ⊤

-- what a report of stored rows says: no row of those that it reads is damaged, and each fact of the range is in it, under the label that its key leads to
abbrev pub ReportsStored : Format → Asked → LabelColumn → Stored → Result (Vec ℕ Global) ReportFault → Type 0
ReportsStored format r column stored (Ok text) = (t : LabelRows) × AreAllFor column stored t × ((sales : List KeyedSale) × AreAllSales format (label_column_fact_key column) stored sales
    × (text.items ≡ text_asked r (filter_map (with_label (label_in column t)) (sales_asked r sales))) × AreLabelled (label_in column t) (sales_asked r sales))
ReportsStored format r column stored (Err (Inconsistent found)) = (t : LabelRows) × AreAllFor column stored t × ((sales : List KeyedSale) × AreAllSales format (label_column_fact_key column) stored sales × AreInconsistent format r column (label_in column t) sales found)
ReportsStored format r column stored (Err fault) = ⊤

-- the column that is asked for under a policy
abbrev pub column_asked : Policy → Asked → Option LabelColumn
column_asked policy r = option_and_then (λ subject. option_map (column_of subject) (reading_of subject r.mode)) (subject_in policy r.words)

-- ---- of the accepted commands

-- The report that is asked for: what the sales come to, each under the label that the history gives it.
abbrev pub report_of : List Accepted → Asked → List ℕ
report_of commands r = unwrap_or (option_and_then (λ subject. option_map (λ which. report commands subject which r) (reading_of subject r.mode)) (subject_in (current_policy commands) r.words)) []

-- It is given, or memory ran out or the database refused a call. Nothing else comes.
abbrev pub Reports : List Accepted → Asked → Result (Vec ℕ Global) ReportFault → Type 0
Reports commands r (Ok text) = text.items ≡ report_of commands r
Reports commands r (Err (Warehouse fault)) = IsWanting fault
Reports commands r (Err (Unwritten fault)) = ⊥
Reports commands r (Err (Inconsistent found)) = ⊥
Reports commands r (Err Write) = ⊥
