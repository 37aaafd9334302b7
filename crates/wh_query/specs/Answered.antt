-- What a query reads of a warehouse, and what it says.
use Rattle.std.specs.Prelude.{◌≡◌, ◌≤◌, ◌⊎◌, ℕ, List, [], ◌∷◌, Result, Ok, Err, map, filter_map, length, ⊤}
use Rattle.std.specs.List.{AllByRecursion}
use Rattle.std.specs.List.Sorted.{IsPermutation}
use Rattle.std.specs.FinMap.{values}
use Rattle.std.specs.declared.alloc.Global.{Global}
use Rattle.std.specs.declared.vec.Vec.{Vec}
use Rattle.wh_policy.specs.declared.format.Format.{Format}
use Rattle.wh_policy.specs.declared.policy.Policy.{Policy}
use Rattle.wh_history.specs.Accepted.{Accepted}
use Rattle.wh_rows.specs.Facts.{facts_in, facts_table}
use Rattle.wh_rows.specs.LinkedSales.{linked, read_linked_sale, links_of}
use Rattle.wh_rows.specs.Raw.{Stored}
use Rattle.wh_rows.specs.Tables.{Tables}
use Rattle.wh_rows.specs.declared.linked_sale.LinkedSale.{LinkedSale}
use Rattle.wh_rows.specs.declared.table.Table.{Table}
use Rattle.wh_engine.specs.Scanned.{IsWanting}
use Rattle.wh_engine.specs.declared.fault.Fault.TheVariants as faults
use Rattle.wh_report.specs.Joined.{label_column_table}
use Rattle.wh_report.specs.Labels.{LabelRows}
use Rattle.wh_report.specs.Reported.{text_at, column_asked, AreAllFor, label_in}
use Rattle.wh_report.specs.Sums.{Figures, IsMeasured}
use Rattle.wh_report.specs.declared.column.LabelColumn.{LabelColumn}
use Rattle.wh_report.specs.declared.output.ReportFault.{ReportFault}
use Rattle.wh_report.specs.declared.output.ReportFault.TheVariants.{Write, Warehouse, Unwritten, Inconsistent}
use Rattle.wh_report.specs.Lines.{added, lines}
use Rattle.wh_query.specs.Answer.{text_in, query}
use Rattle.wh_query.specs.Asked.{ColumnAsked, QueryAsked, alone}
use Rattle.wh_query.specs.Words.{by_texts}
use Rattle.wh_query.specs.Slice.{Lead, measures_of, sold_sales, AreLed, LacksLabel}
use Rattle.wh_query.specs.declared.fault.SaleFault.{SaleFault}
use Rattle.wh_query.specs.declared.fault.SaleFault.TheVariants as uncounted

-- the columns in which the labels of those that are asked for stand
abbrev pub columns_asked : Policy → List ColumnAsked → List LabelColumn
columns_asked policy columns = filter_map (λ c. column_asked policy (alone c)) columns

-- why a sale isn't counted, as a fault
abbrev pub report_fault : Format → SaleFault → ReportFault
report_fault format uncounted.Memory = Warehouse faults.Memory
report_fault format (uncounted.NoLabel column) = Inconsistent (label_column_table column)
report_fault format uncounted.Damaged = Inconsistent (facts_table format)

-- why lines have no text: memory ran out, or together they are more than can be counted
abbrev pub IsUntold : List (List (List ℕ) × Figures) → SaleFault → Type 0
IsUntold ls uncounted.Memory = ⊤
IsUntold ls (uncounted.NoLabel column) = ⊥
IsUntold ls uncounted.Damaged = 4_294_967_295 ≤ (added ls).lines

module _ (format : Format) (q : QueryAsked) (filters columns : List Lead) (sales : List LinkedSale) (TooMany : Type 0) where
  -- a row that a sale of the range names is missing in the table that is found; or that is the facts', and it has more than can be counted
  abbrev pub IsInconsistent : Table → Type 0
  IsInconsistent found = ((column : LabelColumn) × (found ≡ label_column_table column) × LacksLabel q filters columns column sales) ⊎ ((found ≡ facts_table format) × TooMany)

  -- what the sales of the slice come to, none of the range lacking a label, or that they can't be counted
  abbrev pub IsSummed : Result (List (List (List ℕ) × Figures)) ReportFault → Type 0
  IsSummed (Ok ls) = (ls ≡ lines by_texts (sold_sales q filters columns sales)) × AreLed q filters columns sales
  IsSummed (Err (Inconsistent found)) = IsInconsistent found
  IsSummed (Err fault) = ⊤

  -- and the text of it
  abbrev pub IsWritten : Result (Vec ℕ Global) ReportFault → Type 0
  IsWritten (Ok text) = (text.items ≡ text_in q.form q.columns (lines by_texts (sold_sales q filters columns sales))) × AreLed q filters columns sales
  IsWritten (Err (Inconsistent found)) = IsInconsistent found
  IsWritten (Err fault) = ⊤

-- ---- of any tables

-- where a column's labels stand there
abbrev pub lead_in : Tables → LabelColumn → Lead
lead_in t column = record { column = column; labels = text_at column t }

abbrev pub facts_linked : Format → Tables → List LinkedSale
facts_linked format t = map linked (values (facts_in format t))

abbrev pub SumsTables : Format → QueryAsked → List Lead → List Lead → Tables → Result (List (List (List ℕ) × Figures)) ReportFault → Type 0
SumsTables format q filters columns t = IsSummed format q filters columns (facts_linked format t) (4_294_967_295 ≤ length (values (facts_in format t)))

-- What a query of any tables says: each fact of the slice is in it, under the labels that its keys lead to.
abbrev pub AnswersTables : Format → QueryAsked → List LabelColumn → List LabelColumn → Tables → Result (Vec ℕ Global) ReportFault → Type 0
AnswersTables format q filters columns t = IsWritten format q (map (lead_in t) filters) (map (lead_in t) columns) (facts_linked format t) (4_294_967_295 ≤ length (values (facts_in format t)))

-- ---- of any stored rows

-- the stored facts of a format are these sales, in any order: each is of its types in the columns that are read
abbrev pub AreAllLinked : Format → Stored → List LinkedSale → Type 0
AreAllLinked format stored sales = IsPermutation (map read_linked_sale sales) (map links_of (stored.rows (facts_table format)))

abbrev pub TooManyOf : List LinkedSale → Type 0
TooManyOf sales = AllByRecursion (λ s. IsMeasured (measures_of s)) sales → 4_294_967_295 ≤ length sales

-- all rows in which the labels of these columns stand were read, and they lead there
abbrev pub AreLeads : Stored → List LabelColumn → List Lead → Type 0
AreLeads stored [] [] = ⊤
AreLeads stored [] (l ∷ leads) = ⊥
AreLeads stored (c ∷ columns) [] = ⊥
AreLeads stored (c ∷ columns) (l ∷ leads) = ((t : LabelRows) × AreAllFor c stored t × (l ≡ record { column = c; labels = label_in c t })) × AreLeads stored columns leads

-- some sales are all that are stored, and what they come to is this
pub record IsSumOf (format : Format) (q : QueryAsked) (filters columns : List Lead) (stored : Stored) (result : Result (List (List (List ℕ) × Figures)) ReportFault) : Type 0 where
  pub sales : List LinkedSale
  pub all : AreAllLinked format stored sales
  pub summed : IsSummed format q filters columns sales (TooManyOf sales) result

abbrev pub SumsStored : Format → QueryAsked → List Lead → List Lead → Stored → Result (List (List (List ℕ) × Figures)) ReportFault → Type 0
SumsStored format q filters columns stored (Ok ls) = IsSumOf format q filters columns stored (Ok ls)
SumsStored format q filters columns stored (Err (Inconsistent found)) = IsSumOf format q filters columns stored (Err (Inconsistent found))
SumsStored format q filters columns stored (Err fault) = ⊤

-- rows and sales are all that are stored, and this is the answer over them
pub record IsAnswerOf (format : Format) (q : QueryAsked) (filters columns : List LabelColumn) (stored : Stored) (result : Result (Vec ℕ Global) ReportFault) : Type 0 where
  pub filter_leads : List Lead
  pub column_leads : List Lead
  pub sales : List LinkedSale
  pub filters_all : AreLeads stored filters filter_leads
  pub columns_all : AreLeads stored columns column_leads
  pub sales_all : AreAllLinked format stored sales
  pub is_written : IsWritten format q filter_leads column_leads sales (TooManyOf sales) result

-- What a query of stored rows says: no row of those that it reads is damaged, and each fact of the slice is in it, under the labels that its keys lead to.
abbrev pub AnswersStored : Format → QueryAsked → List LabelColumn → List LabelColumn → Stored → Result (Vec ℕ Global) ReportFault → Type 0
AnswersStored format q filters columns stored (Ok text) = IsAnswerOf format q filters columns stored (Ok text)
AnswersStored format q filters columns stored (Err (Inconsistent found)) = IsAnswerOf format q filters columns stored (Err (Inconsistent found))
AnswersStored format q filters columns stored (Err fault) = ⊤

-- ---- of the accepted commands

-- The answer is given, or memory ran out or the database refused a call. Nothing else comes.
abbrev pub Answers : List Accepted → QueryAsked → Result (Vec ℕ Global) ReportFault → Type 0
Answers commands q (Ok text) = text.items ≡ query commands q
Answers commands q (Err (Warehouse fault)) = IsWanting fault
Answers commands q (Err (Unwritten fault)) = ⊥
Answers commands q (Err (Inconsistent found)) = ⊥
Answers commands q (Err Write) = ⊥
