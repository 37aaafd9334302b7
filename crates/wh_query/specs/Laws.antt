-- What holds of every query.
use Rattle.std.specs.Prelude.{◌≡◌, ℕ, zero, suc, Bool, true, false, List, [], ◌∷◌, ◌++◌, map, filter, Some, None, Ok, is_some, bytes_eq}
use Rattle.std.specs.List.{AllByRecursion}
use Rattle.std.specs.List.Sorted.{IsPermutation, IsStrictlySortedBy}
use Rattle.wh_day.specs.Reading.{◌>>=◌}
use Rattle.wh_policy.specs.declared.policy.Policy.{Policy}
use Rattle.wh_policy.specs.declared.record.VoidRecord.{VoidRecord}
use Rattle.wh_history.specs.Accepted.{Accepted, Withdraws, standing, standing_but}
use Rattle.wh_admission.specs.Admission.{current_policy}
use Rattle.wh_report.specs.Asked.{Asked}
use Rattle.wh_report.specs.Label.{sold_as_asked}
use Rattle.wh_report.specs.Laws.{total_line, EndsWith}
use Rattle.wh_report.specs.Lines.{Labelled, figures, lines, added}
use Rattle.wh_report.specs.Request.{read_request, subject_reads}
use Rattle.wh_report.specs.Subject.{subject_in, reading_of}
use Rattle.wh_report.specs.Sums.{Measured}
use Rattle.wh_report.specs.Summary.{Sold, by_bytes, summed}
use Rattle.wh_report.specs.Text.{summary_text, titles}
use Rattle.wh_report.specs.declared.subject.Reading.{Reading}
use Rattle.wh_report.specs.declared.subject.Subject.{Subject}
use Rattle.wh_query.specs.Answer.{is_in, labelled_in, measures_of, answer, query}
use Rattle.wh_query.specs.Asked.{ColumnAsked, ConditionAsked, QueryAsked, column_name, report_asked, query_reads, same_column}
use Rattle.wh_query.specs.Reading.{mode_meant, read_query}
use Rattle.wh_batch.specs.QueryWords.{ColumnGiven, ConditionGiven}
use Rattle.wh_query.specs.Table.{table_text}
use Rattle.wh_query.specs.Words.{by_texts}
use Rattle.wh_query.specs.declared.form.Form.{Form}
use Rattle.wh_query.specs.declared.form.Form.TheVariants.{Csv, Table}

-- What a report sums by labels are the lines by labels that are texts.
abbrev pub ReportsHaveLines : Type 0
ReportsHaveLines = (sales : List Sold) → (summed sales).lines ≡ lines by_bytes sales

-- By one column and without conditions the lines are those of the report by this column.
abbrev pub ReportsAreQueries : Type 0
ReportsAreQueries = (commands : List Accepted) (c : ColumnAsked) (from to : ℕ) (form : Form) (subject : Subject) (which : Reading)
    → subject_in (current_policy commands) c.words ≡ Some subject
    → reading_of subject c.mode ≡ Some which
    → let q : QueryAsked = record { columns = c ∷ []; conditions = []; from = from; to = to; form = form } in answer commands q ≡ map (λ l. (l.0 ∷ [], l.1)) (summed (sold_as_asked commands subject which (report_asked q c))).lines

-- the measures of the sales of the slice
abbrev pub measures_in : List Accepted → QueryAsked → List Measured
measures_in commands q = map measures_of (filter (is_in commands q) (standing commands))

-- All lines together come to what those do: it is the same for any columns.
abbrev pub LinesAddUp : Type 0
LinesAddUp = (commands : List Accepted) (q : QueryAsked) → added (answer commands q) ≡ figures (measures_in commands q)

-- the same slice by other columns
abbrev pub by_columns : List ColumnAsked → QueryAsked → QueryAsked
by_columns columns q = record { columns = columns; conditions = q.conditions; from = q.from; to = q.to; form = q.form }

abbrev pub SumsAgree : Type 0
SumsAgree = (commands : List Accepted) (q : QueryAsked) (columns : List ColumnAsked) → added (answer commands (by_columns columns q)) ≡ added (answer commands q)

-- A table ends with the line that they come to.
abbrev pub TablesEndWithTotals : Type 0
TablesEndWithTotals = (commands : List Accepted) (q : QueryAsked) → EndsWith (table_text q.columns (answer commands q)) (total_line (measures_in commands q))

-- By one column and without conditions a table is what the report by this column has below its request, under this column's name.
abbrev pub TablesAreReports : Type 0
TablesAreReports = (commands : List Accepted) (c : ColumnAsked) (from to : ℕ) (subject : Subject) (which : Reading)
    → subject_in (current_policy commands) c.words ≡ Some subject
    → reading_of subject c.mode ≡ Some which
    → let q : QueryAsked = record { columns = c ∷ []; conditions = []; from = from; to = to; form = Table } in query commands q ≡ titles (column_name c) ++ summary_text (summed (sold_as_asked commands subject which (report_asked q c)))

-- the query where a column has a label, and the one by this column and its own
abbrev pub sliced : ColumnAsked → List ℕ → QueryAsked → QueryAsked
sliced c label q = record { columns = q.columns; conditions = record { column = c; label = label } ∷ q.conditions; from = q.from; to = q.to; form = q.form }

abbrev pub by_column : ColumnAsked → QueryAsked → QueryAsked
by_column c q = by_columns (c ∷ q.columns) q

-- whether the first of some labels is this
abbrev pub begins : List ℕ → List (List ℕ) → Bool
begins label [] = false
begins label (l ∷ ls) = bytes_eq l label

-- no condition is of the column
abbrev pub IsFree : ColumnAsked → List ConditionAsked → Type 0
IsFree c conditions = AllByRecursion (λ d. same_column d.column c ≡ false) conditions

-- A slice by a label has just those lines of the query by the label's column, too, that begin with the label.
abbrev pub SlicesAreLines : Type 0
SlicesAreLines = (commands : List Accepted) (q : QueryAsked) (c : ColumnAsked) (label : List ℕ) → IsFree c q.conditions
    → map (λ l. (label ∷ l.0, l.1)) (answer commands (sliced c label q)) ≡ filter (λ l. begins label l.0) (answer commands (by_column c q))

-- The order of the sales doesn't matter.
abbrev pub AnyOrder : Type 0
AnyOrder = (sales others : List (Labelled (List (List ℕ)))) → IsPermutation sales others → lines by_texts others ≡ lines by_texts sales

-- The labels of the lines rise: each tuple comes once, in order.
abbrev pub LinesRise : Type 0
LinesRise = (commands : List Accepted) (q : QueryAsked) → IsStrictlySortedBy by_texts (map (λ l. l.0) (answer commands q))

-- two neighbours exchanged, the first of them behind n others
abbrev pub exchanged : {X : Type 0} → ℕ → List X → List X
exchanged zero [] = []
exchanged zero (x ∷ []) = x ∷ []
exchanged zero (x ∷ y ∷ xs) = y ∷ x ∷ xs
exchanged (suc n) [] = []
exchanged (suc n) (x ∷ xs) = x ∷ exchanged n xs

-- The order of the columns only orders the lines: with two neighbouring columns exchanged they are those that there were, each with these two labels exchanged and with the same figures, in another order. Such exchanges, repeated, lead to any order of the columns.
abbrev pub ColumnsOrderLines : Type 0
ColumnsOrderLines = (commands : List Accepted) (q : QueryAsked) (n : ℕ) → IsPermutation (map (λ l. (exchanged n l.0, l.1)) (answer commands q)) (answer commands (by_columns (exchanged n q.columns) q))

-- What queries no longer sum after a batch of voids are the sales of its lines, and no others; the others keep their labels, and so their place in the slice.
abbrev pub VoidsTakeTheirSales : Type 0
VoidsTakeTheirSales = (commands : List Accepted) (c : Accepted) (voids : List VoidRecord) (q : QueryAsked)
    → c.content ≡ Withdraws voids
    → answer (commands ++ c ∷ []) q ≡ lines by_texts (labelled_in commands q (standing_but voids (standing commands)))

-- ---- queries that words ask for

-- Each column of a query that is read has a reading, also of a condition.
abbrev pub QueriesHaveReadings : Type 0
QueriesHaveReadings = (policy : Policy) (columns : List ColumnGiven) (conditions : List ConditionGiven) (from to : List ℕ) (q : QueryAsked) → read_query policy columns conditions from to ≡ Ok q → query_reads policy q ≡ true

-- Without a mode each attribute that there is has one.
abbrev pub NoModeIsNeeded : Type 0
NoModeIsNeeded = (policy : Policy) (attribute : List ℕ) → is_some (subject_in policy attribute) ≡ true → subject_reads (mode_meant policy (record { attribute = attribute; mode = None })) (subject_in policy attribute) ≡ true

-- the query by the column of a report
abbrev pub of_request : Asked → QueryAsked
of_request r = record { columns = record { words = r.words; mode = r.mode } ∷ []; conditions = []; from = r.from; to = r.to; form = Csv }

-- One column alone makes the query of the report by it, and is refused exactly where the request of that is, for the same fault.
abbrev pub ReadAsRequests : Type 0
ReadAsRequests = (policy : Policy) (c : ColumnGiven) (from to : List ℕ) → read_query policy (c ∷ []) [] from to ≡ (read_request policy c.attribute (mode_meant policy c) from to >>= λ r. Ok (of_request r))
