-- What was sold by several attributes at once, for a slice of the sales. No key occurs here.
use Rattle.std.specs.Prelude.{ℕ, ◌&&◌, Bool, List, [], ◌∷◌, ◌++◌, map, filter, unwrap_or, option_map, codes}
use Rattle.std.specs.List.{concat}
use Rattle.std.specs.Option.{option_and_then}
use Rattle.std.specs.Fmt.{decimal, signed_decimal}
use Rattle.csv.specs.Writing.{default_writer, row_text}
use Rattle.wh_policy.specs.declared.record.SaleRecord.{SaleRecord}
use Rattle.wh_history.specs.Accepted.{Accepted, standing}
use Rattle.wh_admission.specs.Admission.{current_policy}
use Rattle.wh_report.specs.Label.{label}
use Rattle.wh_report.specs.Subject.{subject_in, reading_of}
use Rattle.wh_report.specs.Sums.{Measured, Figures, margin}
use Rattle.wh_report.specs.Text.{money}
use Rattle.wh_report.specs.Lines.{Labelled, lines}
use Rattle.wh_query.specs.Asked.{ColumnAsked, QueryAsked, condition_columns, is_between, holds, column_name}
use Rattle.wh_query.specs.Table.{table_text}
use Rattle.wh_query.specs.Words.{by_texts}
use Rattle.wh_query.specs.declared.form.Form.{Form}
use Rattle.wh_query.specs.declared.form.Form.TheVariants as form

-- the label of a sale in a column, as a report by this column has it
abbrev pub label_in : List Accepted → ColumnAsked → SaleRecord → List ℕ
label_in commands c s = unwrap_or (option_and_then (λ subject. option_map (λ which. label commands subject which s) (reading_of subject c.mode)) (subject_in (current_policy commands) c.words)) []

-- its labels in several columns
abbrev pub labels_in : List Accepted → List ColumnAsked → SaleRecord → List (List ℕ)
labels_in commands columns s = map (λ c. label_in commands c s) columns

-- whether it is in the slice: of the range of days, and as the conditions want it
abbrev pub is_in : List Accepted → QueryAsked → SaleRecord → Bool
is_in commands q s = is_between q s.day && holds q.conditions (labels_in commands (condition_columns q.conditions) s)

abbrev pub measures_of : SaleRecord → Measured
measures_of s = record { quantity = s.quantity; amount = s.amount; cost = s.cost }

-- those of some sales that are in the slice, each with its labels
abbrev pub labelled_in : List Accepted → QueryAsked → List SaleRecord → List (Labelled (List (List ℕ)))
labelled_in commands q sales = map (λ s. record { label = labels_in commands q.columns s; measures = measures_of s }) (filter (is_in commands q) sales)

-- those that stand
abbrev pub sold_in : List Accepted → QueryAsked → List (Labelled (List (List ℕ)))
sold_in commands q = labelled_in commands q (standing commands)

-- a line for each tuple of labels that a sale of the slice has
abbrev pub answer : List Accepted → QueryAsked → List (List (List ℕ) × Figures)
answer commands q = lines by_texts (sold_in commands q)

-- ---- the text

-- the fields of a line
abbrev pub line_fields : List (List ℕ) → Figures → List (List ℕ)
line_fields labels t = labels ++ (decimal t.lines ∷ signed_decimal t.quantity ∷ money t.amount ∷ money t.cost ∷ money (margin t) ∷ [])

-- and of the header
abbrev pub header_fields : List ColumnAsked → List (List ℕ)
header_fields columns = map column_name columns ++ (codes "lines" ∷ codes "quantity" ∷ codes "amount" ∷ codes "cost" ∷ codes "margin" ∷ [])

abbrev pub lines_text : List (List (List ℕ) × Figures) → List ℕ
lines_text ls = concat (map (λ l. row_text default_writer (line_fields l.0 l.1)) ls)

-- the header, and a line for each tuple
abbrev pub answer_text : List ColumnAsked → List (List (List ℕ) × Figures) → List ℕ
answer_text columns ls = row_text default_writer (header_fields columns) ++ lines_text ls

-- the lines in a form
abbrev pub text_in : Form → List ColumnAsked → List (List (List ℕ) × Figures) → List ℕ
text_in form.Csv columns ls = answer_text columns ls
text_in form.Table columns ls = table_text columns ls

-- The answer to a query: what the sales of the slice come to, each under its labels.
abbrev pub query : List Accepted → QueryAsked → List ℕ
query commands q = text_in q.form q.columns (answer commands q)
