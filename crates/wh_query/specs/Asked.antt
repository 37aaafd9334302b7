-- What a query asks for.
use Rattle.std.specs.Prelude.{ℕ, Bool, true, false, ◌&&◌, ◌||◌, if◌then◌else◌, nat_le, List, [], ◌∷◌, ◌++◌, bytes_eq, codes, map}
use Rattle.std.specs.Borrow.{Bor}
use Rattle.std.specs.List.{list_any, list_all}
use Rattle.wh_policy.specs.declared.policy.Policy.{Policy}
use Rattle.wh_report.specs.Asked.{Asked}
use Rattle.wh_report.specs.Request.{has_reading}
use Rattle.wh_batch.specs.Mode.{mode_word}
use Rattle.wh_batch.specs.declared.mode.Mode.{Mode}
use Rattle.wh_query.specs.declared.form.Form.{Form}

-- the words for an attribute, and a mode
pub record ColumnAsked : Type 0 where
  pub words : List ℕ
  pub mode : Mode

-- a column and a label
pub record ConditionAsked : Type 0 where
  pub column : ColumnAsked
  pub label : List ℕ

-- the columns, the conditions, the first and the last day, and the form of the answer
pub record QueryAsked : Type 0 where
  pub columns : List ColumnAsked
  pub conditions : List ConditionAsked
  pub from : ℕ
  pub to : ℕ
  pub form : Form

-- the same query with its answer in a form
abbrev pub in_form : Form → QueryAsked → QueryAsked
in_form form q = record q { form = form }

-- the report by one column over the days of the query
abbrev pub report_asked : QueryAsked → ColumnAsked → Asked
report_asked q c = record { words = c.words; mode = c.mode; from = q.from; to = q.to }

-- a column alone, as a report asks for it
abbrev pub alone : ColumnAsked → Asked
alone c = record { words = c.words; mode = c.mode; from = 0; to = 0 }

-- the columns of the conditions
abbrev pub condition_columns : List ConditionAsked → List ColumnAsked
condition_columns conditions = map (λ c. c.column) conditions

-- whether each of some columns has a reading under a policy
abbrev pub have_readings : Policy → List ColumnAsked → Bool
have_readings policy columns = list_all (λ c. has_reading policy (alone c)) columns

-- and each of a query, and of its conditions
abbrev pub query_reads : Policy → QueryAsked → Bool
query_reads policy q = have_readings policy q.columns && have_readings policy (condition_columns q.conditions)

-- from the first day to the last, both included
abbrev pub is_between : QueryAsked → ℕ → Bool
is_between q day = nat_le q.from day && nat_le day q.to

-- the same words and the same mode
abbrev pub same_column : ColumnAsked → ColumnAsked → Bool
same_column a b = bytes_eq a.words b.words && bytes_eq (mode_word a.mode) (mode_word b.mode)

-- whether a label is one of those that the conditions of a column give
abbrev pub accepts : List ConditionAsked → ColumnAsked → List ℕ → Bool
accepts conditions column label = list_any (λ c. bytes_eq c.label label && same_column c.column column) conditions

abbrev pub holds_from : List ConditionAsked → List ConditionAsked → List (List ℕ) → Bool
holds_from all [] labels = true
holds_from all (c ∷ cs) [] = false
holds_from all (c ∷ cs) (l ∷ ls) = accepts all c.column l && holds_from all cs ls

-- whether labels, one in the column of each condition, are as the conditions want them: of one column any of its labels, of all columns
abbrev pub holds : List ConditionAsked → List (List ℕ) → Bool
holds conditions labels = holds_from conditions conditions labels

-- whether these are the words for an attribute of the day of sale
abbrev pub is_of_date : List ℕ → Bool
is_of_date words = bytes_eq words (codes "date.month") || bytes_eq words (codes "date.holiday")

-- how a column is called: ATTRIBUTE:MODE; but an attribute of the day of sale, whose modes show the same, ATTRIBUTE alone
abbrev pub column_name : ColumnAsked → List ℕ
column_name c = if is_of_date c.words then c.words else c.words ++ (codes ":" ++ mode_word c.mode)

-- borrowed texts by their bytes
abbrev pub words_of : List (Bor (List ℕ)) → List (List ℕ)
words_of texts = map (λ t. t.now) texts
