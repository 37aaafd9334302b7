-- Which query the words of a command line ask for, or the first fault.
use Rattle.std.specs.Prelude.{ℕ, if◌then◌else◌, List, [], ◌∷◌, Result, Ok, unwrap_or}
use Rattle.wh_day.specs.Reading.{◌>>=◌}
use Rattle.wh_policy.specs.declared.policy.Policy.{Policy}
use Rattle.wh_report.specs.Request.{range_makes, read_request, subject_reads}
use Rattle.wh_report.specs.Subject.{subject_in}
use Rattle.wh_batch.specs.declared.mode.Mode.{Mode}
use Rattle.wh_batch.specs.declared.mode.Mode.TheVariants.{Was, Is}
use Rattle.wh_report.specs.declared.request.RequestFault.{RequestFault}
use Rattle.wh_batch.specs.QueryWords.{ColumnGiven, ConditionGiven}
use Rattle.wh_query.specs.Asked.{ColumnAsked, ConditionAsked, QueryAsked}
use Rattle.wh_query.specs.declared.form.Form.TheVariants.{Csv}

-- the mode that is given; else `was`, where the attribute has this reading under a policy, and else `is`
abbrev pub mode_meant : Policy → ColumnGiven → Mode
mode_meant policy c = unwrap_or c.mode (if subject_reads Was (subject_in policy c.attribute) then Was else Is)

-- what each of some words makes, or the first fault
abbrev pub read_each : {A B : Type 0} → (A → Result B RequestFault) → List A → Result (List B) RequestFault
read_each read [] = Ok []
read_each read (x ∷ xs) = do
  first ← read x
  others ← read_each read xs
  Ok (first ∷ others)

module _ (policy : Policy) (from to : List ℕ) where
  -- a column, or why the request of the report by it is refused
  abbrev pub read_column : ColumnGiven → Result ColumnAsked RequestFault
  read_column c = do
    request ← read_request policy c.attribute (mode_meant policy c) from to
    Ok (record { words = request.words; mode = request.mode })

  -- a condition, or the fault of its column
  abbrev pub read_condition : ConditionGiven → Result ConditionAsked RequestFault
  read_condition c = do
    column ← read_column c.column
    Ok (record { column = column; label = c.label })

-- The query that the words ask for, answered as CSV, or the first fault: that of the first column, and then of the first condition, for which the request of a report is refused.
unfoldable pub read_query : Policy → List ColumnGiven → List ConditionGiven → List ℕ → List ℕ → Result QueryAsked RequestFault
read_query policy columns conditions from to = do
  shown ← read_each (read_column policy from to) columns
  held ← read_each (read_condition policy from to) conditions
  range_makes from to (λ first last. record { columns = shown; conditions = held; from = first; to = last; form = Csv })
