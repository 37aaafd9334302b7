-- The columns of a batch: what they are called, and which texts they hold.
use Rattle.std.specs.Prelude.{◌≡◌, ℕ, Bool, ◌==◌, if◌then◌else◌, List, length, map, zip, find, position, Option, Some, None, Result, Ok, Err, is_some, option_and_then}
use Rattle.std.specs.Result.{result_err}
use Rattle.wh_day.specs.declared.error.ParseError.{ParseError}
use Rattle.wh_day.specs.declared.error.ParseError.TheVariants as errors
use Rattle.wh_batch.specs.declared.fault.FaultKind.{FaultKind}
use Rattle.wh_batch.specs.declared.fault.FaultKind.TheVariants.{WrongLength}
use Rattle.wh_batch.specs.declared.holds.Holds.{Holds}
use Rattle.wh_batch.specs.declared.holds.Holds.TheVariants.{Ticket, Key, CustomerKey, Day, EffectiveDay, Value, Line, Quantity, Amount, Discount}
use Rattle.wh_batch.specs.Fields.{key_of, customer_of, day_of, effective_day_of, value_of}
use Rattle.wh_batch.specs.Numbers.{line_of, quantity_of, amount_of, discount_of}

-- what a column is called, and what its fields hold
pub record Column : Type 0 where
  pub name : List ℕ
  pub holds : Holds

-- the names of columns, as the header writes them
abbrev pub names : List Column → List (List ℕ)
names columns = map (λ c. c.name) columns

-- this is the fault of what was read, where memory didn't run out
abbrev pub Tells : {X : Type 0} → Result X (ParseError FaultKind) → Option FaultKind → Type 0
Tells (Ok x) fault = fault ≡ None
Tells (Err (errors.Fault kind)) fault = fault ≡ Some kind
Tells (Err errors.Memory) fault = ⊥

-- what is wrong with a text where a field holds this, if something is
abbrev pub fault_in : Holds → List ℕ → Option FaultKind
fault_in Ticket text = result_err (key_of 20 text)
fault_in Key text = result_err (key_of 32 text)
fault_in CustomerKey text = result_err (customer_of text)
fault_in Day text = result_err (day_of text)
fault_in EffectiveDay text = result_err (effective_day_of text)
fault_in Value text = result_err (value_of text)
fault_in Line text = result_err (line_of text)
fault_in Quantity text = result_err (quantity_of text)
fault_in Amount text = result_err (amount_of text)
fault_in Discount text = result_err (discount_of text)

-- whether something is wrong with a column's text
abbrev pub is_at_fault : Column × List ℕ → Bool
is_at_fault field = is_some (fault_in field.0.holds field.1)

-- the place of the first field with which something is wrong, counted from 0
abbrev pub place_at_fault : List Column → List (List ℕ) → Option ℕ
place_at_fault columns fields = position is_at_fault (zip columns fields)

-- what is wrong with that field
abbrev pub first_fault : List Column → List (List ℕ) → Option FaultKind
first_fault columns fields = option_and_then (λ field. fault_in field.0.holds field.1) (find is_at_fault (zip columns fields))

-- what is wrong with the fields of a record: how many they are, or else the first that is at fault
abbrev pub fault_by_columns : List Column → List (List ℕ) → Option FaultKind
fault_by_columns columns fields = if length fields == length columns then first_fault columns fields else Some WrongLength
