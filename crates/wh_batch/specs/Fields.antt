-- The fields of a record that aren't numbers.
use Rattle.std.specs.Prelude.{ℕ, nat_le, if◌then◌else◌, List, [], ◌∷◌, Option, Some, None, Result, Ok, Err, ok_or}
use Rattle.wh_day.specs.Day.{read_day}
use Rattle.wh_day.specs.NaturalKey.{is_key}
use Rattle.wh_day.specs.Value.{read_value}
use Rattle.wh_day.specs.Reading.{◌>>=◌}
use Rattle.wh_batch.specs.declared.fault.FaultKind.{FaultKind}
use Rattle.wh_batch.specs.declared.fault.FaultKind.TheVariants.{BadKey, BadDay, BadValue}

-- the key that a field is
unfoldable pub key_of : ℕ → List ℕ → Result (List ℕ) FaultKind
key_of most field = if is_key most field then Ok field else Err BadKey

-- the key of the customer, whom a sale needn't have
unfoldable pub customer_of : List ℕ → Result (Option (List ℕ)) FaultKind
customer_of [] = Ok None
customer_of (first ∷ rest) = do
  key ← key_of 32 (first ∷ rest)
  Ok (Some key)

-- the day that a field writes
unfoldable pub day_of : List ℕ → Result ℕ FaultKind
day_of field = ok_or (read_day field) BadDay

-- the last day on which a row of a dimension can begin
abbrev pub last_effective_day : ℕ
last_effective_day = 21991231

-- the day on which a row of a dimension begins
unfoldable pub effective_day_of : List ℕ → Result ℕ FaultKind
effective_day_of field = do
  day ← day_of field
  if nat_le day last_effective_day then Ok day else Err BadDay

-- the value that a field writes
unfoldable pub value_of : List ℕ → Result (List ℕ) FaultKind
value_of field = ok_or (read_value field) BadValue

-- the values that fields write, one each
unfoldable pub values_of : List (List ℕ) → Result (List (List ℕ)) FaultKind
values_of [] = Ok []
values_of (field ∷ fields) = do
  value ← value_of field
  values ← values_of fields
  Ok (value ∷ values)
