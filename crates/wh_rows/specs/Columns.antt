-- What a stored value is read as, by the type of its column.
use Rattle.std.specs.Prelude.{ℕ, ◌+◌, ℤ, pos, Bool, true, false, ◌==◌, if◌then◌else◌, List, [], ◌∷◌, Option, Result, Ok, Err, ok_or}
use Rattle.std.specs.Str.{is_utf8}
use Rattle.sqlite_value.specs.declared.value.Value.{Value}
use Rattle.sqlite_value.specs.declared.value.Value.TheVariants.{Int, Text, Blob}
use Rattle.sqlite.specs.Order.{Row, column}
use Rattle.wh_day.specs.Day.{day_of_key}
use Rattle.wh_day.specs.Value.{read_value}
use Rattle.wh_day.specs.Reading.{◌>>=◌}
use Rattle.wh_policy.specs.declared.attribute.Dim.{Dim}
use Rattle.wh_policy.specs.declared.attribute.Dim.TheVariants.{Product, Store, Customer}
use Rattle.wh_rows.specs.declared.columns.Damaged.{Damaged}
use Rattle.wh_rows.specs.Types.{is_number, is_line, is_measure, is_special, is_discount}

-- not a value of the type
abbrev pub damaged : {A : Type 0} → Result A Damaged
damaged = Err (record {})

-- what was read, where it is of the type
abbrev pub of_type : {A : Type 0} → Bool → A → Result A Damaged
of_type is x = if is then Ok x else damaged

abbrev pub or_damaged : {A : Type 0} → Option A → Result A Damaged
or_damaged read = ok_or read (record {})

-- ---- numbers

-- any number
unfoldable pub integer_of : Value → Result ℤ Damaged
integer_of (Int n) = Ok n
integer_of _ = damaged

-- a key, a number or a count
unfoldable pub number_of : Value → Result ℕ Damaged
number_of (Int (pos n)) = of_type (is_number n) n
number_of _ = damaged

-- the number of a line
unfoldable pub line_of : Value → Result ℕ Damaged
line_of (Int (pos n)) = of_type (is_line n) n
line_of _ = damaged

-- a quantity or an amount
unfoldable pub discount_of : Value → Result ℕ Damaged
discount_of (Int (pos n)) = of_type (is_discount n) n
discount_of _ = damaged

unfoldable pub measure_of : ℕ → Value → Result ℤ Damaged
measure_of most (Int n) = of_type (is_measure most n) n
measure_of most _ = damaged

unfoldable pub day_of : Value → Result ℕ Damaged
day_of (Int n) = or_damaged (day_of_key n)
day_of _ = damaged

-- 1 is yes and 0 is no
unfoldable pub flag_of : Value → Result Bool Damaged
flag_of (Int (pos n)) = if n == 0 then Ok false else of_type (n == 1) true
flag_of _ = damaged

-- the dimension of a number
unfoldable pub dim_of : Value → Result Dim Damaged
dim_of (Int (pos n)) = if n == 1 then Ok Product else if n == 2 then Ok Store else of_type (n == 3) Customer
dim_of _ = damaged

-- ---- texts and bytes

unfoldable pub blob_of : Value → Result (List ℕ) Damaged
blob_of (Blob bytes) = Ok bytes
blob_of _ = damaged

-- any text
unfoldable pub text_of : Value → Result (List ℕ) Damaged
text_of (Text t) = of_type (is_utf8 t) t
text_of _ = damaged

-- a text that passes a test
unfoldable pub tested_of : (List ℕ → Bool) → Value → Result (List ℕ) Damaged
tested_of test value = do
  text ← text_of value
  of_type (test text) text

-- the text of a slot
unfoldable pub slot_of : Value → Result (List ℕ) Damaged
slot_of value = do
  text ← text_of value
  if is_special text then Ok text else or_damaged (read_value text)

-- the six slots of a row from a column on
unfoldable pub slots_of : Row → ℕ → Result (List (List ℕ)) Damaged
slots_of row from = do
  one ← slot_of (column row from)
  two ← slot_of (column row (from + 1))
  three ← slot_of (column row (from + 2))
  four ← slot_of (column row (from + 3))
  five ← slot_of (column row (from + 4))
  six ← slot_of (column row (from + 5))
  Ok (one ∷ two ∷ three ∷ four ∷ five ∷ six ∷ [])
