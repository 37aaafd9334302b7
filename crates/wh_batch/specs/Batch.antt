-- A batch of records, of any kind.
use Rattle.std.specs.Prelude.{ℕ, ◌+◌, Bool, ◌&&◌, ◌==◌, nat_lt, if◌then◌else◌, List, [], ◌∷◌, ◌++◌, length, Result, Ok, Err}
use Rattle.std.specs.List.{list_any}
use Rattle.std.specs.Str.{bytes_eq}
use Rattle.std.specs.Cmp.Lexicographic.{pointwise}
use Rattle.csv.specs.Reading.{records, default_config, strip_bom}
use Rattle.wh_day.specs.Reading.{◌>>=◌}
use Rattle.wh_batch.specs.Rows.{Table}
use Rattle.wh_batch.specs.Columns.{Column, names}
use Rattle.wh_batch.specs.declared.fault.FaultKind.{FaultKind}
use Rattle.wh_batch.specs.declared.fault.FaultKind.TheVariants.{TooLarge, WrongHeader, TwiceInBatch, OutsideCalendar}
use Rattle.wh_batch.specs.declared.fault.BatchFault.{BatchFault}

-- what no two records of a batch share: the member and the day, or the ticket and the line
pub record Key : Type 0 where
  pub text : List ℕ
  pub number : ℕ

-- the same text and the same number
abbrev pub is_same_key : Key → Key → Bool
is_same_key a b = bytes_eq a.text b.text && (a.number == b.number)

-- how the records of a kind are laid out: their columns, the record that fields write, its key, and whether it lies in
-- the calendar
pub record Layout (R : Type 0) : Type 0 where
  pub columns : List Column
  pub read : List (List ℕ) → Result R FaultKind
  pub key : R → Key
  pub is_within : R → Bool

-- the fault of this kind at the record with this number
abbrev pub at : ℕ → FaultKind → BatchFault
at number kind = record { kind = kind; number = number }

-- a fault of the record with this number
abbrev pub numbered : {A : Type 0} → ℕ → Result A FaultKind → Result A BatchFault
numbered number (Ok x) = Ok x
numbered number (Err kind) = Err (at number kind)

-- a record whose key no earlier one has, on a day of the calendar
abbrev pub admitted : {R : Type 0} → Layout R → List Key → R → Result R FaultKind
admitted layout earlier entry =
    if list_any (is_same_key (layout.key entry)) earlier then Err TwiceInBatch
    else if layout.is_within entry then Ok entry
    else Err OutsideCalendar

-- the record of these fields
unfoldable pub next_record : {R : Type 0} → Layout R → List Key → List (List ℕ) → Result R FaultKind
next_record layout earlier fields = layout.read fields >>= admitted layout earlier

-- the records after those with the earlier keys, numbered from number
unfoldable pub records_after : {R : Type 0} → Layout R → List Key → ℕ → Table → Result (List R) BatchFault
records_after layout earlier number [] = Ok []
records_after layout earlier number (fields ∷ rows) = if nat_lt 5000 number then Err (at number TooLarge) else do
  entry ← numbered number (next_record layout earlier fields)
  others ← records_after layout (earlier ++ layout.key entry ∷ []) (number + 1) rows
  Ok (entry ∷ others)

-- the records below the header, which is the first row
unfoldable pub below_header : {R : Type 0} → Layout R → Table → Result (List R) BatchFault
below_header layout [] = Err (at 0 WrongHeader)
below_header layout (header ∷ rows) = if pointwise bytes_eq header (names layout.columns) then records_after layout [] 1 rows else Err (at 0 WrongHeader)

-- the records of a batch, or its first fault
unfoldable pub batch_of : {R : Type 0} → Layout R → List ℕ → Result (List R) BatchFault
batch_of layout bytes =
    if nat_lt 1000000 (length bytes) then Err (at 0 TooLarge)
    else below_header layout (records default_config (strip_bom bytes))
