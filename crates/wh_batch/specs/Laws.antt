-- What holds of every batch, for any layout of its records.
use Rattle.std.specs.Prelude.{◌≡◌, ◌↔◌, ◌<◌, ◌≤◌, ℕ, ◌+◌, ◌==◌, true, nat_lt, if◌then◌else◌, List, [], ◌∷◌, ◌++◌, length, map, get_or, filter, flat_map, Option, Some, None, Result, Ok, Err}
use Rattle.std.specs.Bool.{⊤}
use Rattle.std.specs.List.{AllByRecursion, IsDistinct, list_all}
use Rattle.std.specs.Result.{result_err}
use Rattle.csv.specs.Reading.{records, default_config, strip_bom}
use Rattle.wh_day.specs.Reading.{◌>>=◌}
use Rattle.wh_batch.specs.declared.fault.FaultKind.{FaultKind}
use Rattle.wh_batch.specs.declared.fault.FaultKind.TheVariants.{TooLarge}
use Rattle.wh_batch.specs.declared.fault.BatchFault.{BatchFault}
use Rattle.wh_batch.specs.Rows.{Table}
use Rattle.wh_batch.specs.declared.listed.RecordFault.{RecordFault}
use Rattle.wh_batch.specs.Columns.{Column, names, fault_in, fault_by_columns}
use Rattle.wh_batch.specs.Faults.{whole, place_of, key_of_row, fault_of_row, faults_after}
use Rattle.wh_batch.specs.Batch.{Key, Layout, at, is_same_key, numbered, next_record, records_after}

-- the records before, and that of the last row
abbrev pub with_last : {R : Type 0} → Layout R → List R → ℕ → List (List ℕ) → Result (List R) BatchFault
with_last layout before number row =
    if nat_lt 5000 number then Err (at number TooLarge)
    else (numbered number (next_record layout (map layout.key before) row) >>= λ entry. Ok (before ++ entry ∷ []))

-- One row more: a fault of the rows before it comes first, and then its own.
abbrev pub OneRecordMore : {R : Type 0} → Layout R → Type 0
OneRecordMore layout = (rows : Table) (row : List (List ℕ))
    → records_after layout [] 1 (rows ++ row ∷ []) ≡ (records_after layout [] 1 rows >>= λ before. with_last layout before (length rows + 1) row)

-- The bytes are a good batch of these records, said without an order of work: they aren't too many, the first row is the
-- header, few enough rows follow, each writes its record, no two records have one key, and the calendar has their days.
pub record IsBatch {R : Type 0} (layout : Layout R) (bytes : List ℕ) (entries : List R) : Type 0 where
  pub size : length bytes ≤ 1000000
  pub rows : Table
  pub table : records default_config (strip_bom bytes) ≡ names layout.columns ∷ rows
  pub few : length rows ≤ 5000
  pub each : map layout.read rows ≡ map (λ entry. Ok entry) entries
  pub distinct : IsDistinct is_same_key (map layout.key entries)
  pub within : list_all layout.is_within entries ≡ true

-- Exactly the good batches are read, as their records.
abbrev pub ReadsBatches : {R : Type 0} → Layout R → (List ℕ → Result (List R) BatchFault) → Type 0
ReadsBatches {R} layout read = (bytes : List ℕ) (entries : List R) → (read bytes ≡ Ok entries) ↔ IsBatch layout bytes entries

-- What is wrong with the fields of a record is their number, or else what is wrong with the first field at fault.
abbrev pub FaultsByColumns : {R : Type 0} → Layout R → Type 0
FaultsByColumns layout = (fields : List (List ℕ)) → result_err (layout.read fields) ≡ fault_by_columns layout.columns fields

-- The fault that reading finds in as many fields as there are columns is told of a field, and is what is wrong with that field in
-- its column.
abbrev pub PointsAtField : {R : Type 0} → Layout R → Type 0
PointsAtField layout = (fields : List (List ℕ)) (kind : FaultKind) (other : Column) → layout.read fields ≡ Err kind → length fields ≡ length layout.columns
    → (place : ℕ) × (place_of layout.columns fields kind ≡ Some place) × (fault_in (get_or layout.columns place other).holds (get_or fields place []) ≡ Some kind)

-- the first of a list of faults
abbrev pub first : List RecordFault → Option BatchFault
first [] = None
first (found ∷ others) = Some found.fault

-- The first fault that is listed is the one that reading gives; where that gives records, none is listed.
abbrev pub FirstIsRead : {R : Type 0} → (List ℕ → List RecordFault) → (List ℕ → Result R BatchFault) → Type 0
FirstIsRead faults read = (bytes : List ℕ) → first (faults bytes) ≡ result_err (read bytes)

-- the keys of the rows whose fields write a record
abbrev pub keys_of : {R : Type 0} → Layout R → Table → List Key
keys_of layout rows = flat_map (key_of_row layout) rows

-- Of each of the first 5,000 rows just the fault is listed that reading it gives after the keys of the rows before it, and of
-- all behind them one fault that they are too many.
pub record ListsEachRow {R : Type 0} (layout : Layout R) : Type 0 where
  pub row : (before : Table) (row : List (List ℕ)) (behind : Table) → length before < 5000
      → filter (λ f. f.fault.number == length before + 1) (faults_after layout [] 1 (before ++ row ∷ behind))
      ≡ fault_of_row layout.columns (length before + 1) row (next_record layout (keys_of layout before) row)
  pub behind : (rows : Table) → filter (λ f. nat_lt 5000 f.fault.number) (faults_after layout [] 1 rows) ≡ (if nat_lt 5000 (length rows) then whole 5001 TooLarge ∷ [] else [])

-- each number is less than all behind it
unfoldable pub Ascends : List ℕ → Type 0
Ascends [] = ⊤
Ascends (n ∷ ns) = AllByRecursion (λ m. n < m) ns × Ascends ns

-- Faults are listed in the order of the records, no two of one.
abbrev pub ListsInOrder : {R : Type 0} → Layout R → Type 0
ListsInOrder layout = (rows : Table) → Ascends (map (λ f. f.fault.number) (faults_after layout [] 1 rows))
