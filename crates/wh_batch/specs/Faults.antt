-- All faults of a batch, each with the field that is at fault.
use Rattle.std.specs.Prelude.{◌≡◌, ℕ, ◌+◌, ◌-◌, Bool, true, false, nat_lt, if◌then◌else◌, List, [], ◌∷◌, ◌++◌, length, map, take, get_or, position, Option, Some, None, option_map, option_to_list, Result}
use Rattle.std.specs.Result.{result_ok, result_err}
use Rattle.std.specs.Str.{bytes_eq}
use Rattle.std.specs.Cmp.Lexicographic.{pointwise}
use Rattle.csv.specs.Reading.{records, default_config, strip_bom}
use Rattle.wh_policy.specs.Policy.{policy_attributes}
use Rattle.wh_policy.specs.declared.format.Format.{Format}
use Rattle.wh_policy.specs.declared.format.Format.TheVariants.{One, Two}
use Rattle.wh_policy.specs.declared.policy.Policy.{Policy}
use Rattle.wh_batch.specs.declared.fault.FaultKind.{FaultKind}
use Rattle.wh_batch.specs.declared.fault.FaultKind.TheVariants.{TooLarge, WrongHeader, WrongLength, TwiceInBatch, OutsideCalendar, NotInFormat}
use Rattle.wh_batch.specs.declared.holds.Holds.{Holds}
use Rattle.wh_batch.specs.declared.holds.Holds.TheVariants.{Day}
use Rattle.wh_batch.specs.declared.kind.BatchKind.{BatchKind}
use Rattle.wh_batch.specs.declared.kind.BatchKind.TheVariants.{Dimension, Sales, Voids}
use Rattle.wh_batch.specs.declared.listed.FaultyField.{FaultyField}
use Rattle.wh_batch.specs.declared.listed.RecordFault.{RecordFault}
use Rattle.wh_batch.specs.declared.listed.Faults.{Faults}
use Rattle.wh_batch.specs.Rows.{Table}
use Rattle.wh_batch.specs.Batch.{Key, Layout, at, next_record}
use Rattle.wh_batch.specs.Columns.{Column, names, place_at_fault}
use Rattle.wh_batch.specs.Layouts.{dimension_layout, sales_layout, voids_layout}

-- a fault of the batch as a whole, or of a record as a whole
abbrev pub whole : ℕ → FaultKind → RecordFault
whole number kind = record { fault = at number kind; field = None }

-- the field at this place, where the row ends before it an empty text
abbrev pub field_of : List (List ℕ) → ℕ → FaultyField
field_of fields place = record { place = place; text = get_or fields place [] }

-- whether fields of a column hold the day of a sale
abbrev pub holds_day : Holds → Bool
holds_day Day = true
holds_day other = false

abbrev pub is_day : Column → Bool
is_day column = holds_day column.holds

-- where in a row a fault is: the day where the calendar doesn't have it, the first field at fault where one is, and
-- nowhere where the number of fields is wrong or an earlier record has the key
abbrev pub place_of : List Column → List (List ℕ) → FaultKind → Option ℕ
place_of columns fields WrongLength = None
place_of columns fields TwiceInBatch = None
place_of columns fields OutsideCalendar = position is_day columns
place_of columns fields kind = place_at_fault columns fields

-- a fault of the row with this number
abbrev pub located : List Column → ℕ → List (List ℕ) → FaultKind → RecordFault
located columns number fields kind = record { fault = at number kind; field = option_map (field_of fields) (place_of columns fields kind) }

-- the fault that reading that row gives, if it gives one
abbrev pub fault_of_row : {R : Type 0} → List Column → ℕ → List (List ℕ) → Result R FaultKind → List RecordFault
fault_of_row columns number fields read = option_to_list (option_map (located columns number fields) (result_err read))

-- the key of a row, if its fields write a record: also where an earlier one has it, and outside the calendar
abbrev pub key_of_row : {R : Type 0} → Layout R → List (List ℕ) → List Key
key_of_row layout fields = option_to_list (option_map layout.key (result_ok (layout.read fields)))

-- the faults of the rows after those with the earlier keys, numbered from number
unfoldable pub faults_after : {R : Type 0} → Layout R → List Key → ℕ → Table → List RecordFault
faults_after layout earlier number [] = []
faults_after layout earlier number (fields ∷ rows) =
    if nat_lt 5000 number then whole number TooLarge ∷ []
    else fault_of_row layout.columns number fields (next_record layout earlier fields) ++ faults_after layout (earlier ++ key_of_row layout fields) (number + 1) rows

-- the place of the first name that differs, or the length of the shorter list where one is a beginning of the other
abbrev pub first_difference : List (List ℕ) → List (List ℕ) → ℕ
first_difference (name ∷ found) (other ∷ others) = if bytes_eq name other then first_difference found others + 1 else 0
first_difference found others = 0

-- a wrong header
abbrev pub wrong_header : List (List ℕ) → List (List ℕ) → RecordFault
wrong_header found header = record { fault = at 0 WrongHeader; field = Some (field_of found (first_difference found header)) }

-- the faults below the header, which is the first row; where that is wrong, it is the only fault
unfoldable pub faults_below_header : {R : Type 0} → Layout R → Table → List RecordFault
faults_below_header layout [] = wrong_header [] (names layout.columns) ∷ []
faults_below_header layout (header ∷ rows) =
    if pointwise bytes_eq header (names layout.columns) then faults_after layout [] 1 rows
    else wrong_header header (names layout.columns) ∷ []

-- all faults of a batch, in the order of its records
unfoldable pub faults_of : {R : Type 0} → Layout R → List ℕ → List RecordFault
faults_of layout bytes =
    if nat_lt 1000000 (length bytes) then whole 0 TooLarge ∷ []
    else faults_below_header layout (records default_config (strip_bom bytes))

-- all faults of a batch of this kind
unfoldable pub faults_of_kind : BatchKind → Policy → Format → List ℕ → List RecordFault
faults_of_kind (Dimension dim) policy format bytes = faults_of (dimension_layout (policy_attributes policy dim)) bytes
faults_of_kind Sales policy format bytes = faults_of (sales_layout format policy.years) bytes
faults_of_kind Voids policy One bytes = whole 0 NotInFormat ∷ []
faults_of_kind Voids policy Two bytes = faults_of voids_layout bytes

-- the first of these faults, at most so many, and how many more there are
pub record AreFirst (most : ℕ) (found : List RecordFault) (faults : Faults) : Type 0 where
  pub listed : map (λ l. l.fault) faults.listed.items ≡ take most found
  pub more : faults.more ≡ length found - most
