-- Which reports can be asked for.
use Rattle.std.specs.Prelude.{ℕ, Bool, false, ◌&&◌, not, nat_le, nat_lt, is_some, List, Option, Some, None, Result, Ok, ok_or}
use Rattle.wh_day.specs.Reading.{◌>>=◌, unless_fault}
use Rattle.wh_day.specs.Day.{read_day}
use Rattle.wh_policy.specs.declared.policy.Policy.{Policy}
use Rattle.wh_report.specs.Asked.{Asked}
use Rattle.wh_report.specs.Subject.{subject_in, reading_of}
use Rattle.wh_batch.specs.declared.mode.Mode.{Mode}
use Rattle.wh_report.specs.declared.subject.Subject.{Subject}
use Rattle.wh_report.specs.declared.subject.Subject.TheVariants.{Attribute, Month, Holiday}
use Rattle.wh_report.specs.declared.request.RequestFault.{RequestFault}
use Rattle.wh_report.specs.declared.request.RequestFault.TheVariants.{NoAttribute, NoReading, NoDateReading, BadRange}

abbrev pub no_reading : Subject → Mode → RequestFault
no_reading (Attribute a) mode = NoReading a.kind mode
no_reading Month mode = NoDateReading mode
no_reading Holiday mode = NoDateReading mode

-- what the first and the last day make, where they are a range
abbrev pub days_make : {A : Type 0} → Option ℕ → Option ℕ → (ℕ → ℕ → A) → Result A RequestFault
days_make from to make = do
  first ← ok_or from BadRange
  last ← ok_or to BadRange
  unless_fault (not (nat_lt last first)) BadRange (Ok (make first last))

-- the same of days that are written YYYY-MM-DD
abbrev pub range_makes : {A : Type 0} → List ℕ → List ℕ → (ℕ → ℕ → A) → Result A RequestFault
range_makes from to make = days_make (read_day from) (read_day to) make

-- the request that the words make, or the first fault: no attribute, no reading, no range
unfoldable pub read_request : Policy → List ℕ → Mode → List ℕ → List ℕ → Result Asked RequestFault
read_request policy words mode from to = do
  subject ← ok_or (subject_in policy words) NoAttribute
  unless_fault (is_some (reading_of subject mode)) (no_reading subject mode) (range_makes from to (λ first last. record { words = words; mode = mode; from = first; to = last }))

abbrev pub subject_reads : Mode → Option Subject → Bool
subject_reads mode None = false
subject_reads mode (Some subject) = is_some (reading_of subject mode)

-- whether the attribute has a reading in the mode under a policy
abbrev pub has_reading : Policy → Asked → Bool
has_reading policy r = subject_reads r.mode (subject_in policy r.words)

-- whether the report counts the sales of a day
abbrev pub is_asked_of : Asked → ℕ → Bool
is_asked_of r day = nat_le r.from day && nat_le day r.to
