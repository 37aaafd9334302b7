-- What a run prints, with its status.
use Rattle.std.specs.Prelude.{ℕ, List, [], ◌∷◌, ◌++◌, ◌≡◌, codes, Option, Some, None, IsSome, Result, Ok, Err}
use Rattle.std.specs.Fmt.{decimal}
use Rattle.wh_day.specs.Reading.{◌>>=◌}
use Rattle.wh_policy.specs.declared.attribute.Dim.{Dim}
use Rattle.wh_policy.specs.declared.policy.Policy.{Policy}
use Rattle.wh_policy.specs.Policy.{trial_policy, read_policy}
use Rattle.wh_policy.specs.declared.fault.PolicyFault.{PolicyFault}
use Rattle.wh_policy.specs.declared.fault.PolicyFault.TheVariants.{NotToml, Missing, UnknownKey, BadName, BadType, TooMany, NamedTwice, ProfileOutside, ProfileMixed, BadYears, BadHoliday}
use Rattle.wh_batch.specs.Layouts.{dimension_records}
use Rattle.wh_batch.specs.declared.fault.BatchFault.{BatchFault}
use Rattle.wh_batch.specs.declared.fault.FaultKind.{FaultKind}
use Rattle.wh_batch.specs.declared.fault.FaultKind.TheVariants.{TooLarge, WrongHeader, WrongLength, BadKey, BadDay, BadValue, BadNumber, TwiceInBatch, OutsideCalendar, NotInFormat}
use Rattle.wh_history.specs.Tables.{dimension_table, trial_commands}
use Rattle.wh_history.specs.declared.rows.DimRow.{DimRow}
use Rattle.wh_report.specs.Dump.{dimension_text}
use Rattle.wh_words.specs.WrongWord.{line}
use Rattle.wh_program.specs.Inputs.{Files, up_to, batch_limit, policy_limit}
use Rattle.wh_program.specs.declared.lines.answer.Status.{Status}
use Rattle.wh_program.specs.declared.lines.answer.Status.TheVariants.{Done, Refused, Failed}

pub record Printed : Type 0 where
  pub status : ℕ
  pub text : List ℕ

abbrev pub status_code : Status → ℕ
status_code Done = 0
status_code Refused = 2
status_code Failed = 3

abbrev pub done : List ℕ → Printed
done text = record { status = 0; text = text }

abbrev pub refused : List ℕ → Printed
refused text = record { status = 2; text = text }

abbrev pub failed : List ℕ → Printed
failed text = record { status = 3; text = text }

abbrev pub wrong_words : List ℕ → Printed
wrong_words text = record { status = 4; text = text }

abbrev pub batch_fault_name : FaultKind → List ℕ
batch_fault_name TooLarge = codes "B1 too large"
batch_fault_name WrongHeader = codes "B2 wrong header"
batch_fault_name WrongLength = codes "B3 wrong length"
batch_fault_name BadKey = codes "B4 bad key"
batch_fault_name BadDay = codes "B5 bad day"
batch_fault_name BadValue = codes "B6 bad value"
batch_fault_name BadNumber = codes "B7 bad number"
batch_fault_name TwiceInBatch = codes "B8 twice in batch"
batch_fault_name OutsideCalendar = codes "B9 outside calendar"
batch_fault_name NotInFormat = codes "B10 not in format"

abbrev pub batch_line : BatchFault → List ℕ
batch_line fault = line (codes "refused: E3 batch, " ++ batch_fault_name fault.kind ++ codes ", record " ++ decimal fault.number)

abbrev pub policy_fault_name : PolicyFault → List ℕ
policy_fault_name NotToml = codes "P1 not toml"
policy_fault_name Missing = codes "P2 missing"
policy_fault_name UnknownKey = codes "P3 unknown key"
policy_fault_name BadName = codes "P4 bad name"
policy_fault_name BadType = codes "P5 bad type"
policy_fault_name TooMany = codes "P6 too many"
policy_fault_name NamedTwice = codes "P7 named twice"
policy_fault_name ProfileOutside = codes "P8 profile outside"
policy_fault_name ProfileMixed = codes "P9 profile mixed"
policy_fault_name BadYears = codes "P10 bad years"
policy_fault_name BadHoliday = codes "P11 bad holiday"

abbrev pub policy_line : PolicyFault → List ℕ
policy_line fault = line (codes "refused: E4 policy, " ++ policy_fault_name fault)

abbrev pub no_file_line : List ℕ → List ℕ
no_file_line path = line (codes "failed: F1 file, " ++ path)

abbrev pub memory_line : List ℕ
memory_line = line (codes "failed: E8 memory")

abbrev pub write_line : List ℕ
write_line = line (codes "failed: G4 write")

abbrev pub session_line : List ℕ
session_line = line (codes "refused: G5 session")

-- ---- words that are wrong

abbrev pub no_text_line : List ℕ
no_text_line = line (codes "error: an argument is not valid UTF-8")

-- ---- trials

-- the rows of a dimension's table in the warehouse that was made under the policy and given this one batch
abbrev pub trial_rows : Dim → Policy → List ℕ → Result (List DimRow) BatchFault
trial_rows dim policy batch = dimension_records dim policy batch >>= λ records. Ok (dimension_table (trial_commands policy dim records) dim)

-- the table, or the fault of the batch
abbrev pub table_answer : Result (List DimRow) BatchFault → Printed
table_answer (Ok rows) = done (dimension_text rows)
table_answer (Err fault) = refused (batch_line fault)

-- the answer to a trial of a file, which may not be there
abbrev pub trial_answer : Dim → Policy → List ℕ → Option (List ℕ) → Printed
trial_answer dim policy path None = failed (no_file_line path)
trial_answer dim policy path (Some batch) = table_answer (trial_rows dim policy batch)

-- the table under a policy that was read, or the fault of the policy
abbrev pub answer_under : Dim → List ℕ → Result Policy PolicyFault → Printed
answer_under dim batch (Ok policy) = table_answer (trial_rows dim policy batch)
answer_under dim batch (Err fault) = refused (policy_line fault)

-- the answer to a trial under the policy in a file, which is read before the batch
abbrev pub trial_answer_under : Dim → List ℕ → Option (List ℕ) → List ℕ → Option (List ℕ) → Printed
trial_answer_under dim policy_path None path file = failed (no_file_line policy_path)
trial_answer_under dim policy_path (Some text) path None = failed (no_file_line path)
trial_answer_under dim policy_path (Some text) path (Some batch) = answer_under dim batch (read_policy text)

-- the files that a trial names hold what it answers, as far as they are read; where the policy's isn't there, the batch's isn't looked for
abbrev pub AnswersTrial : Files → Dim → List ℕ → Option (List ℕ) → Printed → Type 0
AnswersTrial holds dim path None answer =
    (file : Option (List ℕ)) × up_to batch_limit holds path file × (answer ≡ trial_answer dim trial_policy path file)
AnswersTrial holds dim path (Some policy_path) answer =
    (policy_file file : Option (List ℕ)) × up_to policy_limit holds policy_path policy_file × (IsSome policy_file → up_to batch_limit holds path file) × (answer ≡ trial_answer_under dim policy_path policy_file path file)
