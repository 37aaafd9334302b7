-- What a report and a dump of a warehouse answer and leave.
use Rattle.std.specs.Prelude.{◌≡◌, ◌⊎◌, ◌++◌, ℕ, Bool, true, false, List, Option, Result, Ok, Err, IsOk, IfOk, take}
use Rattle.std.specs.Io.KnownBytes.{Appends}
use Rattle.std.specs.List.{concat}
use Rattle.wh_policy.specs.declared.policy.Policy.{Policy}
use Rattle.wh_history.specs.Accepted.{Accepted}
use Rattle.wh_history.specs.Tables.{Limits}
use Rattle.wh_rows.specs.Tables.{Tables}
use Rattle.wh_rows.specs.declared.table.Table.{Table}
use Rattle.wh_model.specs.Defined.{AreOf}
use Rattle.wh_admission.specs.Admission.{current_policy}
use Rattle.wh_engine.specs.Outcome.{Outcome}
use Rattle.wh_engine.specs.declared.fault.Fault.{Fault}
use Rattle.wh_policy.specs.Policy.{policy_attributes}
use Rattle.wh_policy.specs.declared.attribute.Dim.{Dim}
use Rattle.wh_query.specs.Answer.{query}
use Rattle.wh_query.specs.Asked.{QueryAsked, in_form}
use Rattle.wh_query.specs.Reading.{read_query}
use Rattle.wh_query.specs.declared.form.Form.{Form}
use Rattle.wh_query.specs.declared.form.Form.TheVariants as form
use Rattle.wh_records.specs.Parts.{part_at}
use Rattle.wh_records.specs.Texts.{records_text}
use Rattle.wh_report.specs.Asked.{Asked}
use Rattle.wh_report.specs.Dump.{lines_of_table}
use Rattle.wh_report.specs.Reported.{report_of}
use Rattle.wh_report.specs.Request.{read_request}
use Rattle.wh_report.specs.declared.output.ReportFault.{ReportFault}
use Rattle.wh_report.specs.declared.output.ReportFault.TheVariants as report
use Rattle.wh_report.specs.declared.request.RequestFault.{RequestFault}
use Rattle.wh_program.specs.Answer.{Printed, done, refused, write_line}
use Rattle.wh_program.specs.Inputs.{Refusals}
use Rattle.wh_program.specs.Reply.{fault_answer, request_line, report_fault_answer}
use Rattle.wh_program.specs.Run.{Prints}
use Rattle.wh_program.specs.Standing.{DatabaseContent, Standing, left_standing}
use Rattle.wh_words.specs.Task.{QueryWords, ReportWords}
use Rattle.wh_program.specs.Warehouse.{Shown, printed, Shows, AnswersWork}

-- What a call that only reads leaves of a warehouse with these commands: nothing changes.
abbrev pub LeavesRead : Limits → List Accepted → Result (Unit {0}) Fault → Standing → Type 0
LeavesRead limits commands read after = Outcome IsOk commands commands read (λ left. after ≡ left_standing limits left)

-- ---- report

-- what the words ask for under a policy, or the first fault
abbrev pub asked_under : Policy → ReportWords → Result Asked RequestFault
asked_under policy words = read_request policy words.attribute words.mode words.from words.to

-- the report that is asked for, or what is wrong with the words
abbrev pub asked_answer : List Accepted → Result Asked RequestFault → Printed
asked_answer commands (Ok request) = done (report_of commands request)
asked_answer commands (Err fault) = refused (request_line fault)

-- an answer, where the warehouse was read for it
abbrev pub read_answer : Result (Unit {0}) Fault → Printed → Printed
read_answer (Ok read) answer = answer
read_answer (Err fault) answer = fault_answer fault

-- The warehouse was read for an answer by its accepted commands, and that or the fault is given.
pub record IsAnsweredBy (answer : List Accepted → Printed) (limits : Limits) (commands : List Accepted) (shown : Shown) (after : Standing) : Type 0 where
  pub read : Result (Unit {0}) Fault
  pub leaves : LeavesRead limits commands read after
  pub tells : IfOk shown (λ a. a ≡ read_answer read (answer commands))

-- the answer to the words of a report
abbrev pub report_answered : ReportWords → List Accepted → Printed
report_answered words commands = asked_answer commands (asked_under (current_policy commands) words)

abbrev pub IsReported : ReportWords → Limits → List Accepted → Shown → Standing → Type 0
IsReported words = IsAnsweredBy (report_answered words)

abbrev pub AnswersReport : Refusals → (Standing → Type 0) → DatabaseContent → (file : List ℕ) → ReportWords → Shown → Type 0
AnswersReport refuses stands content file words shown = AnswersWork refuses stands (Shows (IsReported words)) content file shown

-- ---- query

-- what the words ask for under a policy, or the first fault
abbrev pub queried_under : Policy → QueryWords → Result QueryAsked RequestFault
queried_under policy words = read_query policy words.columns words.conditions words.from words.to

-- the form of the answer: a table where one is wanted
abbrev pub form_asked : Bool → Form
form_asked true = form.Table
form_asked false = form.Csv

-- the answer to the query that is asked for, in a form, or what is wrong with the words
abbrev pub queried_answer : List Accepted → Form → Result QueryAsked RequestFault → Printed
queried_answer commands form (Ok q) = done (query commands (in_form form q))
queried_answer commands form (Err fault) = refused (request_line fault)

abbrev pub query_answered : QueryWords → List Accepted → Printed
query_answered words commands = queried_answer commands (form_asked words.as_table) (queried_under (current_policy commands) words)

abbrev pub AnswersQuery : Refusals → (Standing → Type 0) → DatabaseContent → (file : List ℕ) → QueryWords → Shown → Type 0
AnswersQuery refuses stands content file words shown = AnswersWork refuses stands (Shows (IsAnsweredBy (query_answered words))) content file shown

-- ---- records

-- the batch of the records that carry a dimension's members, from one of them on
abbrev pub records_answered : Dim → ℕ → List Accepted → Printed
records_answered dim from commands = done (records_text (policy_attributes (current_policy commands) dim) (part_at (current_policy commands) commands dim from))

abbrev pub AnswersRecords : Refusals → (Standing → Type 0) → DatabaseContent → (file : List ℕ) → Dim → ℕ → Shown → Type 0
AnswersRecords refuses stands content file dim from shown = AnswersWork refuses stands (Shows (IsAnsweredBy (records_answered dim from))) content file shown

-- ---- dump

-- an answer after what was printed before it
abbrev pub answer_after : List ℕ → Printed → Printed
answer_after part answer = record { status = answer.status; text = part ++ answer.text }

-- the first lines, each whole, and then the line of the fault, or of the lack of memory for that
pub record IsCutShort (lines : List (List ℕ)) (fault : Fault) (shown : Shown) : Type 0 where
  pub out : List (List ℕ)
  pub left : List (List ℕ)
  pub whole : lines ≡ out ++ left
  pub line : Shown
  pub tells : IfOk line (λ a. a ≡ fault_answer fault)
  pub shown_is : shown ≡ Ok (answer_after (concat out) (printed line))

-- all lines, where the table was read
abbrev pub TellsLines : List (List ℕ) → Result (Unit {0}) Fault → Shown → Type 0
TellsLines lines (Ok read) shown = shown ≡ Ok (done (concat lines))
TellsLines lines (Err fault) shown = IsCutShort lines fault shown

-- the lines are those of the table of the accepted commands
pub record IsDumped (table : Table) (limits : Limits) (commands : List Accepted) (shown : Shown) (after : Standing) : Type 0 where
  pub tables : Tables
  pub are : AreOf limits commands tables
  pub read : Result (Unit {0}) Fault
  pub leaves : LeavesRead limits commands read after
  pub tells : TellsLines (lines_of_table table tables) read shown

abbrev pub AnswersDump : Refusals → (Standing → Type 0) → DatabaseContent → (file : List ℕ) → Table → Shown → Type 0
AnswersDump refuses stands content file table shown = AnswersWork refuses stands (Shows (IsDumped table)) content file shown

-- the writer failed, which is said as far as it could still be written
abbrev pub SaysWriteFailed : Option (List ℕ) → Option (List ℕ) → ℕ → Type 0
SaysWriteFailed old new code = (code ≡ 3) × ((shown : ℕ) × Appends old new (take shown write_line))

-- what ended a dump is said after what went out of it: that the writer failed, whatever else did, or the line of the fault
abbrev pub SaysStop : ReportFault → Option (List ℕ) → Option (List ℕ) → ℕ → Type 0
SaysStop report.Write old new code = SaysWriteFailed old new code
SaysStop (report.Unwritten why) old new code = SaysWriteFailed old new code
SaysStop (report.Warehouse why) old new code = (line : Shown) × IfOk line (λ a. a ≡ fault_answer why) × Prints old new code (printed line)
SaysStop (report.Inconsistent table) old new code = (line : Shown) × IfOk line (λ a. a ≡ report_fault_answer (report.Inconsistent table)) × Prints old new code (printed line)
