-- What the commands on a warehouse answer.
use Rattle.std.specs.Prelude.{ℕ, List, ◌++◌, codes, Result, Ok, Err}
use Rattle.std.specs.Fmt.{decimal}
use Rattle.std.specs.declared.alloc.Global.{Global}
use Rattle.std.specs.declared.vec.Vec.{Vec}
use Rattle.wh_policy.specs.declared.attribute.AttributeType.{AttributeType}
use Rattle.wh_policy.specs.Types.{attribute_type_number}
use Rattle.wh_admission.specs.declared.command.Receipt.{Receipt}
use Rattle.wh_admission.specs.declared.command.Reply.{Reply}
use Rattle.wh_admission.specs.declared.command.Reply.TheVariants.{Accepted, Already}
use Rattle.wh_admission.specs.declared.command.Limit.{Limit}
use Rattle.wh_admission.specs.declared.command.Limit.TheVariants.{Commands, Changes, Facts}
use Rattle.wh_admission.specs.declared.command.Refusal.{Refusal}
use Rattle.wh_admission.specs.declared.command.Refusal.TheVariants as refusal
use Rattle.wh_checking.specs.declared.verdict.Verdict.{Verdict}
use Rattle.wh_checking.specs.declared.verdict.Verdict.TheVariants.{Clean, Wrong}
use Rattle.wh_engine.specs.declared.counts.Counts.{Counts}
use Rattle.wh_engine.specs.declared.fault.Fault.{Fault}
use Rattle.wh_engine.specs.declared.fault.Fault.TheVariants as fault
use Rattle.wh_engine.specs.declared.opening.InitFault.{InitFault}
use Rattle.wh_engine.specs.declared.opening.InitFault.TheVariants as making
use Rattle.wh_store.specs.declared.fault.OpenFault.{OpenFault}
use Rattle.wh_store.specs.declared.fault.OpenFault.TheVariants as opening
use Rattle.wh_rows.specs.Names.{table_name}
use Rattle.wh_rows.specs.declared.table.Table.{Table}
use Rattle.wh_rows.specs.declared.cause.Cause.{Cause}
use Rattle.wh_rows.specs.declared.cause.Cause.TheVariants as cause
use Rattle.wh_records.specs.declared.part.Part.{Part}
use Rattle.wh_plan.specs.Edits.{Edits}
use Rattle.wh_batch.specs.declared.mode.Mode.{Mode}
use Rattle.wh_report.specs.declared.output.ReportFault.{ReportFault}
use Rattle.wh_report.specs.declared.output.ReportFault.TheVariants as report
use Rattle.wh_report.specs.declared.request.RequestFault.{RequestFault}
use Rattle.wh_report.specs.declared.request.RequestFault.TheVariants as request
use Rattle.wh_batch.specs.Mode.{mode_word}
use Rattle.wh_program.specs.Answer.{Printed, done, refused, failed, batch_line, policy_line, memory_line, write_line}
use Rattle.wh_words.specs.WrongWord.{line}
use Rattle.wh_program.specs.PlanText.{plan_text}

-- what an accepted command is answered, after the word for how it was taken
abbrev pub receipt_line : List ℕ → List ℕ → Receipt → List ℕ
receipt_line word id receipt = line (word ++ codes " " ++ decimal receipt.number ++ codes " " ++ id ++ codes ": " ++ decimal receipt.records ++ codes " records, "
    ++ decimal receipt.placeholders ++ codes " placeholders")

abbrev pub reply_answer : List ℕ → Reply → Printed
reply_answer id (Accepted receipt) = done (receipt_line (codes "accepted") id receipt)
reply_answer id (Already receipt) = done (receipt_line (codes "already") id receipt)

abbrev pub limit_name : Limit → List ℕ
limit_name Commands = codes "commands"
limit_name Changes = codes "changes"
limit_name Facts = codes "facts"

abbrev pub full_line : Limit → List ℕ
full_line limit = line (codes "refused: E6 full, " ++ limit_name limit)

abbrev pub sale_there_line : ℕ → List ℕ
sale_there_line number = line (codes "refused: E6 line there, record " ++ decimal number)

abbrev pub no_sale_line : ℕ → List ℕ
no_sale_line number = line (codes "refused: E6 no line, record " ++ decimal number)

abbrev pub refused_line : Refusal → List ℕ
refused_line refusal.BadId = line (codes "refused: E1 bad id")
refused_line refusal.Reused = line (codes "refused: E2 id reused")
refused_line (refusal.Batch fault) = batch_line fault
refused_line (refusal.Policy fault) = policy_line fault
refused_line refusal.Unfit = line (codes "refused: E5 policy does not fit")
refused_line refusal.Upgraded = line (codes "refused: E6 format, 2")
refused_line refusal.NameTaken = line (codes "refused: E11 not empty")
refused_line (refusal.LineThere number) = sale_there_line number
refused_line (refusal.NoLine number) = no_sale_line number
refused_line (refusal.Full limit) = full_line limit

abbrev pub damaged_line : Table → List ℕ
damaged_line table = line (codes "failed: E7 damaged, " ++ table_name table)

abbrev pub cause_name : Cause → List ℕ
cause_name cause.Memory = codes "memory"
cause_name cause.Disk = codes "disk"
cause_name cause.Size = codes "size"
cause_name cause.Interrupted = codes "interrupted"

abbrev pub store_line : Cause → List ℕ
store_line cause = line (codes "failed: E9 store, " ++ cause_name cause)

-- the answer where a call on the tables of a warehouse isn't answered
abbrev pub fault_answer : Fault → Printed
fault_answer (fault.Refused why) = refused (refused_line why)
fault_answer (fault.Damaged table) = failed (damaged_line table)
fault_answer fault.Memory = failed memory_line
fault_answer (fault.Store cause) = failed (store_line cause)
fault_answer fault.Reopen = failed (line (codes "failed: E10 reopen"))

abbrev pub sent_answer : List ℕ → Result Reply Fault → Printed
sent_answer id (Ok reply) = reply_answer id reply
sent_answer id (Err fault) = fault_answer fault

abbrev pub records_answer : Result Part Fault → Printed
records_answer (Ok part) = done part.text.items
records_answer (Err fault) = fault_answer fault

abbrev pub plan_answer : Result Edits Fault → Printed
plan_answer (Ok edits) = done (plan_text edits)
plan_answer (Err fault) = fault_answer fault

-- ---- a check

abbrev pub wrong_line : Table → List ℕ
wrong_line table = line (codes "wrong: " ++ table_name table)

abbrev pub verdict_answer : Result Verdict Fault → Printed
verdict_answer (Ok Clean) = done (line (codes "clean"))
verdict_answer (Ok (Wrong table)) = failed (wrong_line table)
verdict_answer (Err fault) = fault_answer fault

-- ---- reports

-- an attribute of this type has nothing to show in the mode
abbrev pub no_reading_line : AttributeType → Mode → List ℕ
no_reading_line kind mode = line (codes "refused: G2 no reading, type " ++ decimal (attribute_type_number kind) ++ codes " " ++ mode_word mode)

-- what is wrong with a report that was asked for
abbrev pub request_line : RequestFault → List ℕ
request_line request.NoAttribute = line (codes "refused: G1 no attribute")
request_line (request.NoReading kind mode) = no_reading_line kind mode
request_line (request.NoDateReading mode) = line (codes "refused: G2 no reading, date " ++ mode_word mode)
request_line request.BadRange = line (codes "refused: G3 bad range")

-- the answer where the text of a report, or of a table, isn't had
abbrev pub report_fault_answer : ReportFault → Printed
report_fault_answer report.Write = failed write_line
report_fault_answer (report.Warehouse fault) = fault_answer fault
report_fault_answer (report.Unwritten fault) = fault_answer fault
report_fault_answer (report.Inconsistent table) = failed (damaged_line table)

abbrev pub report_answer : Result (Vec ℕ Global) ReportFault → Printed
report_answer (Ok text) = done text.items
report_answer (Err fault) = report_fault_answer fault

-- ---- making and opening

abbrev pub made_line : List ℕ
made_line = line (codes "accepted 1 init: 0 records, 0 placeholders")

-- the answer where no warehouse was made
abbrev pub making_answer : InitFault → Printed
making_answer (making.Policy fault) = refused (policy_line fault)
making_answer making.NotEmpty = refused (line (codes "refused: E11 not empty"))
making_answer making.Memory = failed memory_line
making_answer (making.Store cause) = failed (store_line cause)

-- the answer where a file isn't opened as a warehouse
abbrev pub opening_answer : OpenFault → Printed
opening_answer opening.NotAWarehouse = failed (line (codes "failed: N1 not a warehouse"))
opening_answer opening.OldFormat = failed (line (codes "failed: N2 old format"))
opening_answer opening.NewFormat = failed (line (codes "failed: N3 new format"))
opening_answer (opening.Damaged table) = failed (damaged_line table)
opening_answer opening.Memory = failed memory_line
opening_answer (opening.Store cause) = failed (store_line cause)

abbrev pub members_line : Counts → List ℕ
members_line counts = line (codes "members product " ++ decimal counts.products ++ codes " store " ++ decimal counts.stores ++ codes " customer " ++ decimal counts.customers)

abbrev pub totals_text : Counts → List ℕ
totals_text counts = line (codes "format " ++ decimal counts.format ++ codes "\ncommands " ++ decimal counts.commands ++ codes "\nchanges " ++ decimal counts.changes
    ++ codes "\nfacts " ++ decimal counts.facts)

-- the five lines of how much a warehouse holds
abbrev pub counts_text : Counts → List ℕ
counts_text counts = totals_text counts ++ members_line counts

abbrev pub status_answer : Result Counts Fault → Printed
status_answer (Ok counts) = done (counts_text counts)
status_answer (Err fault) = fault_answer fault
