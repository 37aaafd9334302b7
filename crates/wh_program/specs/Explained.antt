-- What is said of an input before it is sent, and of what a kind takes.
use Rattle.std.specs.Prelude.{◌≡◌, ℕ, List, [], ◌++◌, codes, Option, Some, None, Result, Ok, Err, IfOk}
use Rattle.std.specs.Fmt.{decimal}
use Rattle.std.specs.List.{join_by}
use Rattle.wh_policy.specs.declared.format.Format.{Format}
use Rattle.wh_policy.specs.declared.format.Format.TheVariants.{One, Two}
use Rattle.wh_policy.specs.Policy.{read_policy}
use Rattle.wh_policy.specs.declared.fault.PolicyFault.{PolicyFault}
use Rattle.wh_policy.specs.declared.policy.Policy.{Policy}
use Rattle.wh_batch.specs.Columns.{Column}
use Rattle.wh_batch.specs.Layouts.{columns_of}
use Rattle.wh_batch.specs.declared.kind.CommandKind.{CommandKind}
use Rattle.wh_batch.specs.declared.kind.CommandKind.TheVariants.{Batch, Migration, Upgrade}
use Rattle.wh_batch.specs.declared.kind.BatchKind.{BatchKind}
use Rattle.wh_batch.specs.declared.kind.BatchKind.TheVariants.{Dimension, Sales, Voids}
use Rattle.wh_history.specs.Accepted.{Accepted, format_of}
use Rattle.wh_history.specs.Tables.{Limits}
use Rattle.wh_admission.specs.Admission.{current_policy}
use Rattle.wh_admission.specs.declared.command.Receipt.{Receipt}
use Rattle.wh_engine.specs.Outcome.{Outcome}
use Rattle.wh_engine.specs.Previewed.{IsPreviewOf}
use Rattle.wh_engine.specs.declared.fault.Fault.{Fault}
use Rattle.wh_engine.specs.declared.preview.Preview.{Preview}
use Rattle.wh_explain.specs.Added.{Continues}
use Rattle.wh_program.specs.Answer.{Printed, done, refused, failed, no_file_line, policy_line}
use Rattle.wh_words.specs.WrongWord.{line}
use Rattle.wh_program.specs.Inputs.{Files, Refusals, as_input, policy_limit, up_to}
use Rattle.wh_program.specs.Reply.{fault_answer}
use Rattle.wh_program.specs.Standing.{DatabaseContent, Holds, Rests, Standing, left_standing}
use Rattle.wh_program.specs.Warehouse.{Shown, Shows, AnswersWith, AnswersWork, LacksFile}

-- the answer has the status of this one, and its text comes first
pub record Begins (first : Printed) (answer : Printed) : Type 0 where
  pub status : answer.status ≡ first.status
  pub text : Continues first.text answer.text

-- ---- an input

-- what an input that would be accepted is told
abbrev pub acceptable_line : Receipt → List ℕ
acceptable_line receipt = line (codes "would be accepted: " ++ decimal receipt.records ++ codes " records, " ++ decimal receipt.placeholders ++ codes " placeholders")

abbrev pub preview_answer : Result Preview Fault → Printed
preview_answer (Ok preview) = done (acceptable_line preview.receipt)
preview_answer (Err fault) = fault_answer fault

-- What a preview of an input leaves of a warehouse with these commands: it is the one that is due, whatever new id the input were sent under, and nothing changes.
abbrev pub LeavesPreviewed : Limits → List Accepted → CommandKind → List ℕ → Result Preview Fault → Standing → Type 0
LeavesPreviewed limits commands kind bytes preview after = Outcome (IsPreviewOf limits commands kind bytes) commands commands preview (λ left. after ≡ left_standing limits left)

-- the line comes first that the input would be answered
pub record IsExplained (kind : CommandKind) (bytes : List ℕ) (limits : Limits) (commands : List Accepted) (shown : Shown) (after : Standing) : Type 0 where
  pub preview : Result Preview Fault
  pub leaves : LeavesPreviewed limits commands kind bytes preview after
  pub tells : IfOk shown (Begins (preview_answer preview))

-- what explains these bytes as the input of a command of this kind
abbrev pub Explains : CommandKind → (bytes : List ℕ) → DatabaseContent → Shown → Standing → Type 0
Explains kind bytes = Shows (IsExplained kind bytes)

-- ---- what a kind takes

-- the header of a batch
abbrev pub header_line : List Column → List ℕ
header_line columns = line (join_by (λ column. column.name) (codes ",") columns)

-- what comes first of what a batch takes: the header that is wanted, where the format has such batches
abbrev pub first_of_batch : BatchKind → Policy → Format → List ℕ
first_of_batch (Dimension dim) policy format = header_line (columns_of (Dimension dim) policy format)
first_of_batch Sales policy format = header_line (columns_of Sales policy format)
first_of_batch Voids policy One = []
first_of_batch Voids policy Two = header_line (columns_of Voids policy Two)

-- and of what a command takes; of a policy and an upgrade nothing is said
abbrev pub first_of_kind : CommandKind → Policy → Format → List ℕ
first_of_kind (Batch kind) policy format = first_of_batch kind policy format
first_of_kind Migration policy format = []
first_of_kind Upgrade policy format = []

-- it comes first under the policy in force, and nothing changes
pub record IsDescribed (kind : CommandKind) (limits : Limits) (commands : List Accepted) (shown : Shown) (after : Standing) : Type 0 where
  pub same : after ≡ Rests (Holds limits commands)
  pub tells : IfOk shown (Begins (done (first_of_kind kind (current_policy commands) (format_of commands))))

-- ---- a policy, without a warehouse

-- what the first command of a warehouse is answered: it has no records
abbrev pub making_receipt : Receipt
making_receipt = record { number = 1; records = 0; placeholders = 0 }

-- what comes first of a policy: `init` would take it, or refuses it with this line
abbrev pub first_of_policy : Result Policy PolicyFault → Printed
first_of_policy (Ok policy) = done (acceptable_line making_receipt)
first_of_policy (Err fault) = refused (policy_line fault)

-- and of the one in a file
abbrev pub first_of_policy_file : (path : List ℕ) → Option (List ℕ) → Printed
first_of_policy_file path None = failed (no_file_line path)
first_of_policy_file path (Some bytes) = first_of_policy (read_policy bytes)

-- The policy in a file is explained, by the file as far as it is read; or else what any policy is, of which the first line is no matter.
abbrev pub IsPolicyExplained : Files → (path : Option (List ℕ)) → Printed → Type 0
IsPolicyExplained holds None a = Begins (done []) a
IsPolicyExplained holds (Some path) a = (file : Option (List ℕ)) × up_to policy_limit holds path file × Begins (first_of_policy_file path file) a

-- ---- the word

-- the input in a file is explained, or else what the kind takes
abbrev pub AnswersExplanation : Files → Refusals → (Standing → Type 0) → DatabaseContent → (file : List ℕ) → CommandKind → (path : Option (List ℕ)) → Shown → Type 0
AnswersExplanation holds refuses stands content file kind None shown = AnswersWork refuses stands (Shows (IsDescribed kind)) content file shown
AnswersExplanation holds refuses stands content file kind (Some path) shown = AnswersWith (as_input kind holds) refuses stands (Explains kind) content file path shown

-- the input in a file isn't there
abbrev pub LacksInputAsked : Files → CommandKind → (path : Option (List ℕ)) → Printed → Type 0
LacksInputAsked holds kind None a = ⊥
LacksInputAsked holds kind (Some path) a = LacksFile (as_input kind holds) path a
