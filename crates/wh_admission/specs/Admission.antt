-- The answer to a command, and the list of those that are accepted.
use Rattle.std.specs.Prelude.{◌≡◌, ⊤, Bool, true, false, not, ℕ, suc, ◌+◌, ◌&&◌, nat_le, nat_lt, if◌then◌else◌, List, [], ◌∷◌, ◌++◌, length, map, find, Option, Some, None, unwrap_or, bytes_eq, Result, Ok, Err}
use Rattle.std.specs.List.{list_any}
use Rattle.wh_day.specs.Reading.{◌>>=◌}
use Rattle.wh_policy.specs.Names.{fits}
use Rattle.wh_policy.specs.Policy.{trial_policy, read_policy}
use Rattle.wh_policy.specs.declared.attribute.Dim.{Dim}
use Rattle.wh_policy.specs.declared.fault.PolicyFault.{PolicyFault}
use Rattle.wh_policy.specs.declared.policy.Policy.{Policy}
use Rattle.wh_policy.specs.declared.record.DimensionRecord.{DimensionRecord}
use Rattle.wh_policy.specs.declared.record.SaleRecord.{SaleRecord}
use Rattle.wh_policy.specs.declared.record.VoidRecord.{VoidRecord}
use Rattle.wh_batch.specs.BatchKind.{command_kind_word}
use Rattle.wh_batch.specs.Layouts.{dimension_records, sale_records, void_records}
use Rattle.wh_batch.specs.declared.kind.BatchKind.TheVariants.{Dimension, Sales, Voids}
use Rattle.wh_policy.specs.declared.format.Format.{Format}
use Rattle.wh_policy.specs.declared.format.Format.TheVariants.{Two}
use Rattle.wh_policy.specs.Formats.{is_two}
use Rattle.wh_batch.specs.declared.fault.BatchFault.{BatchFault}
use Rattle.wh_history.specs.Keys.{place}
use Rattle.wh_history.specs.Accepted.{Accepted, Content, Governs, Describes, Sells, Upgrades, Withdraws, policy_after, format_of, sold, sold_by, standing, withdrawn_by, records_by, placeholders_by}
use Rattle.wh_history.specs.Tables.{Limits}
use Rattle.wh_rows.specs.Types.{is_key}
use Rattle.wh_rows.specs.Limits.{are_limits}
use Rattle.wh_model.specs.Sound.{init_of}
use Rattle.wh_model.specs.Sound.{IsAccepted, changes_kept, same_line, is_sold_line}
use Rattle.wh_admission.specs.declared.command.Command.{Command}
use Rattle.wh_batch.specs.declared.kind.CommandKind.{CommandKind}
use Rattle.wh_batch.specs.declared.kind.CommandKind.TheVariants.{Batch, Migration, Upgrade}
use Rattle.wh_admission.specs.declared.command.Receipt.{Receipt}
use Rattle.wh_admission.specs.declared.command.Reply.{Reply}
use Rattle.wh_admission.specs.declared.command.Reply.TheVariants.{Accepted as Accepts, Already}
use Rattle.wh_admission.specs.declared.command.Refusal.{Refusal}
use Rattle.wh_admission.specs.declared.command.Refusal.TheVariants.{BadId, Reused, Batch as BadBatch, Policy as BadPolicy, Unfit, Upgraded, LineThere, NoLine, Full}
use Rattle.wh_admission.specs.declared.command.Limit.TheVariants.{Commands, Changes, Facts}

-- the policy in force; a list of accepted commands begins with a making, so it has one
abbrev pub current_policy : List Accepted → Policy
current_policy commands = unwrap_or (policy_after None commands) trial_policy

-- what was read of a batch, or its first fault
abbrev pub of_batch : {A : Type 0} → Result A BatchFault → Result A Refusal
of_batch (Ok read) = Ok read
of_batch (Err fault) = Err (BadBatch fault)

abbrev pub judged_records : Dim → Policy → List ℕ → Result (List DimensionRecord) Refusal
judged_records dim policy bytes = of_batch (dimension_records dim policy bytes)

abbrev pub judged_sales : Format → Policy → List ℕ → Result (List SaleRecord) Refusal
judged_sales format policy bytes = of_batch (sale_records policy format bytes)

abbrev pub judged_voids : Format → List ℕ → Result (List VoidRecord) Refusal
judged_voids format bytes = of_batch (void_records format bytes)

-- what was read of a policy file, or its first fault
abbrev pub of_file : Result Policy PolicyFault → Result Policy Refusal
of_file (Ok policy) = Ok policy
of_file (Err fault) = Err (BadPolicy fault)

-- the policy that takes the place of another: the one that the bytes write, where it fits
abbrev pub judged_policy : Policy → List ℕ → Result Policy Refusal
judged_policy older bytes = of_file (read_policy bytes) >>= λ newer. if fits older newer then Ok newer else Err Unfit

-- what the bytes of a command say in a format and under a policy, or why they are refused
abbrev pub content_of : CommandKind → Format → Policy → List ℕ → Result Content Refusal
content_of (Batch (Dimension dim)) format policy bytes = judged_records dim policy bytes >>= λ records. Ok (Describes dim records)
content_of (Batch Sales) format policy bytes = judged_sales format policy bytes >>= λ sales. Ok (Sells sales)
content_of (Batch Voids) format policy bytes = judged_voids format bytes >>= λ lines. Ok (Withdraws lines)
content_of Migration format policy bytes = judged_policy policy bytes >>= λ newer. Ok (Governs newer)
content_of Upgrade format policy bytes = Ok Upgrades

-- what is kept of the bytes of a command: an upgrade has none
abbrev pub kept_bytes : CommandKind → List ℕ → List ℕ
kept_bytes (Batch kind) bytes = bytes
kept_bytes Migration bytes = bytes
kept_bytes Upgrade bytes = []

-- the policy that is in force once such a command is accepted: a migration brings its own, and all others leave the one that is
abbrev pub policy_brought : CommandKind → Policy → List ℕ → Result Policy Refusal
policy_brought (Batch kind) policy bytes = Ok policy
policy_brought Migration policy bytes = judged_policy policy bytes
policy_brought Upgrade policy bytes = Ok policy

-- and the format
abbrev pub format_brought : CommandKind → Format → Format
format_brought (Batch kind) format = format
format_brought Migration format = format
format_brought Upgrade format = Two

-- a command with what it says
abbrev pub accepted_as : Command → Content → Accepted
accepted_as c content = record { id = c.id; kind = command_kind_word c.kind; bytes = kept_bytes c.kind c.bytes; content = content }

-- the receipt of a command of the list
abbrev pub receipt_of : List Accepted → ℕ → Content → Receipt
receipt_of commands number content = record { number = number; records = records_by content; placeholders = placeholders_by commands number content }

-- the number of the first that passes, where the first of all has this number
abbrev pub first_number : {X : Type 0} → (X → Bool) → ℕ → List X → Option ℕ
first_number test number [] = None
first_number test number (x ∷ xs) = if test x then Some number else first_number test (suc number) xs

-- the first sale whose ticket and line are those of a sale before, withdrawn or not
abbrev pub first_line_there : List SaleRecord → ℕ → List SaleRecord → Option ℕ
first_line_there before number sales = first_number (λ s. list_any (λ t. same_line t s) before) number sales

-- the first void whose ticket and line no sale has that stands
abbrev pub first_line_missing : List SaleRecord → ℕ → List VoidRecord → Option ℕ
first_line_missing stand number voids = first_number (λ v. not (is_sold_line stand v)) number voids

-- how many dimension records a content holds
abbrev pub changes_in : Content → ℕ
changes_in (Governs policy) = 0
changes_in (Describes dim records) = length records
changes_in (Sells sales) = 0
changes_in Upgrades = 0
changes_in (Withdraws lines) = 0

-- the number of the next command where this content has no line that is there
abbrev pub number_past_lines : Limits → List Accepted → Content → Option ℕ → Result ℕ Refusal
number_past_lines limits commands content (Some number) = Err (LineThere number)
number_past_lines limits commands content None =
    if nat_lt limits.changes (changes_kept commands + changes_in content) then Err (Full Changes)
    else if nat_lt limits.facts (length (sold commands) + length (sold_by content)) then Err (Full Facts)
    else Ok (suc (length commands))

-- where each line that it withdraws stands
abbrev pub number_past_voids : Limits → List Accepted → Content → Option ℕ → Result ℕ Refusal
number_past_voids limits commands content (Some number) = Err (NoLine number)
number_past_voids limits commands content None = number_past_lines limits commands content (first_line_there (sold commands) 1 (sold_by content))

-- it makes the second format of commands that have it
abbrev pub upgrades_again : List Accepted → Content → Bool
upgrades_again commands (Governs policy) = false
upgrades_again commands (Describes dim records) = false
upgrades_again commands (Sells sales) = false
upgrades_again commands Upgrades = is_two (format_of commands)
upgrades_again commands (Withdraws lines) = false

-- the number of the next command where there is room for it and for this content, it is no second upgrade, each line that it withdraws stands, and no line that it sells is there
abbrev pub number_for : Limits → List Accepted → Content → Result ℕ Refusal
number_for limits commands content =
    if nat_le limits.commands (length commands) then Err (Full Commands)
    else if upgrades_again commands content then Err Upgraded
    else number_past_voids limits commands content (first_line_missing (standing commands) 1 (withdrawn_by content))

-- the answer with its number, or why there is none
abbrev pub answer_with : List Accepted → Command → Content → Result ℕ Refusal → Result Reply Refusal
answer_with commands c content (Ok number) = Ok (Accepts (receipt_of (commands ++ accepted_as c content ∷ []) number content))
answer_with commands c content (Err why) = Err why

abbrev pub when_read : Limits → List Accepted → Command → Result Content Refusal → Result Reply Refusal
when_read limits commands c (Err why) = Err why
when_read limits commands c (Ok content) = answer_with commands c content (number_for limits commands content)

-- a command whose id is known comes again where kind and bytes are the same too, and has the receipt that was kept
abbrev pub receipt_again : (kind bytes : List ℕ) → Command → Receipt → Result Receipt Refusal
receipt_again kind bytes c kept = if bytes_eq kind (command_kind_word c.kind) && bytes_eq bytes (kept_bytes c.kind c.bytes) then Ok kept else Err Reused

-- and the answer with it
abbrev pub already : Result Receipt Refusal → Result Reply Refusal
already (Ok receipt) = Ok (Already receipt)
already (Err why) = Err why

abbrev pub when_known : List Accepted → Command → Accepted → Result Reply Refusal
when_known commands c a = already (receipt_again a.kind a.bytes c (receipt_of commands (place bytes_eq c.id (map (λ (b : Accepted). b.id) commands)) a.content))

abbrev pub by_id : Limits → List Accepted → Command → Option Accepted → Result Reply Refusal
by_id limits commands c (Some a) = when_known commands c a
by_id limits commands c None = when_read limits commands c (content_of c.kind (format_of commands) (current_policy commands) c.bytes)

-- the first case that applies
abbrev pub answer : Limits → List Accepted → Command → Result Reply Refusal
answer limits commands c = if is_key 40 c.id then by_id limits commands c (find (λ (a : Accepted). bytes_eq a.id c.id) commands) else Err BadId

-- the receipt of an answer
abbrev pub receipt_told : Reply → Receipt
receipt_told (Accepts receipt) = receipt
receipt_told (Already receipt) = receipt

-- the list with what was read of a command
abbrev pub with_content : List Accepted → Command → Result Content Refusal → List Accepted
with_content commands c (Ok content) = commands ++ accepted_as c content ∷ []
with_content commands c (Err why) = commands

-- the list after a command: with it where it is accepted
abbrev pub after_answer : List Accepted → Command → Result Reply Refusal → List Accepted
after_answer commands c (Ok (Accepts receipt)) = with_content commands c (content_of c.kind (format_of commands) (current_policy commands) c.bytes)
after_answer commands c (Ok (Already receipt)) = commands
after_answer commands c (Err why) = commands

abbrev pub accepted_after : Limits → List Accepted → Command → List Accepted
accepted_after limits commands c = after_answer commands c (answer limits commands c)

-- After a command, accepted or not, the list of accepted commands is again one that a warehouse can have accepted.
abbrev pub AcceptedListsStaySound : Type 0
AcceptedListsStaySound = (limits : Limits) (commands : List Accepted) (c : Command) → IsAccepted limits commands → IsAccepted limits (accepted_after limits commands c)

-- ---- from the making on

-- the list after commands that come one after the other
abbrev pub accepted_after_all : Limits → List Accepted → List Command → List Accepted
accepted_after_all limits commands [] = commands
accepted_after_all limits commands (c ∷ sent) = accepted_after_all limits (accepted_after limits commands c) sent

-- A command that comes again at once changes nothing, whatever it was answered.
abbrev pub ActsOnceAtOnce : Type 0
ActsOnceAtOnce = (limits : Limits) (commands : List Accepted) (c : Command) → accepted_after limits (accepted_after limits commands c) c ≡ accepted_after limits commands c

-- Nor does one that was accepted, or had been before, whatever was sent before it comes again; and it is answered with the receipt that it had.
abbrev pub ActsOnceLater : Type 0
ActsOnceLater = (limits : Limits) (commands : List Accepted) (c : Command) (reply : Reply) (sent : List Command) → answer limits commands c ≡ Ok reply
    → let held = accepted_after_all limits (accepted_after limits commands c) sent in (accepted_after limits held c ≡ held) × (answer limits held c ≡ Ok (Already (receipt_told reply)))

-- The list is one that a warehouse with these limits has after a making and some commands, of which those are in it that were accepted.
pub record AreAdmitted (limits : Limits) (commands : List Accepted) : Type 0 where
  pub limited : are_limits limits ≡ true
  pub policy : Policy
  pub bytes : List ℕ
  pub written : read_policy bytes ≡ Ok policy
  pub sent : List Command
  pub admitted : commands ≡ accepted_after_all limits (init_of policy bytes ∷ []) sent

-- Such a list is one that a warehouse can have accepted.
abbrev pub AdmittedListsAreSound : Type 0
AdmittedListsAreSound = (limits : Limits) (commands : List Accepted) → AreAdmitted limits commands → IsAccepted limits commands

-- what the command says is what its kind and bytes give in the format and under the policy that were in force before it
pub record IsOfItsBytes (before : List Accepted) (a : Accepted) : Type 0 where
  pub kind : CommandKind
  pub kind_is : a.kind ≡ command_kind_word kind
  pub content_is : content_of kind (format_of before) (current_policy before) a.bytes ≡ Ok a.content

-- so it is of each command that came after these
abbrev pub AreOfTheirBytes : List Accepted → List Accepted → Type 0
AreOfTheirBytes before [] = ⊤
AreOfTheirBytes before (a ∷ later) = IsOfItsBytes before a × AreOfTheirBytes (before ++ a ∷ []) later

-- In an admitted list what each command after the making says is what its kind and bytes give.
abbrev pub ContentsAreRead : Type 0
ContentsAreRead = (limits : Limits) (making : Accepted) (later : List Accepted) → AreAdmitted limits (making ∷ later) → AreOfTheirBytes (making ∷ []) later
