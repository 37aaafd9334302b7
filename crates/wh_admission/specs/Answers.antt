-- Admission, case by case: the first case that applies gives the answer.
use Rattle.std.specs.Prelude.{◌≡◌, ◌≢◌, ◌⊎◌, ◌<◌, ◌≤◌, ℕ, suc, ◌+◌, ◌-◌, Bool, true, false, not, List, [], ◌∷◌, ◌++◌, length, map, take, Some, bytes_eq, Result, Ok, Err}
use Rattle.std.specs.List.{list_any, AllByRecursion, IsDistinct}
use Rattle.wh_policy.specs.declared.record.SaleRecord.{SaleRecord}
use Rattle.wh_policy.specs.declared.record.VoidRecord.{VoidRecord}
use Rattle.wh_batch.specs.BatchKind.{command_kind_word}
use Rattle.wh_history.specs.Accepted.{Accepted, Content, Sells, Withdraws, sold, sold_by, standing, withdrawn, withdrawn_by, withdraws_line, format_of}
use Rattle.wh_history.specs.Keys.{at_place}
use Rattle.wh_history.specs.Tables.{Limits}
use Rattle.wh_model.specs.Sound.{IsAccepted, changes_kept, same_line, is_sold_line}
use Rattle.wh_rows.specs.Types.{is_key}
use Rattle.wh_admission.specs.Admission.{current_policy, content_of, accepted_as, receipt_of, changes_in, answer, kept_bytes, upgrades_again}
use Rattle.wh_admission.specs.declared.command.Command.{Command}
use Rattle.wh_admission.specs.declared.command.Receipt.{Receipt}
use Rattle.wh_admission.specs.declared.command.Reply.{Reply}
use Rattle.wh_admission.specs.declared.command.Reply.TheVariants.{Accepted as Accepts, Already}
use Rattle.wh_admission.specs.declared.command.Refusal.{Refusal}
use Rattle.wh_admission.specs.declared.command.Refusal.TheVariants.{BadId, Reused, Upgraded, LineThere, NoLine, Full}
use Rattle.wh_admission.specs.declared.command.Limit.TheVariants.{Commands, Changes, Facts}

-- the id is a good one, and an accepted command with this number has it
pub record HasIdOf (commands : List Accepted) (c : Command) (number : ℕ) (a : Accepted) : Type 0 where
  pub good : is_key 40 c.id ≡ true
  pub there : at_place number commands ≡ Some a
  pub same_id : a.id ≡ c.id

-- an accepted command has this one's kind and bytes
pub record IsAlike (a : Accepted) (c : Command) : Type 0 where
  pub kind : a.kind ≡ command_kind_word c.kind
  pub bytes : a.bytes ≡ kept_bytes c.kind c.bytes

-- the id is a good one, and no accepted command has it
pub record IsNew (commands : List Accepted) (c : Command) : Type 0 where
  pub good : is_key 40 c.id ≡ true
  pub others : AllByRecursion (λ a. a.id ≢ c.id) commands

-- ---- what is checked of a command, in this order: each record adds one thing to the one before

-- a command is new, and under the policy and the format in force its bytes say this content
pub record Says (commands : List Accepted) (c : Command) (content : Content) : Type 0 where
  pub new : IsNew commands c
  pub read : content_of c.kind (format_of commands) (current_policy commands) c.bytes ≡ Ok content

-- the limit of commands isn't reached
pub record MayBeCounted (limits : Limits) (commands : List Accepted) (c : Command) (content : Content) : Type 0 where
  pub says : Says commands c content
  pub commands_left : length commands < limits.commands

-- it is no second upgrade
pub record FitsFormat (limits : Limits) (commands : List Accepted) (c : Command) (content : Content) : Type 0 where
  pub counted : MayBeCounted limits commands c content
  pub upgrades_once : upgrades_again commands content ≡ false

-- no sale that stands has a void's ticket and line
abbrev pub is_missing : List Accepted → VoidRecord → Bool
is_missing commands v = not (is_sold_line (standing commands) v)

-- each line that it withdraws stands
pub record WithdrawsStanding (limits : Limits) (commands : List Accepted) (c : Command) (content : Content) : Type 0 where
  pub fits : FitsFormat limits commands c content
  pub lines_stand : AllByRecursion (λ v. is_missing commands v ≡ false) (withdrawn_by content)

-- a sale's ticket and line are those of a sale that was accepted, withdrawn or not
abbrev pub is_sold : List Accepted → SaleRecord → Bool
is_sold commands s = list_any (λ t. same_line t s) (sold commands)

-- no line that it sells is there
pub record BringsNewLines (limits : Limits) (commands : List Accepted) (c : Command) (content : Content) : Type 0 where
  pub withdraws : WithdrawsStanding limits commands c content
  pub lines_new : AllByRecursion (λ s. is_sold commands s ≡ false) (sold_by content)

-- and the limit of changes isn't passed
pub record KeepsToChanges (limits : Limits) (commands : List Accepted) (c : Command) (content : Content) : Type 0 where
  pub lines : BringsNewLines limits commands c content
  pub changes_left : changes_kept commands + changes_in content ≤ limits.changes

-- of these the one with this number is the first that passes
pub record IsFirst {X : Type 0} (test : X → Bool) (xs : List X) (number : ℕ) : Type 0 where
  pub one : X
  pub here : at_place number xs ≡ Some one
  pub passes : test one ≡ true
  pub before : AllByRecursion (λ x. test x ≡ false) (take (number - 1) xs)

-- The answer to a command after these.
pub data IsAnswer (limits : Limits) (commands : List Accepted) (c : Command) : Result Reply Refusal → Type 0 where
  bad_id : is_key 40 c.id ≡ false → IsAnswer limits commands c (Err BadId)
  already : (number : ℕ) (a : Accepted) → HasIdOf commands c number a → IsAlike a c → IsAnswer limits commands c (Ok (Already (receipt_of commands number a.content)))
  reused : (number : ℕ) (a : Accepted) → HasIdOf commands c number a → ¬ IsAlike a c → IsAnswer limits commands c (Err Reused)
  faulty : (why : Refusal) → IsNew commands c → content_of c.kind (format_of commands) (current_policy commands) c.bytes ≡ Err why → IsAnswer limits commands c (Err why)
  commands_full : (content : Content) → Says commands c content → limits.commands ≤ length commands → IsAnswer limits commands c (Err (Full Commands))
  upgraded : (content : Content) → MayBeCounted limits commands c content → upgrades_again commands content ≡ true → IsAnswer limits commands c (Err Upgraded)
  no_line : (content : Content) (number : ℕ) → FitsFormat limits commands c content → IsFirst (is_missing commands) (withdrawn_by content) number → IsAnswer limits commands c (Err (NoLine number))
  line_there : (content : Content) (number : ℕ) → WithdrawsStanding limits commands c content → IsFirst (is_sold commands) (sold_by content) number → IsAnswer limits commands c (Err (LineThere number))
  changes_full : (content : Content) → BringsNewLines limits commands c content → limits.changes < changes_kept commands + changes_in content → IsAnswer limits commands c (Err (Full Changes))
  facts_full : (content : Content) → KeepsToChanges limits commands c content → limits.facts < length (sold commands) + length (sold_by content) → IsAnswer limits commands c (Err (Full Facts))
  accepted : (content : Content) → KeepsToChanges limits commands c content → length (sold commands) + length (sold_by content) ≤ limits.facts
      → IsAnswer limits commands c (Ok (Accepts (receipt_of (commands ++ accepted_as c content ∷ []) (suc (length commands)) content)))

-- The function of admission gives such an answer.
abbrev pub AnswerIsByCases : Type 0
AnswerIsByCases = (limits : Limits) (commands : List Accepted) (c : Command) → IsAnswer limits commands c (answer limits commands c)

-- And where no two accepted commands have one id, there is no other.
abbrev pub AnswersAreOne : Type 0
AnswersAreOne = (limits : Limits) (commands : List Accepted) (c : Command) (said : Result Reply Refusal) → IsDistinct bytes_eq (map (λ (a : Accepted). a.id) commands) → IsAnswer limits commands c said → said ≡ answer limits commands c

-- admission does not accept the command
abbrev pub IsNotAccepted : Limits → List Accepted → Command → Type 0
IsNotAccepted limits commands c = (receipt : Receipt) → answer limits commands c ≢ Ok (Accepts receipt)

-- A batch of sales is not accepted where the line of one of them was sold before, withdrawn or not.
abbrev pub SoldLinesAreRefused : Type 0
SoldLinesAreRefused = (limits : Limits) (commands : List Accepted) (c : Command) (sales : List SaleRecord) (number : ℕ) (s : SaleRecord)
    → content_of c.kind (format_of commands) (current_policy commands) c.bytes ≡ Ok (Sells sales)
    → at_place number sales ≡ Some s
    → is_sold commands s ≡ true
    → IsNotAccepted limits commands c

-- So a line that was withdrawn is never sold again.
abbrev pub WithdrawnLinesAreNotSold : Type 0
WithdrawnLinesAreNotSold = (limits : Limits) (commands : List Accepted) (c : Command) (sales : List SaleRecord) (number : ℕ) (s : SaleRecord)
    → IsAccepted limits commands
    → content_of c.kind (format_of commands) (current_policy commands) c.bytes ≡ Ok (Sells sales)
    → at_place number sales ≡ Some s
    → withdraws_line s.ticket s.line (withdrawn commands) ≡ true
    → IsNotAccepted limits commands c

-- Nor is a batch of voids accepted where the line of one of them was withdrawn before, or never sold.
abbrev pub WithdrawnLinesAreRefused : Type 0
WithdrawnLinesAreRefused = (limits : Limits) (commands : List Accepted) (c : Command) (lines : List VoidRecord) (number : ℕ) (v : VoidRecord)
    → content_of c.kind (format_of commands) (current_policy commands) c.bytes ≡ Ok (Withdraws lines)
    → at_place number lines ≡ Some v
    → (withdraws_line v.ticket v.line (withdrawn commands) ≡ true) ⊎ (is_sold_line (sold commands) v ≡ false)
    → IsNotAccepted limits commands c
