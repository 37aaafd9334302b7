-- What is decided about a command, by what is read of the tables.
use Rattle.std.specs.Prelude.{◌≡◌, ℕ, ◌+◌, List, [], ◌∷◌, ◌++◌, length, filter, find, Option, None, unwrap_or, bytes_eq, true, Result, Ok, IfOk, ⊤}
use Rattle.std.specs.FinMap.{len}
use Rattle.wh_policy.specs.declared.format.Format.{Format}
use Rattle.wh_policy.specs.declared.format.Format.TheVariants.{One, Two}
use Rattle.wh_policy.specs.declared.policy.Policy.{Policy}
use Rattle.wh_history.specs.Accepted.{Accepted, Content, Governs, Describes, Sells, Upgrades, Withdraws, format_of, governed, records_by}
use Rattle.wh_history.specs.Tables.{Limits}
use Rattle.wh_rows.specs.declared.rows.CommandRow.{CommandRow}
use Rattle.wh_admission.specs.Admission.{answer, content_of, accepted_as, current_policy, number_for, policy_brought, already}
use Rattle.wh_rows.specs.Facts.{facts_in}
use Rattle.wh_rows.specs.Tables.{Tables}
use Rattle.wh_model.specs.Defined.{AreOf}
use Rattle.wh_plan.specs.Edits.{Edits, AreEdits}
use Rattle.wh_model.specs.Sound.{IsAccepted}
use Rattle.wh_rows.specs.Raw.{AreRows, Stored}
use Rattle.wh_rows.specs.Rows as layout
use Rattle.wh_rows.specs.Types.{is_key}
use Rattle.wh_rows.specs.Keys.{stands_at_number}
use Rattle.wh_rows.specs.declared.table.Table.TheVariants as table
use Rattle.wh_sql.specs.declared.fault.ReadFault.{ReadFault}
use Rattle.wh_admission.specs.Repeated.{IsKept, receipt_of_known, row_of_command}
use Rattle.wh_admission.specs.declared.command.Command.{Command}
use Rattle.wh_admission.specs.declared.command.Receipt.{Receipt}
use Rattle.wh_admission.specs.declared.command.Reply.{Reply}
use Rattle.wh_admission.specs.declared.command.Reply.TheVariants.{Accepted as Accepts, Already}
use Rattle.wh_admission.specs.declared.command.Refusal.{Refusal}
use Rattle.wh_engine.specs.Faults.{Judges}
use Rattle.wh_engine.specs.declared.fault.Fault.{Fault}
use Rattle.wh_engine.specs.declared.session.Session.{Session}
use Rattle.wh_engine.specs.declared.decision.Decision.{Decision}
use Rattle.wh_engine.specs.declared.decision.Decision.TheVariants.{Repeat, Accept}

-- the answer to a command whose id is that of this row
abbrev pub reply_to_known : CommandRow → Command → Result Reply Refusal
reply_to_known row c = already (receipt_of_known row c)

-- no accepted command has its id
abbrev pub IsNew : List Accepted → Command → Type 0
IsNew commands c = find (λ (a : Accepted). bytes_eq a.id c.id) commands ≡ None

-- the tables are those of these commands, and the session is theirs
pub record IsHeld (session : Session) (commands : List Accepted) (tables : Tables) : Type 0 where
  pub accepted : IsAccepted session.limits commands
  pub are : AreOf session.limits commands tables
  pub format : session.format ≡ format_of commands
  pub policy : session.policy ≡ current_policy commands

-- the command comes next: its id is good and new, it says this, and it gets this number
pub record ComesNext (limits : Limits) (commands : List Accepted) (c : Command) (content : Content) (number : ℕ) : Type 0 where
  pub good : is_key 40 c.id ≡ true
  pub new : IsNew commands c
  pub read : content_of c.kind (format_of commands) (current_policy commands) c.bytes ≡ Ok content
  pub numbered : number_for limits commands content ≡ Ok number

-- of any such command whose row is this the edits are planned that the tables need
abbrev pub PlansNext : Limits → CommandRow → Content → Result Edits ReadFault → List Accepted → Type 0
PlansNext limits row content result commands =
    (c : Command) (number : ℕ) → ComesNext limits commands c content number → row ≡ row_of_command c number (records_by content) → IfOk result (AreEdits commands (commands ++ accepted_as c content ∷ []))

-- how many of its edits put a placeholder row: a sale is the first to mention each new member
abbrev pub placeholders_in : Content → Edits → ℕ
placeholders_in (Governs policy) edits = 0
placeholders_in (Describes dim records) edits = 0
placeholders_in (Sells sales) edits = length edits.members
placeholders_in Upgrades edits = 0
placeholders_in (Withdraws lines) edits = 0

-- the edits are those of the command, which says this, and the newer policy is the one that it gives, if it gives one
pub record IsEffectOf (commands : List Accepted) (c : Command) (edits : Edits) (newer : Option Policy) : Type 0 where
  pub content : Content
  pub read : content_of c.kind (format_of commands) (current_policy commands) c.bytes ≡ Ok content
  pub edits_are : AreEdits commands (commands ++ accepted_as c content ∷ []) edits
  pub newer_is : newer ≡ governed None content

-- the decision is this reply, with the effect of an accepted command
abbrev pub Decides : List Accepted → Command → Decision → Reply → Type 0
Decides commands c (Repeat receipt) reply = reply ≡ Already receipt
Decides commands c (Accept receipt edits newer) reply = (reply ≡ Accepts receipt) × IsEffectOf commands c edits newer

-- what is decided is what the definition answers, always, or where the command's id is good and new
abbrev pub IsDecided : Session → Command → Result Decision Fault → List Accepted → Type 0
IsDecided session c result commands = Judges (Decides commands c) result (answer session.limits commands c)

abbrev pub IsDecidedNew : Session → Command → Result Decision Fault → List Accepted → Type 0
IsDecidedNew session c result commands = is_key 40 c.id ≡ true → IsNew commands c → IsDecided session c result commands

-- the policy of the decision, if it has one, takes the place of the one in force, as the command says
abbrev pub Brings : Policy → Command → Decision → Type 0
Brings policy c (Repeat receipt) = ⊤
Brings policy c (Accept receipt edits newer) = policy_brought c.kind policy c.bytes ≡ Ok (unwrap_or newer policy)

-- it isn't that a command is accepted
abbrev pub IsRepeat : Decision → Type 0
IsRepeat (Repeat receipt) = ⊤
IsRepeat (Accept receipt edits newer) = ⊥

-- whatever is stored, a command that is accepted has an edit of its own row
abbrev pub WritesItsRow : Decision → Type 0
WritesItsRow (Repeat receipt) = ⊥
WritesItsRow (Accept receipt edits newer) = length edits.commands ≡ 1

-- and one that came again was kept before, with this receipt
abbrev pub RepeatsKept : Stored → Command → Decision → Type 0
RepeatsKept stored c (Repeat receipt) = IsKept stored c receipt
RepeatsKept stored c (Accept receipt edits newer) = length edits.commands ≡ 1

-- how many lines of tickets the tables of a format keep: those of its facts, and in the second those that were withdrawn
abbrev pub lines_in : Format → Tables → ℕ
lines_in One t = len (facts_in One t)
lines_in Two t = len (facts_in Two t) + len t.void

-- no row stands under the number among the stored commands
abbrev pub HasNoCommand : Stored → ℕ → Type 0
HasNoCommand stored number = AreRows layout.command (filter (stands_at_number number) (stored.rows table.Command)) []
