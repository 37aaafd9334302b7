-- What a warehouse holds after a call, by its answer.
use Rattle.std.specs.Prelude.{◌≡◌, ◌⊎◌, ℕ, false, List, length, Some, Result, Ok, Err, IsTrue, ⊤}
use Rattle.sqlite.specs.Tree.{Trees}
use Rattle.sqlite.specs.State.{State}
use Rattle.wh_policy.specs.Formats.{format_number}
use Rattle.wh_policy.specs.declared.attribute.Dim.TheVariants.{Product, Store as Stores, Customer}
use Rattle.wh_policy.specs.declared.format.Format.{Format}
use Rattle.wh_policy.specs.declared.policy.Policy.{Policy}
use Rattle.wh_history.specs.Accepted.{Accepted, format_of, standing, members}
use Rattle.wh_history.specs.Tables.{Limits}
use Rattle.wh_rows.specs.AtRest.{AreTrees, IsAtRest}
use Rattle.wh_rows.specs.Tables.{Tables}
use Rattle.wh_rows.specs.Facts.{facts_table}
use Rattle.wh_rows.specs.Raw.{Stored}
use Rattle.wh_rows.specs.declared.table.Table.TheVariants as table
use Rattle.wh_admission.specs.Admission.{current_policy, policy_brought, format_brought, answer, accepted_after, AreAdmitted}
use Rattle.wh_model.specs.Defined.{AreOf}
use Rattle.wh_plan.specs.Edits.{Edits, AreEdits, edit_count}
use Rattle.wh_model.specs.Sound.{changes_kept}
use Rattle.wh_engine.specs.Faults.{stops}
use Rattle.wh_engine.specs.Outcome.{Left, At, Between, Outcome}
use Rattle.wh_admission.specs.Repeated.{IsKept}
use Rattle.wh_admission.specs.declared.command.Command.{Command}
use Rattle.wh_admission.specs.declared.command.Receipt.{Receipt}
use Rattle.wh_admission.specs.declared.command.Refusal.{Refusal}
use Rattle.wh_admission.specs.declared.command.Reply.{Reply}
use Rattle.wh_admission.specs.declared.command.Reply.TheVariants as replies
use Rattle.wh_engine.specs.declared.counts.Counts.{Counts}
use Rattle.wh_engine.specs.declared.session.Session.{Session}
use Rattle.wh_engine.specs.declared.fault.Fault.{Fault}
use Rattle.wh_engine.specs.declared.fault.Fault.TheVariants.{Store}

-- The connection is at rest with the tables of these commands: it holds them, outside a transaction, and a crash leaves them and nothing else.
pub record Rests (limits : Limits) (commands : List Accepted) (s : State) : Type 0 where
  pub tables : Tables
  pub are : AreOf limits commands tables
  pub rests : IsAtRest (Some tables) s

-- the trees of a database are those of the tables of these commands
pub record AreTreesOf (limits : Limits) (commands : List Accepted) (trees : Trees) : Type 0 where
  pub tables : Tables
  pub are : AreOf limits commands tables
  pub trees_are : AreTrees (Some tables) trees

-- whatever a crash leaves are the tables of the first commands, or those of the second
pub record LeavesOneOf (limits : Limits) (before after : List Accepted) (s : State) : Type 0 where
  pub each : (trees : Trees) → s.may_leave trees → AreTreesOf limits before trees ⊎ AreTreesOf limits after trees

-- The engine is open on a warehouse that was made with these limits and has accepted these commands.
pub record IsReady (limits : Limits) (commands : List Accepted) (session : Session) (s : State) : Type 0 where
  pub admitted : AreAdmitted limits commands
  pub rests : Rests limits commands s
  pub session_is : session ≡ record { limits = limits; format = format_of commands; policy = current_policy commands; must_reopen = false }

-- The database refused a call of the engine, which has to be opened again; a crash leaves the tables before the command, or those with it.
pub record IsStopped (limits : Limits) (before after : List Accepted) (session : Session) (s : State) : Type 0 where
  pub flagged : IsTrue session.must_reopen
  pub left : LeavesOneOf limits before after s

-- The engine is left so: ready for the commands, or stopped between the two lists.
abbrev pub IsLeft : Limits → Session → State → Left → Type 0
IsLeft limits session s (At commands) = IsReady limits commands session s
IsLeft limits session s (Between before after) = IsStopped limits before after session s

-- the same before it is noted that the database refused a call
abbrev pub IsLeftUnnoted : Limits → Session → State → Left → Type 0
IsLeftUnnoted limits session s (At commands) = IsReady limits commands session s
IsLeftUnnoted limits session s (Between before after) = LeavesOneOf limits before after s

-- What a command's answer says, and what the work on it says: the definition's answer is due, and it leads to the list with the command.
abbrev pub IsAnswered : Limits → List Accepted → Command → Result Reply Fault → Session → State → Type 0
IsAnswered limits commands c result session s = Outcome (λ due. answer limits commands c ≡ due) commands (accepted_after limits commands c) result (IsLeft limits session s)

abbrev pub IsPerformed : Limits → List Accepted → Command → Result Reply Fault → Session → State → Type 0
IsPerformed limits commands c result session s = Outcome (λ due. answer limits commands c ≡ due) commands (accepted_after limits commands c) result (IsLeftUnnoted limits session s)

-- The plan that is due: exactly the edits that the tables need to be those of the list after the command, where that is answered; else its refusal.
abbrev pub IsPlanOf : Limits → List Accepted → Command → Result Edits Refusal → Type 0
IsPlanOf limits commands c (Ok edits) = ((reply : Reply) × (answer limits commands c ≡ Ok reply)) × AreEdits commands (accepted_after limits commands c) edits
IsPlanOf limits commands c (Err why) = answer limits commands c ≡ Err why

-- What a plan says, and what the work on it says: nothing changes.
abbrev pub IsForetold : Limits → List Accepted → Command → Result Edits Fault → Session → State → Type 0
IsForetold limits commands c result session s = Outcome (IsPlanOf limits commands c) commands commands result (IsLeft limits session s)

abbrev pub IsForeseen : Limits → List Accepted → Command → Result Edits Fault → Session → State → Type 0
IsForeseen limits commands c result session s = Outcome (IsPlanOf limits commands c) commands commands result (IsLeftUnnoted limits session s)

-- an answer that leaves any tables as they were: nothing was accepted, and the database refused no call
abbrev pub KeepsNothing : Result Reply Fault → Type 0
KeepsNothing (Ok (replies.Accepted receipt)) = ⊥
KeepsNothing (Ok (replies.Already receipt)) = ⊤
KeepsNothing (Err (Store cause)) = ⊥
KeepsNothing (Err fault) = ⊤

-- whatever is stored, the answer that a command came again has the receipt of a row that was kept for it
abbrev pub IsAgain : Stored → Command → Result Reply Fault → Type 0
IsAgain stored c (Ok (replies.Accepted receipt)) = ⊤
IsAgain stored c (Ok (replies.Already receipt)) = IsKept stored c receipt
IsAgain stored c (Err fault) = ⊤

-- and a plan that writes nothing is that of a command for which a row was kept
abbrev pub IsPlannedAgain : Stored → Command → Edits → Type 0
IsPlannedAgain stored c edits = edit_count edits ≡ 0 → (receipt : Receipt) × IsKept stored c receipt

-- nothing was accepted
abbrev pub IsNotAccepted : Result Reply Fault → Type 0
IsNotAccepted (Ok (replies.Accepted receipt)) = ⊥
IsNotAccepted (Ok (replies.Already receipt)) = ⊤
IsNotAccepted (Err fault) = ⊤

-- the policy after an accepted command is the one that it brings
abbrev pub IsGoverned : Policy → Policy → Command → Result Reply Fault → Type 0
IsGoverned old new c (Ok (replies.Accepted receipt)) = policy_brought c.kind old c.bytes ≡ Ok new
IsGoverned old new c (Ok (replies.Already receipt)) = new ≡ old
IsGoverned old new c (Err fault) = new ≡ old

-- and the format is the one that it makes
abbrev pub IsFormatted : Format → Format → Command → Result Reply Fault → Type 0
IsFormatted old new c (Ok (replies.Accepted receipt)) = new ≡ format_brought c.kind old
IsFormatted old new c (Ok (replies.Already receipt)) = new ≡ old
IsFormatted old new c (Err fault) = new ≡ old

-- A call that was worked on notes whether the database refused it. The limits stay, and policy and format are what the command makes of them.
pub record IsNoted (old new : Session) (c : Command) (result : Result Reply Fault) : Type 0 where
  pub flag : new.must_reopen ≡ stops result
  pub limits : new.limits ≡ old.limits
  pub policy : IsGoverned old.policy new.policy c result
  pub format : IsFormatted old.format new.format c result

-- Exact edits lead from the tables of the commands to those of the list after the command, and as many keys are written; none where it isn't accepted.
abbrev pub IsWritten : Limits → List Accepted → Command → Result Reply Fault → ℕ → Type 0
IsWritten limits commands c (Ok (replies.Accepted receipt)) writes = (edits : Edits) × AreEdits commands (accepted_after limits commands c) edits × (writes ≡ edit_count edits)
IsWritten limits commands c (Ok (replies.Already receipt)) writes = writes ≡ 0
IsWritten limits commands c (Err fault) writes = writes ≡ 0

-- how much the tables of these commands hold
abbrev pub counts_of : List Accepted → Counts
counts_of commands = record {
  format = format_number (format_of commands);
  commands = length commands;
  changes = changes_kept commands;
  facts = length (standing commands);
  products = length (members Product commands);
  stores = length (members Stores commands);
  customers = length (members Customer commands);
}

-- The format is this one, and of commands, accepted records and its sales all that are stored are counted, damaged or not.
abbrev pub CountsStored : Format → Stored → Counts → Type 0
CountsStored format stored counts =
    (counts.format ≡ format_number format) × (counts.commands ≡ length (stored.rows table.Command)) × (counts.changes ≡ length (stored.rows table.Change)) × (counts.facts ≡ length (stored.rows (facts_table format)))

-- What a count says: it is that of the commands, and nothing changes.
abbrev pub IsCounted : Limits → List Accepted → Result Counts Fault → Session → State → Type 0
IsCounted limits commands result session s = Outcome (λ due. due ≡ Ok (counts_of commands)) commands commands result (IsLeft limits session s)
