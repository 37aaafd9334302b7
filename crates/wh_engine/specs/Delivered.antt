-- What a warehouse holds after commands that are delivered one after the other.
use Rattle.std.specs.Prelude.{◌≡◌, ◌⊎◌, ℕ, suc, ◌<◌, Bool, true, false, List, [], ◌∷◌, length, take, Option, Some, None, IfSome, Result, Ok, Err, ⊤}
use Rattle.std.specs.List.{AllByRecursion}
use Rattle.sqlite.specs.State.{State}
use Rattle.wh_history.specs.Accepted.{Accepted}
use Rattle.wh_history.specs.Tables.{Limits}
use Rattle.wh_rows.specs.Raw.{Stored}
use Rattle.wh_admission.specs.Admission.{answer, accepted_after, accepted_after_all}
use Rattle.wh_engine.specs.Answered.{IsReady, IsStopped, IsGoverned, IsFormatted, IsWritten}
use Rattle.wh_admission.specs.declared.command.Command.{Command}
use Rattle.wh_admission.specs.declared.command.Refusal.{Refusal}
use Rattle.wh_admission.specs.declared.command.Reply.{Reply}
use Rattle.wh_admission.specs.declared.command.Reply.TheVariants as replies
use Rattle.wh_engine.specs.declared.fault.Fault.{Fault}
use Rattle.wh_engine.specs.declared.fault.Fault.TheVariants.{Refused, Damaged, Memory, Store, Reopen}
use Rattle.wh_engine.specs.declared.session.Session.{Session}
use Rattle.wh_engine.specs.Faults.{NamesDamage}

-- the answer to each of the commands, under the list that those before it lead to
abbrev pub answers_to : Limits → List Accepted → List Command → List (Result Reply Refusal)
answers_to limits commands [] = []
answers_to limits commands (c ∷ sent) = answer limits commands c ∷ answers_to limits (accepted_after limits commands c) sent

-- the answer to a command, or the fault that stops a delivery at it
abbrev pub answer_or_stop : Result Reply Fault → Result (Result Reply Refusal) Fault
answer_or_stop (Ok reply) = Ok (Ok reply)
answer_or_stop (Err (Refused why)) = Ok (Err why)
answer_or_stop (Err fault) = Err fault

-- these are the answers to as many of the commands, from the first on
abbrev pub AreAnswers : Limits → List Accepted → List Command → List (Result Reply Refusal) → Type 0
AreAnswers limits commands sent answers = answers ≡ answers_to limits commands (take (length answers) sent)

-- not all of the commands are answered; where there was no room for an answer, there may be none to answer
abbrev pub AreFewer : List Command → List (Result Reply Refusal) → Type 0
AreFewer sent answers = (answers ≡ []) ⊎ (length answers < length sent)

-- What a delivery says: with no stop each command has its answer, and the tables are those of the list after all of them. Where memory ran out the first
-- commands have theirs, not all, and the tables are those of the list after these. Where the database refused a call they have theirs too, and a crash leaves
-- the tables of the list after these, or those with the next command.
abbrev pub IsDelivered : Limits → List Accepted → List Command → List (Result Reply Refusal) → Option Fault → Session → State → Type 0
IsDelivered limits commands sent answers None session s =
    (answers ≡ answers_to limits commands sent) × IsReady limits (accepted_after_all limits commands sent) session s
IsDelivered limits commands sent answers (Some Memory) session s =
    AreAnswers limits commands sent answers × AreFewer sent answers × IsReady limits (accepted_after_all limits commands (take (length answers) sent)) session s
IsDelivered limits commands sent answers (Some (Store cause)) session s =
    AreAnswers limits commands sent answers × (length answers < length sent)
    × IsStopped limits (accepted_after_all limits commands (take (length answers) sent)) (accepted_after_all limits commands (take (suc (length answers)) sent)) session s
IsDelivered limits commands sent answers (Some fault) session s = ⊥

-- ---- on any tables

-- an answer by which nothing was accepted
abbrev pub AcceptsNothing : Result Reply Refusal → Type 0
AcceptsNothing (Ok (replies.Accepted receipt)) = ⊥
AcceptsNothing (Ok (replies.Already receipt)) = ⊤
AcceptsNothing (Err why) = ⊤

abbrev pub AcceptNothing : List (Result Reply Refusal) → Type 0
AcceptNothing answers = AllByRecursion AcceptsNothing answers

-- the database refused a call
abbrev pub is_of_the_store : Option Fault → Bool
is_of_the_store (Some (Store cause)) = true
is_of_the_store (Some fault) = false
is_of_the_store None = false

-- a stop that is no refusal of a command
abbrev pub IsNoRefusal : Option Fault → Type 0
IsNoRefusal (Some (Refused why)) = ⊥
IsNoRefusal (Some fault) = ⊤
IsNoRefusal None = ⊤

-- the table that is blamed by a stop stores a damaged row
abbrev pub BlamesStored : Stored → Option Fault → Type 0
BlamesStored stored stop = IfSome stop (NamesDamage stored)

-- With no stop each of the commands is answered; else the first of them are, and not all; none where the warehouse had to be opened again.
abbrev pub AreAsMany : List Command → List (Result Reply Refusal) → Option Fault → Type 0
AreAsMany sent answers None = length answers ≡ length sent
AreAsMany sent answers (Some Memory) = AreFewer sent answers
AreAsMany sent answers (Some Reopen) = answers ≡ []
AreAsMany sent answers (Some fault) = length answers < length sent

-- the answer to a command, as a call gives it
abbrev pub as_called : Result Reply Refusal → Result Reply Fault
as_called (Ok reply) = Ok reply
as_called (Err why) = Err (Refused why)

-- the second is what the answers to the first commands make of the first, one after the other
abbrev pub AreLed : {X : Type 0} → (X → X → Command → Result Reply Fault → Type 0) → X → X → List (Result Reply Refusal) → List Command → Type 0
AreLed Leads old new [] sent = new ≡ old
AreLed Leads old new (first ∷ answers) [] = ⊥
AreLed {X} Leads old new (first ∷ answers) (c ∷ sent) = (between : X) × Leads old between c (as_called first) × AreLed Leads between new answers sent

-- the answers say this of their commands, up to the first by which something was accepted
abbrev pub EachUntilAccepted : (Command → Result Reply Fault → Type 0) → List (Result Reply Refusal) → List Command → Type 0
EachUntilAccepted Says [] sent = ⊤
EachUntilAccepted Says (first ∷ answers) [] = ⊥
EachUntilAccepted Says (first ∷ answers) (c ∷ sent) = Says c (as_called first) × (AcceptsNothing first → EachUntilAccepted Says answers sent)

-- A delivery notes whether the database refused a call. The limits stay, and so does the policy where nothing was accepted; else it and the format are what
-- the accepted commands make of them.
pub record IsDeliveryNoted (old new : Session) (sent : List Command) (answers : List (Result Reply Refusal)) (stop : Option Fault) : Type 0 where
  pub flag : new.must_reopen ≡ is_of_the_store stop
  pub limits : new.limits ≡ old.limits
  pub policy : AcceptNothing answers → new.policy ≡ old.policy
  pub governed : AreLed IsGoverned old.policy new.policy answers sent
  pub formatted : AreLed IsFormatted old.format new.format answers sent

-- ---- how many keys are written

-- as many keys are written as the last of the commands writes, and none where there is no command
abbrev pub IsLastWritten : Limits → List Accepted → List Command → ℕ → Type 0
IsLastWritten limits commands [] writes = writes ≡ 0
IsLastWritten limits commands (c ∷ []) writes = IsWritten limits commands c (as_called (answer limits commands c)) writes
IsLastWritten limits commands (c ∷ d ∷ sent) writes = IsLastWritten limits (accepted_after limits commands c) (d ∷ sent) writes

-- With no stop as many as the last command writes, else none.
abbrev pub IsDeliveryWritten : Limits → List Accepted → List Command → Option Fault → ℕ → Type 0
IsDeliveryWritten limits commands sent None writes = IsLastWritten limits commands sent writes
IsDeliveryWritten limits commands sent (Some fault) writes = writes ≡ 0
