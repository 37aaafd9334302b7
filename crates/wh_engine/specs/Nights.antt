-- A list of commands that is delivered night after night, until it is done.
use Rattle.std.specs.Prelude.{◌≡◌, ◌⊎◌, ℕ, suc, ◌+◌, max, Bool, true, false, if◌then◌else◌, List, [], ◌∷◌, ◌++◌, length, take, drop, Option, Result, IsOk, IsTrue}
use Rattle.std.specs.List.{AllByRecursion}
use Rattle.sqlite.specs.State.{State}
use Rattle.wh_history.specs.Accepted.{Accepted}
use Rattle.wh_history.specs.Tables.{Limits}
use Rattle.wh_admission.specs.Admission.{accepted_after_all}
use Rattle.wh_engine.specs.Answered.{LeavesOneOf}
use Rattle.wh_engine.specs.Delivered.{answers_to, IsDelivered}
use Rattle.wh_admission.specs.declared.command.Command.{Command}
use Rattle.wh_admission.specs.declared.command.Refusal.{Refusal}
use Rattle.wh_admission.specs.declared.command.Reply.{Reply}
use Rattle.wh_engine.specs.declared.fault.Fault.{Fault}
use Rattle.wh_engine.specs.declared.session.Session.{Session}

-- One night: whether it begins at the list's start again, or else at the first command that isn't acknowledged; how many commands it acknowledges before it
-- ends, or all that remain where they are fewer; and whether it left the next one accepted as well, without an answer.
pub record Night : Type 0 where
  pub from_start : Bool
  pub acknowledged : ℕ
  pub left_next : Bool

-- Between two nights: how many commands are acknowledged, from the list's start, and the list of accepted commands that is found when the warehouse is opened.
pub record Morning : Type 0 where
  pub acknowledged : ℕ
  pub found : List Accepted

-- how many of the commands that it began with a night left after it
abbrev pub left_by : Night → ℕ
left_by night = if night.left_next then suc night.acknowledged else night.acknowledged

-- how many commands of the list a night passes over
abbrev pub passed_over : Morning → Night → ℕ
passed_over morning night = if night.from_start then 0 else morning.acknowledged

abbrev pub after_night : Limits → List Command → Morning → Night → Morning
after_night limits sent morning night = record {
  acknowledged = max morning.acknowledged (passed_over morning night + night.acknowledged);
  found = accepted_after_all limits morning.found (take (left_by night) (drop (passed_over morning night) sent));
}

abbrev pub after_nights : Limits → List Command → Morning → List Night → Morning
after_nights limits sent morning [] = morning
after_nights limits sent morning (night ∷ nights) = after_nights limits sent (after_night limits sent morning night) nights

-- nothing is acknowledged yet
abbrev pub before_any : List Accepted → Morning
before_any commands = record { acknowledged = 0; found = commands }

-- delivered without a stop, none of the commands is refused
abbrev pub RefusesNone : Limits → List Accepted → List Command → Type 0
RefusesNone limits commands sent = AllByRecursion IsOk (answers_to limits commands sent)

-- a night begins at the list's start only where none of its commands is refused when they are delivered without a stop
abbrev pub AreAllowed : Limits → List Accepted → List Command → List Night → Type 0
AreAllowed limits commands sent nights = AllByRecursion (λ (night : Night). IsTrue night.from_start → RefusesNone limits commands sent) nights

-- However many nights a delivery takes, delivering the commands that aren't acknowledged leads to what a delivery without a stop leads to; and so does
-- delivering all of them again, where none of them is refused without a stop.
abbrev pub RedeliveryEndsTheSame : Type 0
RedeliveryEndsTheSame =
    (limits : Limits) (commands : List Accepted) (sent : List Command) (nights : List Night) → AreAllowed limits commands sent nights
    → let morning = after_nights limits sent (before_any commands) nights in
    (accepted_after_all limits morning.found (drop morning.acknowledged sent) ≡ accepted_after_all limits commands sent)
    × (RefusesNone limits commands sent → accepted_after_all limits morning.found sent ≡ accepted_after_all limits commands sent)

-- What is found in the morning is the list after the commands that are acknowledged, or after these and the next one.
abbrev pub ReopeningFindsABeginning : Type 0
ReopeningFindsABeginning =
    (limits : Limits) (commands : List Accepted) (sent : List Command) (nights : List Night) → AreAllowed limits commands sent nights
    → let morning = after_nights limits sent (before_any commands) nights in
    (morning.found ≡ accepted_after_all limits commands (take morning.acknowledged sent)) ⊎ (morning.found ≡ accepted_after_all limits commands (take (suc morning.acknowledged) sent))

-- Commands that are delivered in two parts lead to what they lead to together.
abbrev pub DeliveriesJoin : Type 0
DeliveriesJoin =
    (limits : Limits) (commands : List Accepted) (first more : List Command) → accepted_after_all limits commands (first ++ more) ≡ accepted_after_all limits (accepted_after_all limits commands first) more

-- ---- deliveries of an engine

-- the night in which a delivery gave these answers, and left the next command accepted as well, or didn't
abbrev pub night_of : Bool → List (Result Reply Refusal) → Bool → Night
night_of from_start answers left_next = record { from_start = from_start; acknowledged = length answers; left_next = left_next }

-- Whatever stopped a delivery that began with what was found in the morning, a crash after it leaves the tables of what is found after such a night.
abbrev pub DeliveryIsANight : Session → State → Type 0
DeliveryIsANight session s =
    (limits : Limits) (sent : List Command) (morning : Morning) (from_start : Bool) (answers : List (Result Reply Refusal)) (stop : Option Fault)
    → let next = λ (left_next : Bool). after_night limits sent morning (night_of from_start answers left_next) in
    IsDelivered limits morning.found (drop (passed_over morning (night_of from_start answers false)) sent) answers stop session s
    → LeavesOneOf limits (next false).found (next true).found s
