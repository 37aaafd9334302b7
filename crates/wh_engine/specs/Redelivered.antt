-- What a warehouse holds after commands that were sent, and sent again after a crash.
use Rattle.std.specs.Prelude.{◌≡◌, ◌⊎◌, suc, ◌<◌, List, length, map, take, Option, Some, None, Result, Ok, Err}
use Rattle.sqlite.specs.State.{State}
use Rattle.wh_history.specs.Accepted.{Accepted}
use Rattle.wh_history.specs.Tables.{Limits}
use Rattle.wh_admission.specs.Admission.{answer, accepted_after, accepted_after_all, receipt_told}
use Rattle.wh_engine.specs.Answered.{IsReady, IsStopped}
use Rattle.wh_admission.specs.declared.command.Command.{Command}
use Rattle.wh_engine.specs.Delivered.{answers_to}
use Rattle.wh_admission.specs.declared.command.Refusal.{Refusal}
use Rattle.wh_admission.specs.declared.command.Receipt.{Receipt}
use Rattle.wh_admission.specs.declared.command.Reply.{Reply}
use Rattle.wh_engine.specs.declared.fault.Fault.{Fault}
use Rattle.wh_engine.specs.declared.fault.Fault.TheVariants.{Refused, Memory, Store}
use Rattle.wh_engine.specs.declared.session.Session.{Session}

-- A reply to the second has the receipt of the first where nothing stops it.
pub record HasReceipt (limits : Limits) (commands : List Accepted) (c : Command) (reply : Reply) : Type 0 where
  pub first : Reply
  pub said : answer limits commands c ≡ Ok first
  pub same : receipt_told reply ≡ receipt_told first

-- By the answer to the second: the receipt or the refusal is that of the command, and the tables are those of the list after it, once; or memory ran out, and
-- they are those before it or after it; or the database refused a call.
abbrev pub IsRedelivered : Limits → List Accepted → Command → Result Reply Fault → Session → State → Type 0
IsRedelivered limits commands c (Ok reply) session s = HasReceipt limits commands c reply × IsReady limits (accepted_after limits commands c) session s
IsRedelivered limits commands c (Err (Refused why)) session s = (answer limits commands c ≡ Err why) × IsReady limits (accepted_after limits commands c) session s
IsRedelivered limits commands c (Err Memory) session s = IsReady limits commands session s ⊎ IsReady limits (accepted_after limits commands c) session s
IsRedelivered limits commands c (Err (Store cause)) session s = IsStopped limits commands (accepted_after limits commands c) session s
IsRedelivered limits commands c (Err fault) session s = ⊥

-- ---- several commands

-- the receipt of an answer, or its refusal
abbrev pub receipt_answered : Result Reply Refusal → Result Receipt Refusal
receipt_answered (Ok reply) = Ok (receipt_told reply)
receipt_answered (Err why) = Err why

-- as many of the commands, from the first on, get the receipts and the refusals that they get without a stop
abbrev pub TellReceipts : Limits → List Accepted → List Command → List (Result Reply Refusal) → Type 0
TellReceipts limits commands sent answers = map receipt_answered answers ≡ map receipt_answered (answers_to limits commands (take (length answers) sent))

-- By what stopped the second delivery: with no stop all the receipts and refusals are those of a delivery without a stop, and the tables are those that it
-- leads to. Where memory ran out the tables are those after the commands that are answered, or after these and the next one; where the database refused a
-- call a crash leaves one of these two.
abbrev pub IsDeliveredAgain : Limits → List Accepted → List Command → List (Result Reply Refusal) → Option Fault → Session → State → Type 0
IsDeliveredAgain limits commands sent answers None session s =
    (map receipt_answered answers ≡ map receipt_answered (answers_to limits commands sent)) × IsReady limits (accepted_after_all limits commands sent) session s
IsDeliveredAgain limits commands sent answers (Some Memory) session s =
    TellReceipts limits commands sent answers
    × (IsReady limits (accepted_after_all limits commands (take (length answers) sent)) session s ⊎ IsReady limits (accepted_after_all limits commands (take (suc (length answers)) sent)) session s)
IsDeliveredAgain limits commands sent answers (Some (Store cause)) session s =
    TellReceipts limits commands sent answers × (length answers < length sent)
    × IsStopped limits (accepted_after_all limits commands (take (length answers) sent)) (accepted_after_all limits commands (take (suc (length answers)) sent)) session s
IsDeliveredAgain limits commands sent answers (Some fault) session s = ⊥
