-- A command that is sent again after a crash.
use Rattle.std.proofs.Common.{◌≡◌, ◌⊎◌, inl, inr, List, Result, Ok, Err, refl, sym, ap, subst}
use Rattle.sqlite.specs.Tree.{Trees}
use Rattle.sqlite.specs.State.{State}
use Rattle.wh_history.specs.Accepted.{Accepted}
use Rattle.wh_history.specs.Tables.{Limits}
use Rattle.wh_admission.specs.Admission.{accepted_after, after_answer}
use Rattle.wh_engine.specs.Answered.{AreTreesOf, LeavesOneOf, Rests, IsReady, IsStopped, IsAnswered}
use Rattle.wh_engine.specs.Redelivered.{IsRedelivered}
use Rattle.wh_admission.specs.declared.command.Command.{Command}
use Rattle.wh_admission.specs.declared.command.Reply.{Reply}
use Rattle.wh_engine.specs.declared.fault.Fault.{Fault}
use Rattle.wh_engine.specs.declared.fault.Fault.TheVariants as faults
use Rattle.wh_engine.specs.declared.session.Session.{Session}
use Rattle.wh_engine.proofs.Receipts.{told_again, refused_again}
use Rattle.wh_admission.proofs.Repeats.{acts_once}

pub left_of : (limits : Limits) (commands : List Accepted) (s : State) (trees : Trees) → Rests limits commands s → s.may_leave trees → AreTreesOf limits commands trees
left_of limits commands s trees rests may = record { tables = rests.tables; are = rests.are; trees_are = rests.rests.left.each trees may }

both_are : {A : Type 0} → A ⊎ A → A
both_are (inl a) = a
both_are (inr a) = a

module _ (limits : Limits) (commands : List Accepted) (c : Command) where
  abbrev after : List Accepted
  after = accepted_after limits commands c

  before_left : (s : State) → Rests limits commands s → LeavesOneOf limits commands after s
  before_left s rests = record { each = λ trees may. inl (left_of limits commands s trees rests may) }

  after_left : (s : State) → Rests limits after s → LeavesOneOf limits commands after s
  after_left s rests = record { each = λ trees may. inr (left_of limits after s trees rests may) }

  -- whatever a command answers, a crash leaves the tables before it or those with it
  pub answered_leaves : (result : Result Reply Fault) (session : Session) (s : State) → IsAnswered limits commands c result session s → LeavesOneOf limits commands after s
  answered_leaves (Ok reply) session s answered = after_left s answered.1.rests
  answered_leaves (Err (faults.Refused why)) session s answered = before_left s answered.1.rests
  answered_leaves (Err (faults.Damaged table)) session s answered = absurd answered
  answered_leaves (Err faults.Memory) session s answered = before_left s answered.rests
  answered_leaves (Err (faults.Store cause)) session s answered = answered.left
  answered_leaves (Err faults.Reopen) session s answered = absurd answered

  -- the command was not there, and comes again
  pub from_before : (result : Result Reply Fault) (session : Session) (s : State) → IsAnswered limits commands c result session s → IsRedelivered limits commands c result session s
  from_before (Ok reply) session s answered = (record { first = reply; said = answered.0; same = refl }, answered.1)
  from_before (Err (faults.Refused why)) session s answered = (answered.0, subst (λ list. IsReady limits list session s) (sym (ap (after_answer commands c) answered.0)) answered.1)
  from_before (Err (faults.Damaged table)) session s answered = absurd answered
  from_before (Err faults.Memory) session s answered = inl answered
  from_before (Err (faults.Store cause)) session s answered = answered
  from_before (Err faults.Reopen) session s answered = absurd answered

  once : accepted_after limits after c ≡ after
  once = acts_once limits commands c

  stopped_after : (session : Session) (s : State) → IsStopped limits after (accepted_after limits after c) session s → IsStopped limits commands after session s
  stopped_after session s stopped = record {
    flagged = stopped.flagged;
    left = record { each = λ trees may. inr (both_are (subst (λ list. AreTreesOf limits after trees ⊎ AreTreesOf limits list trees) once (stopped.left.each trees may))) };
  }

  -- it was there, and comes again
  pub from_after : (result : Result Reply Fault) (session : Session) (s : State) → IsAnswered limits after c result session s → IsRedelivered limits commands c result session s
  from_after (Ok reply) session s answered = (told_again limits commands c reply answered.0, subst (λ list. IsReady limits list session s) once answered.1)
  from_after (Err (faults.Refused why)) session s answered = (refused_again limits commands c why answered.0, answered.1)
  from_after (Err (faults.Damaged table)) session s answered = absurd answered
  from_after (Err faults.Memory) session s answered = inr answered
  from_after (Err (faults.Store cause)) session s answered = stopped_after session s answered
  from_after (Err faults.Reopen) session s answered = absurd answered
