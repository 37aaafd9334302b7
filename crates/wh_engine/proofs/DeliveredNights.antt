-- A delivery and a crash after it are a night.
use Rattle.std.proofs.Common.{◌≡◌, inl, Bool, true, false, List, length, drop, Option, Some, None, Result, sym, ap, subst, ◌∙◌, arith}
use Rattle.std.proofs.lemmas.List.{take_all}
use Rattle.sqlite.specs.State.{State}
use Rattle.wh_history.specs.Accepted.{Accepted}
use Rattle.wh_history.specs.Tables.{Limits}
use Rattle.wh_admission.specs.Admission.{accepted_after_all}
use Rattle.wh_admission.specs.declared.command.Command.{Command}
use Rattle.wh_admission.specs.declared.command.Refusal.{Refusal}
use Rattle.wh_admission.specs.declared.command.Reply.{Reply}
use Rattle.wh_engine.specs.Answered.{LeavesOneOf, IsReady}
use Rattle.wh_engine.specs.Delivered.{IsDelivered}
use Rattle.wh_engine.specs.Nights.{Morning, passed_over, after_night, night_of, DeliveryIsANight}
use Rattle.wh_engine.specs.declared.fault.Fault.{Fault}
use Rattle.wh_engine.specs.declared.fault.Fault.TheVariants.{Refused, Damaged, Memory, Store, Reopen}
use Rattle.wh_engine.specs.declared.session.Session.{Session}
use Rattle.wh_engine.proofs.Delivering.{as_many_answers}

-- a crash of an engine that is ready leaves its tables
ready_leaves : (limits : Limits) (commands other : List Accepted) (session : Session) (s : State) → IsReady limits commands session s → LeavesOneOf limits commands other s
ready_leaves limits commands other session s ready =
    record { each = λ trees may. inl (record { tables = ready.rests.tables; are = ready.rests.are; trees_are = ready.rests.rests.left.each trees may }) }

module _ (limits : Limits) (sent : List Command) (morning : Morning) (from_start : Bool) (answers : List (Result Reply Refusal)) (session : Session) (s : State) where
  abbrev given : List Command
  given = drop (passed_over morning (night_of from_start answers false)) sent

  abbrev found_after : Bool → List Accepted
  found_after left_next = (after_night limits sent morning (night_of from_start answers left_next)).found

  by_stop : (stop : Option Fault) → IsDelivered limits morning.found given answers stop session s → LeavesOneOf limits (found_after false) (found_after true) s
  by_stop None it =
      let many = ap (λ (as' : List (Result Reply Refusal)). length as') it.0 ∙ as_many_answers limits morning.found given in
      let all : accepted_after_all limits morning.found given ≡ found_after false = ap (accepted_after_all limits morning.found) (sym (take_all (length answers) given (omega (arith, many)))) in
      subst (λ list. LeavesOneOf limits list (found_after true) s) all (ready_leaves limits (accepted_after_all limits morning.found given) (found_after true) session s it.1)
  by_stop (Some Memory) it = ready_leaves limits (found_after false) (found_after true) session s it.2
  by_stop (Some (Store cause)) it = it.2.left
  by_stop (Some (Refused why)) it = absurd it
  by_stop (Some (Damaged table)) it = absurd it
  by_stop (Some Reopen) it = absurd it

pub delivery_is_a_night : (session : Session) (s : State) → DeliveryIsANight session s
delivery_is_a_night session s limits sent morning from_start answers stop it = by_stop limits sent morning from_start answers session s stop it
