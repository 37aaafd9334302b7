-- How a call ends on a warehouse that was ready for commands.
use Rattle.std.proofs.Common.{◌≡◌, inl, false, List, Some, Result, Ok, Err, refl, ap}
use Rattle.sqlite.specs.State.{State}
use Rattle.wh_history.specs.Accepted.{Accepted}
use Rattle.wh_history.specs.Tables.{Limits}
use Rattle.wh_rows.specs.AtRest.{IsAtRest, Leaves}
use Rattle.wh_rows.specs.Tables.{Tables}
use Rattle.wh_admission.specs.declared.command.Refusal.{Refusal}
use Rattle.wh_engine.specs.Answered.{IsReady, IsLeft, IsLeftUnnoted}
use Rattle.wh_engine.specs.Faults.{IsServed, Judges, stops}
use Rattle.wh_engine.specs.Outcome.{Left, Outcome}
use Rattle.wh_engine.specs.declared.fault.Fault.{Fault}
use Rattle.wh_engine.specs.declared.fault.Fault.TheVariants as faults
use Rattle.wh_engine.specs.declared.session.Session.{Session}

-- wherever it is left
abbrev pub anywhere : Left → Type 0
anywhere left = Unit {0}

-- a fault that was judged is due, if the refusal is
pub fault_due : {A X Y : Type 0} (is_due : Result A Refusal → Type 0) (before after : List Accepted) (fits : X → Y → Type 0) (judged : Result Y Refusal) (fault : Fault)
    → Judges fits (Err fault) judged → ((why : Refusal) → judged ≡ Err why → is_due (Err why)) → Outcome is_due before after (Err fault) anywhere
fault_due is_due before after fits judged (faults.Refused why) is refused = (refused why is, tt)
fault_due is_due before after fits judged faults.Memory is refused = tt
fault_due is_due before after fits judged (faults.Store cause) is refused = tt
fault_due is_due before after fits judged (faults.Damaged table) is refused = is
fault_due is_due before after fits judged faults.Reopen is refused = is

-- ---- a refusal of the database is noted

module _ (limits : Limits) (session : Session) (s : State) where
  ready_on : (commands : List Accepted) → IsReady limits commands session s → IsReady limits commands (record session { must_reopen = false }) s
  ready_on commands ready = record { admitted = ready.admitted; rests = ready.rests; session_is = ap (λ (q : Session). record q { must_reopen = false }) ready.session_is }

  pub noted : {A : Type 0} (is_due : Result A Refusal → Type 0) (before after : List Accepted) (result : Result A Fault) → Outcome is_due before after result (IsLeftUnnoted limits session s)
      → Outcome is_due before after result (IsLeft limits (record session { must_reopen = stops result }) s)
  noted is_due before after (Ok told) ended = (ended.0, ready_on after ended.1)
  noted is_due before after (Err (faults.Refused why)) ended = (ended.0, ready_on before ended.1)
  noted is_due before after (Err faults.Memory) ended = ready_on before ended
  noted is_due before after (Err (faults.Store cause)) ended = record { flagged = refl; left = ended }
  noted is_due before after (Err (faults.Damaged table)) ended = ended
  noted is_due before after (Err faults.Reopen) ended = ended

-- ---- the tables were read, and not written

module _ (limits : Limits) (commands : List Accepted) (session : Session) (old new : State) (ready : IsReady limits commands session old) where
  abbrev tables : Tables
  tables = ready.rests.tables

  pub still_ready : IsAtRest (Some tables) new → IsReady limits commands session new
  still_ready rests = record { admitted = ready.admitted; rests = record { tables = tables; are = ready.rests.are; rests = rests }; session_is = ready.session_is }

  module _ {A : Type 0} (is_due : Result A Refusal → Type 0) (left : Leaves (Some tables) new) where
    -- what isn't answered leaves them, whatever it was to lead to
    pub unanswered : (B : Type 0) (after : List Accepted) (fault : Fault) → Outcome is_due commands after (Err fault) anywhere → (IsServed {A = B} (Err fault) → IsAtRest (Some tables) new)
        → Outcome is_due commands after (Err fault) (IsLeftUnnoted limits session new)
    unanswered B after (faults.Refused why) due rests = (due.0, still_ready (rests tt))
    unanswered B after faults.Memory due rests = still_ready (rests tt)
    unanswered B after (faults.Store cause) due rests = record { each = λ trees may. inl (record { tables = tables; are = ready.rests.are; trees_are = left.each trees may }) }
    unanswered B after (faults.Damaged table) due rests = due
    unanswered B after faults.Reopen due rests = due

    only_read : (result : Result A Fault) → Outcome is_due commands commands result anywhere → (IsServed result → IsAtRest (Some tables) new) → Outcome is_due commands commands result (IsLeftUnnoted limits session new)
    only_read (Ok told) due rests = (due.0, still_ready (rests tt))
    only_read (Err fault) due rests = unanswered A commands fault due rests

    -- and so does a call that only reads, which notes whether the database refused one
    pub read_and_noted : (result : Result A Fault) → Outcome is_due commands commands result anywhere → (IsServed result → IsAtRest (Some tables) new)
        → Outcome is_due commands commands result (IsLeft limits (record session { must_reopen = stops result }) new)
    read_and_noted result due rests = noted limits session new is_due commands commands result (only_read result due rests)
