-- Where a refused line comes from is looked for after the preview.
use Rattle.std.proofs.Common.{◌≡◌, ℕ, List, Err, subst}
use Rattle.sqlite.specs.State.{State}
use Rattle.wh_batch.specs.declared.kind.CommandKind.{CommandKind}
use Rattle.wh_history.specs.Accepted.{Accepted}
use Rattle.wh_history.specs.Tables.{Limits}
use Rattle.wh_admission.specs.declared.command.Refusal.{Refusal}
use Rattle.wh_engine.specs.Previewed.{IsPreviewed}
use Rattle.wh_engine.specs.Scanned.{IsServing}
use Rattle.wh_engine.specs.declared.fault.Fault.{Fault}
use Rattle.wh_engine.specs.declared.fault.Fault.TheVariants as fault
use Rattle.wh_engine.specs.declared.session.Session.{Session}

-- a fault of that reading may take the place of the preview
pub answered_in_place : (A : Type 0) (limits : Limits) (commands : List Accepted) (kind : CommandKind) (bytes : List ℕ) (why : Fault) (session : Session) (s : State)
    → IsServing {A = A} limits commands (Err why) session s → IsPreviewed limits commands kind bytes (Err why) session s
answered_in_place A limits commands kind bytes (fault.Refused why) session s serving = let none = serving.0 in absurd (cc)
answered_in_place A limits commands kind bytes fault.Memory session s serving = serving
answered_in_place A limits commands kind bytes (fault.Store cause) session s serving = serving
answered_in_place A limits commands kind bytes (fault.Damaged table) session s serving = serving
answered_in_place A limits commands kind bytes fault.Reopen session s serving = serving

-- what is said of a fault is said of the refusal that it is
pub of_refusal : (limits : Limits) (commands : List Accepted) (kind : CommandKind) (bytes : List ℕ) (found : Fault) (why : Refusal) (session : Session) (s : State) → found ≡ fault.Refused why
    → IsPreviewed limits commands kind bytes (Err found) session s → IsPreviewed limits commands kind bytes (Err (fault.Refused why)) session s
of_refusal limits commands kind bytes found why session s is previewed = subst (λ (f : Fault). IsPreviewed limits commands kind bytes (Err f) session s) is previewed
