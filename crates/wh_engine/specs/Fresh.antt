-- What a warehouse holds that was made where nothing was, and given commands.
use Rattle.std.specs.Prelude.{◌≡◌, ℕ, List, [], ◌∷◌, Option, Result, Ok}
use Rattle.sqlite.specs.State.{State}
use Rattle.wh_policy.specs.Policy.{read_policy}
use Rattle.wh_policy.specs.declared.policy.Policy.{Policy}
use Rattle.wh_history.specs.Tables.{Limits}
use Rattle.wh_model.specs.Sound.{init_of}
use Rattle.wh_engine.specs.Delivered.{IsDelivered}
use Rattle.wh_admission.specs.declared.command.Command.{Command}
use Rattle.wh_admission.specs.declared.command.Refusal.{Refusal}
use Rattle.wh_admission.specs.declared.command.Reply.{Reply}
use Rattle.wh_engine.specs.declared.fault.Fault.{Fault}
use Rattle.wh_engine.specs.declared.session.Session.{Session}

-- the bytes are a policy, and the commands were delivered to the warehouse that was made under it
pub record IsDeliveredFresh (limits : Limits) (bytes : List ℕ) (sent : List Command) (answers : List (Result Reply Refusal)) (stop : Option Fault) (s : State) : Type 0 where
  pub policy : Policy
  pub read : read_policy bytes ≡ Ok policy
  pub session : Session
  pub delivered : IsDelivered limits (init_of policy bytes ∷ []) sent answers stop session s
