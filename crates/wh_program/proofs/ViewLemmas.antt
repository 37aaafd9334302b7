-- The views of a warehouse.
use Rattle.std.proofs.Common.{◌≡◌, refl, subst, List}
use Rattle.std.specs.Prelude.{IfOk}
use Rattle.sqlite.specs.State.{State}
use Rattle.wh_history.specs.Accepted.{Accepted}
use Rattle.wh_history.specs.Tables.{Limits}
use Rattle.wh_engine.specs.Answered.{IsReady}
use Rattle.wh_engine.specs.declared.session.Session.{Session}
use Rattle.wh_explain.specs.Views.{views_text}
use Rattle.wh_program.specs.Answer.{done}
use Rattle.wh_program.specs.Standing.{Holds, Rests, Standing, Stands}
use Rattle.wh_program.specs.Viewed.{IsViewed}
use Rattle.wh_program.specs.Warehouse.{Shown}

-- they are those of the policy in force and of the format
pub viewed : (limits : Limits) (commands : List Accepted) (shown : Shown) (session : Session) (s : State)
    → IfOk shown (λ a. a ≡ done (views_text session.policy session.format)) → IsReady limits commands session s
    → (after : Standing) × IsViewed limits commands shown after × Stands after s
viewed limits commands shown session s tells ready = (
  Rests (Holds limits commands),
  record { same = refl; tells = subst (λ (x : Session). IfOk shown (λ a. a ≡ done (views_text x.policy x.format))) ready.session_is tells },
  (ready.admitted, ready.rests),
)
