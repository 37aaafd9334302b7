-- What is answered to the word that prints views.
use Rattle.std.specs.Prelude.{◌≡◌, ℕ, List, IfOk}
use Rattle.wh_history.specs.Accepted.{Accepted, format_of}
use Rattle.wh_history.specs.Tables.{Limits}
use Rattle.wh_admission.specs.Admission.{current_policy}
use Rattle.wh_explain.specs.Views.{views_text}
use Rattle.wh_program.specs.Answer.{done}
use Rattle.wh_program.specs.Inputs.{Refusals}
use Rattle.wh_program.specs.Standing.{DatabaseContent, Holds, Rests, Standing}
use Rattle.wh_program.specs.Warehouse.{Shown, Shows, AnswersWork}

-- the views of the policy in force and the format are the answer, and nothing changes
pub record IsViewed (limits : Limits) (commands : List Accepted) (shown : Shown) (after : Standing) : Type 0 where
  pub same : after ≡ Rests (Holds limits commands)
  pub tells : IfOk shown (λ a. a ≡ done (views_text (current_policy commands) (format_of commands)))

abbrev pub AnswersViews : Refusals → (Standing → Type 0) → DatabaseContent → (file : List ℕ) → Shown → Type 0
AnswersViews refuses stands = AnswersWork refuses stands (Shows IsViewed)
