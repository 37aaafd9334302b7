-- What a check of a warehouse's file answers and leaves.
use Rattle.std.specs.Prelude.{◌≡◌, ◌⊎◌, ℕ, List, Result, Ok, Err, IfOk}
use Rattle.wh_history.specs.Accepted.{Accepted}
use Rattle.wh_history.specs.Tables.{Limits}
use Rattle.wh_rows.specs.Raw.{Stored}
use Rattle.wh_admission.specs.Checked.{stored_in}
use Rattle.wh_checking.specs.declared.verdict.Verdict.{Verdict}
use Rattle.wh_checking.specs.declared.verdict.Verdict.TheVariants.{Clean}
use Rattle.wh_checking.specs.Checked.{IsChecked}
use Rattle.wh_engine.specs.Outcome.{Outcome}
use Rattle.wh_engine.specs.declared.fault.Fault.{Fault}
use Rattle.wh_engine.specs.declared.fault.Fault.TheVariants as fault
use Rattle.wh_program.specs.Inputs.{Refusals}
use Rattle.wh_program.specs.Reply.{verdict_answer}
use Rattle.wh_program.specs.Standing.{DatabaseContent, Nothing, Holds, Keeps, Is, Standing, Rests, LeftAt, left_standing}
use Rattle.wh_program.specs.Warehouse.{Shown, Shows, IsOpenedBy, IsUnread, AnswersWork}

-- ---- of accepted commands

-- What a check leaves of a warehouse with these commands: it is clean, and nothing changes.
abbrev pub LeavesClean : Limits → List Accepted → Result Verdict Fault → Standing → Type 0
LeavesClean limits commands verdict after = Outcome (λ due. due ≡ Ok Clean) commands commands verdict (λ left. after ≡ left_standing limits left)

pub record IsFoundClean (limits : Limits) (commands : List Accepted) (shown : Shown) (after : Standing) : Type 0 where
  pub verdict : Result Verdict Fault
  pub leaves : LeavesClean limits commands verdict after
  pub tells : IfOk shown (λ a. a ≡ verdict_answer verdict)

-- ---- of rows that anybody wrote

-- What a check leaves of them: they are as they were.
abbrev pub LeavesJudged : Stored → Result Verdict Fault → Standing → Type 0
LeavesJudged stored (Err (fault.Store cause)) after = after ≡ LeftAt (Keeps stored) (Keeps stored)
LeavesJudged stored verdict after = after ≡ Rests (Keeps stored)

-- they are opened, the verdict is the one that is due of the tables of the format that meta says, and just that is printed
pub record IsVerdictOn (stored : Stored) (shown : Shown) (after : Standing) : Type 0 where
  pub opened : IsOpenedBy stored
  pub verdict : Result Verdict Fault
  pub due : IsChecked (stored_in opened.session.format stored) verdict
  pub leaves : LeavesJudged stored verdict after
  pub tells : IfOk shown (λ a. a ≡ verdict_answer verdict)

-- ---- the word

-- What opens what stands and checks it.
abbrev pub Checks : DatabaseContent → Shown → Standing → Type 0
Checks Nothing shown after = Shows IsFoundClean Nothing shown after
Checks (Holds limits commands) shown after = Shows IsFoundClean (Holds limits commands) shown after
Checks (Keeps stored) shown after = IsVerdictOn stored shown after ⊎ IsUnread stored shown after
Checks (Is db) shown after = Shows IsFoundClean (Is db) shown after

abbrev pub AnswersCheck : Refusals → (Standing → Type 0) → DatabaseContent → (file : List ℕ) → Shown → Type 0
AnswersCheck refuses stands = AnswersWork refuses stands Checks
