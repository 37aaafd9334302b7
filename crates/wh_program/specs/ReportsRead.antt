-- What calls that read an engine for reports and queries say of it.
use Rattle.std.specs.Prelude.{◌≡◌, ◌<◌, ℕ, List, length, Result, IfErr, IfOk}
use Rattle.sqlite.specs.State.{State}
use Rattle.wh_history.specs.Accepted.{Accepted}
use Rattle.wh_history.specs.Tables.{Limits}
use Rattle.wh_engine.specs.Scanned.{IsServing}
use Rattle.wh_engine.specs.declared.fault.Fault.{Fault}
use Rattle.wh_engine.specs.declared.session.Session.{Session}
use Rattle.wh_program.specs.Answer.{Printed}
use Rattle.wh_program.specs.Lists.{Questions, answers_until}
use Rattle.wh_program.specs.Readings.{read_answer}
use Rattle.wh_program.specs.Warehouse.{Shown}

-- the warehouse was read for an answer, and that or the fault is told
pub record IsReadFor (answer : Printed) (shown : Shown) (limits : Limits) (commands : List Accepted) (session : Session) (s : State) : Type 0 where
  pub read : Result (Unit {0}) Fault
  pub serves : IsServing limits commands read session s
  pub tells : IfOk shown (λ a. a ≡ read_answer read answer)

-- it was read for questions, up to a fault, and their answers are told
pub record AreReadFor (questions : Questions) (Tells : List Printed → Type 0) (limits : Limits) (commands : List Accepted) (session : Session) (s : State) : Type 0 where
  pub read : Result (Unit {0}) Fault
  pub answered : ℕ
  pub within : IfErr read (λ fault. answered < length questions)
  pub serves : IsServing limits commands read session s
  pub tells : Tells (answers_until commands questions answered read)
