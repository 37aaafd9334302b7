-- Which statement the database refused.
use Rattle.std.specs.Prelude.{◌≡◌, ℕ, ◌≤◌, List, [], map}
use Rattle.sqlite.specs.Order.{Row}
use Rattle.sqlite.specs.State.{State, FailsToQuery}
use Rattle.sqlite.specs.Held.{Held, state}
use Rattle.sqlite_trees.specs.declared.store.Store.{Ghosts}
use Rattle.sqlite_rules.specs.Lists.{Has}
use Rattle.sqlite.specs.declared.error.Error.{Error}
use Rattle.wh_rows.specs.declared.cause.Cause.{Cause}
use Rattle.wh_rows.specs.Cause.{cause_of}

-- the database refused the query with an error of this cause
abbrev pub IsCauseOfQuery : List ℕ → Row → State → State → Cause → Type 0
IsCauseOfQuery text params old new cause = (error : Error) × (cause ≡ cause_of error) × FailsToQuery text params old new error

-- since the first of the connections the database refused one of these statements, with their parameters, and left the other
pub record IsOneRefused {S : Type 0} (store : Ghosts S) (refuses : List ℕ → Row → State → State → Cause → Type 0) (statements : List (List ℕ × Row)) (old new : Held S) (cause : Cause) : Type 0 where
  pub statement : List ℕ × Row
  pub among : Has statements statement
  pub before : Held S
  pub since : (state store old).faults ≤ (state store before).faults
  pub refused : refuses statement.0 statement.1 (state store before) (state store new) cause

-- texts without parameters
abbrev pub bare : List (List ℕ) → List (List ℕ × Row)
bare texts = map (λ text. (text, [])) texts
