-- Whether sixteen rows were put in.
use Rattle.std.specs.Prelude.{◌≢◌, ◌⊎◌, ℕ, List, Ok}
use Rattle.sqlite.specs.Order.{Row}
use Rattle.sqlite.specs.State.{State, Executes}
use Rattle.wh_rows.specs.Inserting.{rows_at_once, BreaksRule}

-- the statement was run
abbrev pub HasRun : List ℕ → Row → State → State → Type 0
HasRun text params old new = (count : ℕ) × Executes text params old new (Ok count)

-- rows were not put in: they are not sixteen, and all is the same; or that breaks a rule
abbrev pub IsNotPut : List ℕ → Row → ℕ → Type 0 → State → State → Type 0
IsNotPut text params count same old new = ((count ≢ rows_at_once) × same) ⊎ BreaksRule text params old new
