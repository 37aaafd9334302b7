-- What was asked for.
use Rattle.std.specs.Prelude.{ℕ, List}
use Rattle.wh_batch.specs.declared.mode.Mode.{Mode}

-- the words for an attribute, the mode, and the first and the last day
pub record Asked : Type 0 where
  pub words : List ℕ
  pub mode : Mode
  pub from : ℕ
  pub to : ℕ
