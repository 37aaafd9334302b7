-- Where no transaction is begun.
use Rattle.std.specs.Prelude.{◌≡◌, false, [], codes, Result, IfErr}
use Rattle.sqlite.specs.State.{State, HasCleanDisk, Survives}
use Rattle.wh_rows.specs.declared.cause.Cause.{Cause}
use Rattle.wh_rows.specs.AtRest.{IsCauseOf}

-- nothing is committed; outside a transaction the database refused to begin one, with an error of this cause
pub record FailsToBegin {A : Type 0} (old new : State) (result : Result A Cause) : Type 0 where
  pub survives : Survives old new (λ _. ⊥)
  pub cause : HasCleanDisk new → old.in_transaction ≡ false → IfErr result (IsCauseOf (codes "BEGIN") [] old new)
