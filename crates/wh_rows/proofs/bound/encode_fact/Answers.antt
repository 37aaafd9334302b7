use Rattle.std.proofs.Common.{◌≡◌, ◌≢◌, Bool, false, ◌&&◌, ◌==◌, Result, Ok, Err, IfErr, ap}
use Rattle.wh_rows.specs.declared.cause.Cause.{Cause}
use Rattle.wh_rows.specs.declared.cause.Cause.TheVariants.{Memory, Size}
use Rattle.wh_rows.proofs.bound.encode_fact.Goals as goal

-- what has a bad column is no good fact, whatever else it has
neither : {A : Type 0} (result : Result A Cause) (good other : Bool) → IfErr result (λ cause. cause ≢ Memory → (cause ≡ Size) × (good ≡ false)) → IfErr result (λ cause. cause ≢ Memory → (cause ≡ Size) × ((good && other) ≡ false))
neither (Ok x) good other told = tt
neither (Err cause) good other told = λ size. let why = told size in (why.0, ap (λ b. b && other) why.1)

pub returns-clause-err : goal.returns-clause-err
returns-clause-err c = neither c.common_columns.result _ (c.args.row.now.discount == 0) c.common_columns.ensures.err
