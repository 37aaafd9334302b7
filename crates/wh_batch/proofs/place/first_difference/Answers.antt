use Rattle.std.proofs.Common.{◌≤◌, min, length, arith}
use Rattle.wh_batch.proofs.PlaceLemmas.{no-difference}
use Rattle.wh_batch.proofs.place.first_difference.Goals as goal

pub returns : goal.returns
returns c =
    let past : min (length c.args.columns.now) (length c.args.fields.now) ≤ c.loop-place.place = rw c.min-few.ensures at c.loop-place-test.false in
    let here = rw (no-difference c.args.fields.now c.args.columns.now c.loop-place.place past) at c.loop-place.invariant in
    omega (arith, here)
