use Rattle.std.proofs.Common.{◌≡◌, ◌+◌, map, drop}
use Rattle.wh_batch.specs.Columns.{names}
use Rattle.wh_batch.specs.Faults.{first_difference}
use Rattle.wh_batch.proofs.place.first_difference.Given as goal

abbrev pub invariant-loop-place : goal.invariant-loop-place
invariant-loop-place l =
    first_difference (map (λ f. f.now) (drop l.place l.fields)) (names (drop l.place l.columns)) + l.place
    ≡ first_difference (map (λ f. f.now) l.fields) (names l.columns)
