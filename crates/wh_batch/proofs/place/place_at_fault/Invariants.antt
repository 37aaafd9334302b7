use Rattle.std.proofs.Common.{◌≡◌, map, drop}
use Rattle.std.specs.List.{position_from, zip}
use Rattle.wh_batch.specs.Columns.{is_at_fault}
use Rattle.wh_batch.proofs.place.place_at_fault.Given as goal

abbrev pub invariant-loop-place : goal.invariant-loop-place
invariant-loop-place l =
    position_from is_at_fault l.place (zip (drop l.place l.columns) (map (λ f. f.now) (drop l.place l.fields)))
    ≡ position_from is_at_fault 0 (zip l.columns (map (λ f. f.now) l.fields))
