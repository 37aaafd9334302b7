use Rattle.std.proofs.Common.{◌≡◌, ◌++◌, length, map}
use Rattle.wh_batch.proofs.row_place.row_places.Given as goal

abbrev pub invariant-rows : goal.invariant-rows
invariant-rows l = map (λ p. p.fields) l.places.items ++ map length l.rows ≡ map length l.initial.rows
