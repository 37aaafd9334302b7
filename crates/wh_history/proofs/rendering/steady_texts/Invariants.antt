use Rattle.std.proofs.Common.{◌≡◌, ◌++◌, drop}
use Rattle.wh_history.specs.Slots.{columns_from}
use Rattle.wh_history.specs.Rendering.{steady_column}
use Rattle.wh_history.proofs.rendering.steady_texts.Given as goal

abbrev pub invariant-loop-place : goal.invariant-loop-place
invariant-loop-place l = let column = steady_column l.history.changes.now in l.texts ++ columns_from column l.place (drop l.place l.history.types.now) ≡ columns_from column 0 l.history.types.now
