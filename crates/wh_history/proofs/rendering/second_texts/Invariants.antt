use Rattle.std.proofs.Common.{◌≡◌, ◌++◌, drop}
use Rattle.wh_history.specs.Slots.{columns_from}
use Rattle.wh_history.specs.Rows.{second_column}
use Rattle.wh_history.proofs.rendering.second_texts.Given as goal

abbrev pub invariant-loop-place : goal.invariant-loop-place
invariant-loop-place l = let column = second_column l.history.changes.now in l.texts ++ columns_from column l.place (drop l.place l.history.types.now) ≡ columns_from column 0 l.history.types.now
