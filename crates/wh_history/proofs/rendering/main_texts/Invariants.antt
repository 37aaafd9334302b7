use Rattle.std.proofs.Common.{◌≡◌, ◌++◌, drop}
use Rattle.std.specs.Option.{option_copied}
use Rattle.wh_history.specs.Slots.{columns_from}
use Rattle.wh_history.specs.Rendering.{shown_column}
use Rattle.wh_history.proofs.rendering.main_texts.Given as goal

abbrev pub invariant-loop-place : goal.invariant-loop-place
invariant-loop-place l = let column = shown_column l.steady (option_copied l.change) in l.texts ++ columns_from column l.place (drop l.place l.types) ≡ columns_from column 0 l.types
