use Rattle.std.proofs.Common.{◌≡◌, ◌++◌, drop}
use Rattle.wh_history.specs.Slots.{columns_from}
use Rattle.wh_history.specs.Tables.{no_card_main}
use Rattle.wh_history.proofs.trial.no_card_mains.Given as goal

abbrev pub invariant-loop-kind : goal.invariant-loop-kind
invariant-loop-kind l = l.texts ++ columns_from no_card_main l.kind-index (drop l.kind-index l.types) ≡ columns_from no_card_main 0 l.types
