use Rattle.wh_records.proofs.PartsInTurn.{parts_in_turn_are_all}
use Rattle.wh_records.proofs.laws.parts_in_turn_are_all.Goals as goal

pub returns : goal.returns
returns c = parts_in_turn_are_all
