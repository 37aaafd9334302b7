use Rattle.wh_model.proofs.StandingMoves.{late_records_move_standing_facts}
use Rattle.wh_model.proofs.laws.late_records_move_standing_facts.Goals as goal

pub returns : goal.returns
returns c = late_records_move_standing_facts
