use Rattle.wh_model.proofs.Following.{late_records_move_facts}
use Rattle.wh_model.proofs.laws.late_records_move_facts.Goals as goal

pub returns : goal.returns
returns c = late_records_move_facts
