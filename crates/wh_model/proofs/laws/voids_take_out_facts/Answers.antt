use Rattle.wh_model.proofs.WithdrawnRows.{voids_take_out_facts}
use Rattle.wh_model.proofs.laws.voids_take_out_facts.Goals as goal

pub returns : goal.returns
returns c = voids_take_out_facts
