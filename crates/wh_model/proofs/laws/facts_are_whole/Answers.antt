use Rattle.wh_model.proofs.WholeFacts.{facts_are_whole}
use Rattle.wh_model.proofs.laws.facts_are_whole.Goals as goal

pub returns : goal.returns
returns c = facts_are_whole
