use Rattle.wh_model.proofs.EffectiveFacts.{facts_are_effective}
use Rattle.wh_model.proofs.laws.facts_are_effective.Goals as goal

pub returns : goal.returns
returns c = facts_are_effective
