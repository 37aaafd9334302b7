use Rattle.wh_plan.proofs.MovedBetween.{facts_outside_stay}
use Rattle.wh_plan.proofs.laws.facts_outside_the_days_stay.Goals as goal

pub returns : goal.returns
returns c = facts_outside_stay
