use Rattle.wh_plan.proofs.MovedFacts.{moved_facts_are_exact}
use Rattle.wh_plan.proofs.laws.moved_facts_are_exact.Goals as goal

pub returns : goal.returns
returns c = moved_facts_are_exact
