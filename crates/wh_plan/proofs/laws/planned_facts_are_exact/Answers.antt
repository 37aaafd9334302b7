use Rattle.wh_plan.proofs.MemberPlans.{planned_facts_are_exact}
use Rattle.wh_plan.proofs.laws.planned_facts_are_exact.Goals as goal

pub returns : goal.returns
returns c = planned_facts_are_exact
