use Rattle.wh_plan.proofs.SaleBatches.Selling.{sales_are_facts}
use Rattle.wh_plan.proofs.laws.sales_are_facts.Goals as goal

pub returns : goal.returns
returns c = sales_are_facts
