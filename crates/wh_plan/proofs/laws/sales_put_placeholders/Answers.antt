use Rattle.wh_plan.proofs.SaleBatches.Placeholders.{sales_put_placeholders}
use Rattle.wh_plan.proofs.laws.sales_put_placeholders.Goals as goal

pub returns : goal.returns
returns c = sales_put_placeholders
