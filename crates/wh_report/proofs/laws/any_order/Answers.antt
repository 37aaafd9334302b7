use Rattle.wh_report.proofs.Summaries.{any_order}
use Rattle.wh_report.proofs.laws.any_order.Goals as goal

pub returns : goal.returns
returns c = any_order
