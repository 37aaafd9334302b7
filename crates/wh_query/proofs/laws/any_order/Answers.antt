use Rattle.wh_query.proofs.QueryLaws.{any_order}
use Rattle.wh_query.proofs.laws.any_order.Goals as goal

pub returns : goal.returns
returns c = any_order
