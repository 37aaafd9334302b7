use Rattle.wh_engine.proofs.Delivering.{deliveries_join}
use Rattle.wh_engine.proofs.laws.deliveries_join.Goals as goal

pub returns : goal.returns
returns c = deliveries_join
