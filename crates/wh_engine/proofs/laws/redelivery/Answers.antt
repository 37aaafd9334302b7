use Rattle.wh_engine.proofs.Nights.{redelivery}
use Rattle.wh_engine.proofs.laws.redelivery.Goals as goal

pub returns : goal.returns
returns c = redelivery
