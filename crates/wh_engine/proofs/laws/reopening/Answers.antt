use Rattle.wh_engine.proofs.Nights.{reopening}
use Rattle.wh_engine.proofs.laws.reopening.Goals as goal

pub returns : goal.returns
returns c = reopening
