use Rattle.wh_engine.proofs.MadePolicies.{policies_are_good}
use Rattle.wh_engine.proofs.laws.policies_are_good.Goals as goal

pub returns : goal.returns
returns c = policies_are_good
