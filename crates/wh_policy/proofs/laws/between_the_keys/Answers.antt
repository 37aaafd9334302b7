use Rattle.wh_policy.proofs.BetweenKeys.{between_the_keys}
use Rattle.wh_policy.proofs.laws.between_the_keys.Goals as goal

pub returns : goal.returns
returns c = between_the_keys
