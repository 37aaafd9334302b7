use Rattle.wh_model.proofs.OwnKeys.{second_keys_are_apart}
use Rattle.wh_model.proofs.laws.second_keys_are_apart.Goals as goal

pub returns : goal.returns
returns c = second_keys_are_apart
