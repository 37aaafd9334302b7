use Rattle.wh_admission.proofs.CheckedTables.{damage_is_wrong}
use Rattle.wh_admission.proofs.laws.damage_is_wrong.Goals as goal

pub returns : goal.returns
returns c = damage_is_wrong
