use Rattle.wh_admission.proofs.CheckedTables.{sound_is_each_right}
use Rattle.wh_admission.proofs.laws.sound_is_each_right.Goals as goal

pub returns : goal.returns
returns c = sound_is_each_right
