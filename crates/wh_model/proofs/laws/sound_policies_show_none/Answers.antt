use Rattle.wh_model.proofs.GrownPlain.{sound_policies_show_none}
use Rattle.wh_model.proofs.laws.sound_policies_show_none.Goals as goal

pub returns : goal.returns
returns c = sound_policies_show_none
