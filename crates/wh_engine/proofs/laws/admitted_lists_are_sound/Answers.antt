use Rattle.wh_admission.proofs.Admitted.{admitted_sound}
use Rattle.wh_engine.proofs.laws.admitted_lists_are_sound.Goals as goal

pub returns : goal.returns
returns c = admitted_sound
