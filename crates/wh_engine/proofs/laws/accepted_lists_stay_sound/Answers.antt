use Rattle.wh_admission.proofs.StaysAccepted.{accepted_lists_stay_sound}
use Rattle.wh_engine.proofs.laws.accepted_lists_stay_sound.Goals as goal

pub returns : goal.returns
returns c = accepted_lists_stay_sound
