use Rattle.wh_admission.proofs.SoundTables.{sound_is_of_commands}
use Rattle.wh_admission.proofs.laws.sound_is_of_commands.Goals as goal

pub returns : goal.returns
returns c = sound_is_of_commands
