use Rattle.wh_policy.proofs.FileLaws.{policies_are_sound}
use Rattle.wh_policy.proofs.laws.policies_are_sound.Goals as goal

pub returns : goal.returns
returns c = policies_are_sound
