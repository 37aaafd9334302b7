use Rattle.wh_model.proofs.GrownUntouched.{untouched_member_keeps}
use Rattle.wh_model.proofs.laws.untouched_member_keeps.Goals as goal

pub returns : goal.returns
returns c = untouched_member_keeps
