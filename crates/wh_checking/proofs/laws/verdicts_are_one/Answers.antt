use Rattle.wh_checking.proofs.Judging.{verdicts_are_one}
use Rattle.wh_checking.proofs.laws.verdicts_are_one.Goals as goal

pub returns : goal.returns
returns c = verdicts_are_one
