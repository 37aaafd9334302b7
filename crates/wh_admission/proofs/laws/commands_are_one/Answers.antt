use Rattle.wh_admission.proofs.CheckedTables.{commands_are_one}
use Rattle.wh_admission.proofs.laws.commands_are_one.Goals as goal

pub returns : goal.returns
returns c = commands_are_one
