use Rattle.wh_plan.proofs.MayBeWritten.{a_command_may_be_written}
use Rattle.wh_plan.proofs.laws.a_command_may_be_written.Goals as goal

pub returns : goal.returns
returns c = a_command_may_be_written
