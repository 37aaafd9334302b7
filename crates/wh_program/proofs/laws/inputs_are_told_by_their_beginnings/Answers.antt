use Rattle.wh_program.proofs.InputLemmas.{policies_so, trials_so, commands_so}
use Rattle.wh_program.proofs.laws.inputs_are_told_by_their_beginnings.Goals as goal

pub returns-clause-policies : goal.returns-clause-policies
returns-clause-policies c = policies_so

pub returns-clause-trials : goal.returns-clause-trials
returns-clause-trials c = trials_so

pub returns-clause-commands : goal.returns-clause-commands
returns-clause-commands c = commands_so
