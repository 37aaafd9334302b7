use Rattle.wh_program.specs.Answer.{write_line}
use Rattle.wh_program.proofs.OutputLemmas.{beginning_written}
use Rattle.wh_program.proofs.output.write_failed.Goals as goal

pub returns-clause-shown : goal.returns-clause-shown
returns-clause-shown g c = beginning_written c.write_whole.result _ _ write_line c.write_whole.ensures.whole c.write_whole.ensures.beginning
