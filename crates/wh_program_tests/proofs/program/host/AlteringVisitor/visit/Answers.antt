use Rattle.wh_program.specs.Standing.{Unknown}
use Rattle.wh_program_tests.proofs.program.host.AlteringVisitor.visit.Goals as goal

pub returns : goal.returns
returns g c = λ clean content at. (Unknown, tt, tt)
