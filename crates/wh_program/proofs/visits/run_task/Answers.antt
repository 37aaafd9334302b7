use Rattle.std.proofs.Common.{refl}
use Rattle.wh_program.proofs.visits.run_task.Goals as goal

pub returns-in-Trial-clause-runs : goal.returns-in-Trial-clause-runs
returns-in-Trial-clause-runs g c = rw c.in-Trial.is (refl, (c.trial.result, c.trial.ensures, c.print_answer.ensures))
