use Rattle.wh_sql.specs.Answers.{state_of}
use Rattle.wh_program.specs.Readings.{records_answered}
use Rattle.wh_program.proofs.LookingLemmas.{looked}
use Rattle.wh_program.proofs.ReadingLemmas.{answer_stands}
use Rattle.wh_program.proofs.visits.records.CarryingWork.work.Goals as goal

pub returns-clause-done : goal.returns-clause-done
returns-clause-done g c = λ clean limits commands ready.
    answer_stands (records_answered c.args.self.dim c.args.self.from) limits commands c.batch_answer.result c.batch_answer.new.engine.session (state_of g.S.Store c.batch_answer.new.engine.tables)
    (c.batch_answer.ensures.answered clean limits commands ready)

pub returns-clause-over : goal.returns-clause-over
returns-clause-over g c = looked c.batch_answer.ensures.looks

pub returns-clause-clean : goal.returns-clause-clean
returns-clause-clean g c = c.batch_answer.ensures.looks.spares.clean
