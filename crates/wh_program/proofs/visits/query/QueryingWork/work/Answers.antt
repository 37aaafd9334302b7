use Rattle.wh_sql.specs.Answers.{state_of}
use Rattle.wh_words.specs.Task.{query_words}
use Rattle.wh_program.specs.Readings.{query_answered}
use Rattle.wh_program.proofs.LookingLemmas.{looked}
use Rattle.wh_program.proofs.ReadingLemmas.{answer_stands}
use Rattle.wh_program.proofs.visits.query.QueryingWork.work.Goals as goal

pub returns-clause-done : goal.returns-clause-done
returns-clause-done g c = λ clean limits commands ready.
    answer_stands (query_answered (query_words c.args.self.asked)) limits commands c.query_answer.result c.query_answer.new.engine.session (state_of g.S.Store c.query_answer.new.engine.tables)
    (c.query_answer.ensures.answered clean limits commands ready)

pub returns-clause-over : goal.returns-clause-over
returns-clause-over g c = looked c.query_answer.ensures.looks

pub returns-clause-clean : goal.returns-clause-clean
returns-clause-clean g c = c.query_answer.ensures.looks.spares.clean
