use Rattle.wh_sql.specs.Answers.{state_of}
use Rattle.wh_words.specs.Task.{report_words}
use Rattle.wh_program.specs.Readings.{report_answered}
use Rattle.wh_program.proofs.LookingLemmas.{looked}
use Rattle.wh_program.proofs.ReadingLemmas.{answer_stands}
use Rattle.wh_program.proofs.visits.report.ReportingWork.work.Goals as goal

pub returns-clause-done : goal.returns-clause-done
returns-clause-done g c = λ clean limits commands ready.
    answer_stands (report_answered (report_words c.args.self.asked)) limits commands c.asked_answer.result c.asked_answer.new.engine.session (state_of g.S.Store c.asked_answer.new.engine.tables)
    (c.asked_answer.ensures.reported clean limits commands ready)

pub returns-clause-over : goal.returns-clause-over
returns-clause-over g c = looked c.asked_answer.ensures.looks

pub returns-clause-clean : goal.returns-clause-clean
returns-clause-clean g c = c.asked_answer.ensures.looks.spares.clean
