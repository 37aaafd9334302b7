use Rattle.std.proofs.Common.{◌≡◌, map, subst}
use Rattle.std.specs.Prelude.{IfOk}
use Rattle.std.proofs.lemmas.Result.{IfOk-from_err}
use Rattle.wh_sql.specs.Answers.{state_of}
use Rattle.wh_program.specs.Lists.{whole_answer}
use Rattle.wh_program.proofs.LookingLemmas.{looked}
use Rattle.wh_program.proofs.ListLemmas.{list_stands}
use Rattle.wh_program.proofs.visits.lists.ListingWork.work.Goals as goal

pub returns-clause-done : goal.returns-clause-done
returns-clause-done g c = λ clean limits commands ready.
    list_stands limits commands c.listed_answers.new.engine.session (state_of g.S.Store c.listed_answers.new.engine.tables) (map g.Q.Question.answered c.args.self.listed.now) c.whole_answer.result (λ all. c.in_ok-answers.answers.items ≡ all)
    (c.in_ok-answers.ensures.reported clean limits commands ready)
    (λ all are. subst (λ answers. IfOk c.whole_answer.result (λ a. a ≡ whole_answer answers)) are (rw c.deref.ensures.value at c.whole_answer.ensures))

pub returns-in_err-answers-clause-done : goal.returns-in_err-answers-clause-done
returns-in_err-answers-clause-done g c = λ clean limits commands ready.
    list_stands limits commands c.listed_answers.new.engine.session (state_of g.S.Store c.listed_answers.new.engine.tables) (map g.Q.Question.answered c.args.self.listed.now) c.from_residual.result _
    (c.in_err-answers.ensures.reported clean limits commands ready) (λ all shown. IfOk-from_err c.from_residual.result _ c.from_residual.ensures.0)

pub returns-clause-over : goal.returns-clause-over
returns-clause-over g c = looked c.listed_answers.ensures.looks

pub returns-in_err-answers-clause-over : goal.returns-in_err-answers-clause-over
returns-in_err-answers-clause-over g c = looked c.listed_answers.ensures.looks
