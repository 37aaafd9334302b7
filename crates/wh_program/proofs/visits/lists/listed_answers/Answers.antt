use Rattle.std.proofs.Common.{◌≡◌, ◌≢◌, sym, refl, subst, Ok}
use Rattle.std.proofs.lemmas.Result.{IfOk-from_err}
use Rattle.wh_sql.specs.Answers.{state_of}
use Rattle.wh_program.specs.ReportsRead.{IsReadFor}
use Rattle.wh_program.proofs.LookingLemmas.{looks_itself, then_looks}
use Rattle.wh_program.proofs.ListLemmas.{one_more, all_answered, stopped, untold}
use Rattle.wh_program.proofs.visits.lists.listed_answers.Goals as goal

pub returns-in_err-answers-clause-reported : goal.returns-in_err-answers-clause-reported
returns-in_err-answers-clause-reported g c = λ clean limits commands ready.
    record { read = Ok tt; answered = 0; within = tt; serves = (refl, ready); tells = IfOk-from_err c.from_residual.result _ c.from_residual.ensures.0 }

pub loop-question-preserved : goal.loop-question-preserved
loop-question-preserved g c = (
  then_looks c.loop-question.invariant.0 c.answer.ensures.looks,
  λ clean limits commands ready.
      let session = c.answer.new.engine.session in
      let s = state_of g.S.Store c.answer.new.engine.tables in
      let so = c.loop-question.invariant.1 (c.answer.ensures.looks.spares.clean clean) limits commands ready in
      let reads = subst (λ q. IsReadFor (g.Q.Question.answered q commands) (Ok c.in_ok-answer.answer) limits commands session s) c.question-item.is (c.in_ok-answer.ensures.reported clean limits commands so.1) in
      rw c.in_ok-push.ensures.items (one_more g.Q.Question.answered limits commands session s c.args.listed.now c.loop-question.answers.items c.loop-question.question-index c.question-item.result
      c.in_ok-answer.answer c.loop-question-test.true so.0 reads (sym c.if-has_failed.ensures)),
)

pub returns-in_err-answer-clause-reported : goal.returns-in_err-answer-clause-reported
returns-in_err-answer-clause-reported g c = λ clean limits commands ready.
    let so = c.loop-question.invariant.1 (c.answer.ensures.looks.spares.clean clean) limits commands ready in
    untold g.Q.Question.answered limits commands c.answer.new.engine.session (state_of g.S.Store c.answer.new.engine.tables) c.args.listed.now _ c.loop-question.question-index _ _
    (λ answers. IfOk-from_err c.from_residual-in_err-answer.result _ c.from_residual-in_err-answer.ensures.0) c.loop-question-test.true (c.in_err-answer.ensures.reported clean limits commands so.1)

pub returns-in_err-push-clause-reported : goal.returns-in_err-push-clause-reported
returns-in_err-push-clause-reported g c = λ clean limits commands ready.
    let so = c.loop-question.invariant.1 (c.answer.ensures.looks.spares.clean clean) limits commands ready in
    untold g.Q.Question.answered limits commands c.answer.new.engine.session (state_of g.S.Store c.answer.new.engine.tables) c.args.listed.now _ c.loop-question.question-index _ _
    (λ answers. IfOk-from_err c.from_residual-in_err-push.result _ c.from_residual-in_err-push.ensures.0) c.loop-question-test.true (c.in_ok-answer.ensures.reported clean limits commands so.1)

pub returns-then-has_failed-clause-reported : goal.returns-then-has_failed-clause-reported
returns-then-has_failed-clause-reported g c = λ clean limits commands ready.
    let session = c.answer.new.engine.session in
    let s = state_of g.S.Store c.answer.new.engine.tables in
    let so = c.loop-question.invariant.1 (c.answer.ensures.looks.spares.clean clean) limits commands ready in
    let reads = subst (λ q. IsReadFor (g.Q.Question.answered q commands) (Ok c.in_ok-answer.answer) limits commands session s) c.question-item.is (c.in_ok-answer.ensures.reported clean limits commands so.1) in
    let unfailed = subst (λ q. (g.Q.Question.answered q commands).status ≢ 3) c.question-item.is (c.in_ok-answer.ensures.unfailed commands) in
    rw c.in_ok-push.ensures.items (stopped g.Q.Question.answered limits commands session s c.args.listed.now c.loop-question.answers.items c.loop-question.question-index c.question-item.result
    c.in_ok-answer.answer unfailed c.loop-question-test.true so.0 reads (sym c.if-has_failed.ensures))

pub returns-clause-reported : goal.returns-clause-reported
returns-clause-reported g c = λ clean limits commands ready.
    all_answered g.Q.Question.answered limits commands c.loop-question.engine.session (state_of g.S.Store c.loop-question.engine.tables) c.args.listed.now c.loop-question.answers.items c.loop-question.question-index
    c.loop-question-test.false (c.loop-question.invariant.1 clean limits commands ready)

pub returns-in_err-answers-clause-looks : goal.returns-in_err-answers-clause-looks
returns-in_err-answers-clause-looks g c = looks_itself

pub returns-in_err-answer-clause-looks : goal.returns-in_err-answer-clause-looks
returns-in_err-answer-clause-looks g c = then_looks c.loop-question.invariant.0 c.answer.ensures.looks

pub returns-in_err-push-clause-looks : goal.returns-in_err-push-clause-looks
returns-in_err-push-clause-looks g c = then_looks c.loop-question.invariant.0 c.answer.ensures.looks

pub returns-then-has_failed-clause-looks : goal.returns-then-has_failed-clause-looks
returns-then-has_failed-clause-looks g c = then_looks c.loop-question.invariant.0 c.answer.ensures.looks

pub returns-clause-looks : goal.returns-clause-looks
returns-clause-looks g c = c.loop-question.invariant.0
