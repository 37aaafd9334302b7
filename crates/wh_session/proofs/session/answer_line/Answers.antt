use Rattle.std.proofs.Common.{inr, refl}
use Rattle.wh_session.proofs.OutputLemmas.{at_err}
use Rattle.wh_session.proofs.session.answer_line.Goals as goal

pub returns-in_err-end_answer-clause-stopped : goal.returns-in_err-end_answer-clause-stopped
returns-in_err-end_answer-clause-stopped g c =
    at_err c.from_residual.result (g.W.Write.contents c.answer.new.out, c.in-Some.status, c.in-Some.ensures.answered c.in-Some.status refl, c.in_err-end_answer.ensures.begun)

pub returns-clause-went : goal.returns-clause-went
returns-clause-went g c = inr (g.W.Write.contents c.answer.new.out, c.in-Some.ensures.answered c.in-Some.status refl, c.in_ok-end_answer.ensures.whole)
