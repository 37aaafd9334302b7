use Rattle.std.proofs.Common.{sym, ◌∙◌, ap, ap₂, subst₂}
use Rattle.std.specs.Prelude.{List}
use Rattle.wh_engine.proofs.Scanning.{unserved}
use Rattle.wh_engine.specs.declared.session.Session.{Session}
use Rattle.wh_policy.specs.declared.policy.Policy.{Policy}
use Rattle.wh_report.specs.declared.column.LabelColumn.{LabelColumn}
use Rattle.wh_query.specs.Answered.{columns_asked, AnswersTables}
use Rattle.wh_query.specs.Asked.{condition_columns}
use Rattle.wh_query.proofs.History.{answered_history}
use Rattle.wh_query.proofs.answer.query.Goals as goal

pub returns-then-must_reopen-clause-reads : goal.returns-then-must_reopen-clause-reads
returns-then-must_reopen-clause-reads g c = unserved _ _ (sym c.must_reopen.ensures ∙ c.if-must_reopen.true)

pub returns-then-must_reopen-clause-answered : goal.returns-then-must_reopen-clause-answered
returns-then-must_reopen-clause-answered g c clean limits commands ready = absurd (cc (sym c.must_reopen.ensures ∙ c.if-must_reopen.true, ap (λ (s : Session). s.must_reopen) ready.session_is))

pub returns-clause-answered : goal.returns-clause-answered
returns-clause-answered g c clean limits commands ready =
    let over = c.answer_over.ensures in
    let filters = c.as_slice.ensures.value ∙ c.in_ok-filters.ensures ∙ ap₂ (λ (p : Policy) ds. columns_asked p (condition_columns ds)) c.policy.ensures c.conditions.ensures in
    let columns = c.as_slice-2.ensures.value ∙ c.in_ok-columns.ensures ∙ ap₂ (λ (p : Policy) ds. columns_asked p ds) c.policy-2.ensures c.columns.ensures in
    answered_history limits commands c.args.engine.now.session _ _ _ c.args.query.now c.answer_over.result clean ready c.requires over.reads
    (subst₂ (λ (f k : List LabelColumn). AnswersTables c.args.engine.now.session.format c.args.query.now f k ready.rests.tables c.answer_over.result) filters columns (over.tables clean ready.rests.tables ready.rests.rests)) over.kinds
