use Rattle.std.proofs.Common.{◌∙◌, ap, subst, sym}
use Rattle.wh_engine.specs.declared.session.Session.{Session}
use Rattle.wh_query.specs.Answered.{Answers}
use Rattle.wh_query.specs.Asked.{in_form, query_reads}
use Rattle.wh_query.proofs.ReadQueries.{queries_have_readings}
use Rattle.wh_sql.specs.Answers.{state_of}
use Rattle.wh_program.specs.Readings.{queried_under}
use Rattle.wh_words.specs.Task.{query_words}
use Rattle.wh_program.proofs.LookingLemmas.{looks_itself, through_looks}
use Rattle.wh_program.proofs.ReadingLemmas.{queried, no_query, not_read}
use Rattle.wh_program.proofs.visits.query.query_answer.Goals as goal

pub query-requires : goal.query-requires
query-requires g c =
    let words = query_words c.args.asked.now in
    ap (query_reads c.args.engine.now.session.policy) c.in_form-wanted.ensures
    ∙ queries_have_readings c.args.engine.now.session.policy words.columns words.conditions words.from words.to c.in-Ok.read (rw (c.policy-policy.ensures, c.as_slice-columns.ensures.value, c.as_slice-conditions.ensures.value, c.as_bytes-from.ensures.value, c.as_bytes-to.ensures.value) at c.in-Ok.ensures)

pub returns-in-Ok-clause-answered : goal.returns-in-Ok-clause-answered
returns-in-Ok-clause-answered g c = λ clean limits commands ready.
    let words = query_words c.args.asked.now in
    let is = rw (c.policy-policy.ensures, c.as_slice-columns.ensures.value, c.as_slice-conditions.ensures.value, c.as_bytes-from.ensures.value, c.as_bytes-to.ensures.value) at c.in-Ok.ensures in
    let under = ap (λ (s : Session). queried_under s.policy words) ready.session_is in
    queried words limits commands c.report_answer.result c.query.new.engine.session (state_of g.S.Store c.query.new.engine.tables)
    c.in-Ok.read c.query.result (sym under ∙ is) (subst (λ q. Answers commands q c.query.result) (c.in_form-wanted.ensures ∙ ap (λ form. in_form form c.in-Ok.read) c.form_of.ensures) (c.query.ensures.answered clean limits commands ready)) c.report_answer.ensures
    (c.query.ensures.reads.serves clean limits commands ready)

pub returns-in-Err-Fault-clause-answered : goal.returns-in-Err-Fault-clause-answered
returns-in-Err-Fault-clause-answered g c = λ clean limits commands ready.
    let words = query_words c.args.asked.now in
    let is = rw (c.in-Err-Fault.field-0-is, c.policy-policy.ensures, c.as_slice-columns.ensures.value, c.as_slice-conditions.ensures.value, c.as_bytes-from.ensures.value, c.as_bytes-to.ensures.value) at c.in-Err-Fault.ensures in
    let under = ap (λ (s : Session). queried_under s.policy words) ready.session_is in
    no_query words limits commands c.request_answer.result c.args.engine.now.session (state_of g.S.Store c.args.engine.now.tables)
    c.in-Err-Fault.fault (sym under ∙ is) c.request_answer.ensures ready

pub returns-in-Err-Memory-clause-answered : goal.returns-in-Err-Memory-clause-answered
returns-in-Err-Memory-clause-answered g c = λ clean limits commands ready.
    not_read _ _ limits commands c.args.engine.now.session (state_of g.S.Store c.args.engine.now.tables) ready

pub returns-in-Ok-clause-looks : goal.returns-in-Ok-clause-looks
returns-in-Ok-clause-looks g c = through_looks c.query.ensures.reads

pub returns-in-Err-Fault-clause-looks : goal.returns-in-Err-Fault-clause-looks
returns-in-Err-Fault-clause-looks g c = looks_itself

pub returns-in-Err-Memory-clause-looks : goal.returns-in-Err-Memory-clause-looks
returns-in-Err-Memory-clause-looks g c = looks_itself
