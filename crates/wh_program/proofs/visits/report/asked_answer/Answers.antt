use Rattle.std.proofs.Common.{◌∙◌, ap, sym}
use Rattle.wh_engine.specs.declared.session.Session.{Session}
use Rattle.wh_sql.specs.Answers.{state_of}
use Rattle.wh_program.specs.Readings.{asked_under}
use Rattle.wh_words.specs.Task.{report_words}
use Rattle.wh_program.proofs.LookingLemmas.{looks_itself, through_looks}
use Rattle.wh_program.proofs.ReadingLemmas.{given-reads, reported, not_asked, not_read}
use Rattle.wh_program.proofs.visits.report.asked_answer.Goals as goal

pub report-requires : goal.report-requires
report-requires g c =
    let words = report_words c.args.asked.now in
    given-reads c.args.engine.now.session.policy words.attribute words.mode words.from words.to c.in-Ok.request (rw (c.policy-policy.ensures, c.as_bytes-from.ensures.value, c.as_bytes-to.ensures.value) at c.in-Ok.ensures)

pub returns-in-Ok-clause-reported : goal.returns-in-Ok-clause-reported
returns-in-Ok-clause-reported g c = λ clean limits commands ready.
    let words = report_words c.args.asked.now in
    let is = rw (c.policy-policy.ensures, c.as_bytes-from.ensures.value, c.as_bytes-to.ensures.value) at c.in-Ok.ensures in
    let under = ap (λ (s : Session). asked_under s.policy words) ready.session_is in
    reported words limits commands c.report_answer.result c.report.new.engine.session (state_of g.S.Store c.report.new.engine.tables)
    c.in-Ok.request c.report.result (sym under ∙ is) (c.report.ensures.reported clean limits commands ready) c.report_answer.ensures
    (c.report.ensures.reads.serves clean limits commands ready)

pub returns-in-Err-Fault-clause-reported : goal.returns-in-Err-Fault-clause-reported
returns-in-Err-Fault-clause-reported g c = λ clean limits commands ready.
    let words = report_words c.args.asked.now in
    let is = rw (c.in-Err-Fault.field-0-is, c.policy-policy.ensures, c.as_bytes-from.ensures.value, c.as_bytes-to.ensures.value) at c.in-Err-Fault.ensures in
    let under = ap (λ (s : Session). asked_under s.policy words) ready.session_is in
    not_asked words limits commands c.request_answer.result c.args.engine.now.session (state_of g.S.Store c.args.engine.now.tables)
    c.in-Err-Fault.fault (sym under ∙ is) c.request_answer.ensures ready

pub returns-in-Err-Memory-clause-reported : goal.returns-in-Err-Memory-clause-reported
returns-in-Err-Memory-clause-reported g c = λ clean limits commands ready.
    not_read _ _ limits commands c.args.engine.now.session (state_of g.S.Store c.args.engine.now.tables) ready

pub returns-in-Ok-clause-looks : goal.returns-in-Ok-clause-looks
returns-in-Ok-clause-looks g c = through_looks c.report.ensures.reads

pub returns-in-Err-Fault-clause-looks : goal.returns-in-Err-Fault-clause-looks
returns-in-Err-Fault-clause-looks g c = looks_itself

pub returns-in-Err-Memory-clause-looks : goal.returns-in-Err-Memory-clause-looks
returns-in-Err-Memory-clause-looks g c = looks_itself
