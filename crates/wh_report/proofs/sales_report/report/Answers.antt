use Rattle.std.proofs.Common.{◌≡◌, sym, ◌∙◌, ap, subst}
use Rattle.std.specs.Prelude.{Some, None}
use Rattle.wh_policy.specs.declared.policy.Policy.{Policy}
use Rattle.wh_report.specs.Reported.{ReportsTables, ReportsStored, column_asked}
use Rattle.wh_report.specs.declared.column.LabelColumn.{LabelColumn}
use Rattle.wh_engine.proofs.Scanning.{unserved}
use Rattle.wh_engine.specs.declared.session.Session.{Session}
use Rattle.wh_report.proofs.EngineReading.{only_flagged}
use Rattle.wh_report.proofs.ReadReports.{column_is, column_there}
use Rattle.wh_report.proofs.ReportedHistory.{reported_history}
use Rattle.wh_report.proofs.sales_report.report.Goals as goal

pub returns-then-must_reopen-clause-reads : goal.returns-then-must_reopen-clause-reads
returns-then-must_reopen-clause-reads g c = unserved _ _ (sym c.must_reopen.ensures ∙ c.if-must_reopen.true)

pub returns-then-must_reopen-clause-reported : goal.returns-then-must_reopen-clause-reported
returns-then-must_reopen-clause-reported g c clean limits commands ready = absurd (cc (sym c.must_reopen.ensures ∙ c.if-must_reopen.true, ap (λ (s : Session). s.must_reopen) ready.session_is))

pub returns-clause-only : goal.returns-clause-only
returns-clause-only g c = only_flagged _ _ _ _ _ c.report_over.ensures.reads

pub returns-clause-tables : goal.returns-clause-tables
returns-clause-tables g c clean t at subject which names shows =
    let asked : column_asked c.args.engine.now.session.policy c.args.request.now ≡ Some c.in-Some.column = ap (λ (p : Policy). column_asked p c.args.request.now) (sym c.policy.ensures) ∙ sym c.column_asked.ensures ∙ c.in-Some.is in
    subst (λ (column : LabelColumn). ReportsTables c.args.engine.now.session.format c.args.request.now column t c.report_over.result) (column_is c.args.engine.now.session.policy c.args.request.now c.in-Some.column subject which asked names shows) (c.report_over.ensures.tables clean t at)

pub returns-clause-stored : goal.returns-clause-stored
returns-clause-stored g c clean stored on subject which names shows =
    let asked : column_asked c.args.engine.now.session.policy c.args.request.now ≡ Some c.in-Some.column = ap (λ (p : Policy). column_asked p c.args.request.now) (sym c.policy.ensures) ∙ sym c.column_asked.ensures ∙ c.in-Some.is in
    subst (λ (column : LabelColumn). ReportsStored c.args.engine.now.session.format c.args.request.now column stored c.report_over.result) (column_is c.args.engine.now.session.policy c.args.request.now c.in-Some.column subject which asked names shows) (c.report_over.ensures.stored clean stored on)

pub returns-clause-reported : goal.returns-clause-reported
returns-clause-reported g c clean limits commands ready =
    let asked : column_asked c.args.engine.now.session.policy c.args.request.now ≡ Some c.in-Some.column = ap (λ (p : Policy). column_asked p c.args.request.now) (sym c.policy.ensures) ∙ sym c.column_asked.ensures ∙ c.in-Some.is in
    let over = c.report_over.ensures in
    reported_history limits commands c.args.engine.now.session _ _ _ c.args.request.now c.in-Some.column c.report_over.result clean ready asked over.reads (over.tables clean ready.rests.tables ready.rests.rests) over.kinds

pub unreachable-requires : goal.unreachable-requires
unreachable-requires g c =
    let none : column_asked c.args.engine.now.session.policy c.args.request.now ≡ None = ap (λ (p : Policy). column_asked p c.args.request.now) (sym c.policy.ensures) ∙ sym c.column_asked.ensures ∙ c.in-None.is in
    column_there c.args.engine.now.session.policy c.args.request.now c.requires none
