use Rattle.std.proofs.Common.{Ok, refl, inl, inr}
use Rattle.wh_program.specs.Answer.{refused, session_line}
use Rattle.std.proofs.lemmas.Result.{IfOk-weaker}
use Rattle.wh_program.proofs.visits.run_over.Goals as goal

pub returns-in-Init-clause-runs : goal.returns-in-Init-clause-runs
returns-in-Init-clause-runs g c = rw c.in-Init.is (
  (λ content stood. (c.init.result, c.init.ensures.made content stood, c.print_answer.ensures)),
  (c.init.result, c.init.ensures.judged, c.print_answer.ensures),
)

pub returns-in-Load-clause-runs : goal.returns-in-Load-clause-runs
returns-in-Load-clause-runs g c = rw c.in-Load.is (λ content stood. (c.send.result, c.send.ensures.answers content stood, c.print_answer-in-Load.ensures))

pub returns-in-Migrate-clause-runs : goal.returns-in-Migrate-clause-runs
returns-in-Migrate-clause-runs g c = rw c.in-Migrate.is (λ content stood. (c.send-in-Migrate.result, c.send-in-Migrate.ensures.answers content stood, c.print_answer-in-Migrate.ensures))

pub returns-in-ExplainInit-clause-runs : goal.returns-in-ExplainInit-clause-runs
returns-in-ExplainInit-clause-runs g c = rw c.in-ExplainInit.is (refl, (c.explain_init.result, c.explain_init.ensures, c.print_answer-in-ExplainInit.ensures))

pub returns-in-Session-clause-runs : goal.returns-in-Session-clause-runs
returns-in-Session-clause-runs g c = rw c.in-Session.is (refl, (Ok (refused session_line), refl, c.print.ensures))

pub returns-in-Dump-clause-runs : goal.returns-in-Dump-clause-runs
returns-in-Dump-clause-runs g c = rw c.in-Dump.is ((λ content of_commands stood. c.print_dump.ensures.answers content of_commands stood), c.print_dump.ensures.leaves)

pub returns-in-Init-clause-shut : goal.returns-in-Init-clause-shut
returns-in-Init-clause-shut g c = rw c.in-Init.is (λ shut. let is = c.init.ensures.shut shut in (is.0, (c.init.result, is.1, c.print_answer.ensures)))

pub returns-in-Load-clause-shut : goal.returns-in-Load-clause-shut
returns-in-Load-clause-shut g c = rw c.in-Load.is (λ shut. let is = c.send.ensures.shut shut in (is.0, (c.send.result, is.1, c.print_answer-in-Load.ensures)))

pub returns-in-Migrate-clause-shut : goal.returns-in-Migrate-clause-shut
returns-in-Migrate-clause-shut g c = rw c.in-Migrate.is (λ shut. let is = c.send-in-Migrate.ensures.shut shut in (is.0, (c.send-in-Migrate.result, is.1, c.print_answer-in-Migrate.ensures)))

pub returns-in-Plan-clause-shut : goal.returns-in-Plan-clause-shut
returns-in-Plan-clause-shut g c = rw c.in-Plan.is (λ shut. let is = c.plan.ensures.shut shut in (is.0, (c.plan.result, is.1, c.print_answer-in-Plan.ensures)))

pub returns-in-Explain-clause-shut : goal.returns-in-Explain-clause-shut
returns-in-Explain-clause-shut g c = rw c.in-Explain.is (λ shut. let is = c.explain.ensures.shut shut in (is.0, (c.explain.result, is.1, c.print_answer-in-Explain.ensures)))

pub returns-in-ExplainInit-clause-shut : goal.returns-in-ExplainInit-clause-shut
returns-in-ExplainInit-clause-shut g c = rw c.in-ExplainInit.is (λ shut. (refl, (c.explain_init.result, IfOk-weaker c.explain_init.result _ _ (λ a shown. inr shown) c.explain_init.ensures, c.print_answer-in-ExplainInit.ensures)))

pub returns-in-Reports-clause-shut : goal.returns-in-Reports-clause-shut
returns-in-Reports-clause-shut g c = rw c.in-Reports.is (λ shut. let is = c.reports.ensures.shut shut in (is.0, (c.reports.result, is.1, c.print_answer-in-Reports.ensures)))

pub returns-in-Queries-clause-shut : goal.returns-in-Queries-clause-shut
returns-in-Queries-clause-shut g c = rw c.in-Queries.is (λ shut. let is = c.queries.ensures.shut shut in (is.0, (c.queries.result, is.1, c.print_answer-in-Queries.ensures)))

pub returns-in-Upgrade-clause-shut : goal.returns-in-Upgrade-clause-shut
returns-in-Upgrade-clause-shut g c = rw c.in-Upgrade.is (λ shut. let is = c.upgrade.ensures.shut shut in (is.0, (c.upgrade.result, IfOk-weaker c.upgrade.result _ _ (λ a closed. inl closed) is.1, c.print_answer-in-Upgrade.ensures)))

pub returns-in-Records-clause-shut : goal.returns-in-Records-clause-shut
returns-in-Records-clause-shut g c = rw c.in-Records.is (λ shut. let is = c.records.ensures.shut shut in (is.0, (c.records.result, IfOk-weaker c.records.result _ _ (λ a closed. inl closed) is.1, c.print_answer-in-Records.ensures)))

pub returns-in-Query-clause-shut : goal.returns-in-Query-clause-shut
returns-in-Query-clause-shut g c = rw c.in-Query.is (λ shut. let is = c.visit_query.ensures.shut shut in (is.0, (c.visit_query.result, IfOk-weaker c.visit_query.result _ _ (λ a closed. inl closed) is.1, c.print_answer-in-Query.ensures)))

pub returns-in-Report-clause-shut : goal.returns-in-Report-clause-shut
returns-in-Report-clause-shut g c = rw c.in-Report.is (λ shut. let is = c.visit_report.ensures.shut shut in (is.0, (c.visit_report.result, IfOk-weaker c.visit_report.result _ _ (λ a closed. inl closed) is.1, c.print_answer-in-Report.ensures)))

pub returns-in-Views-clause-shut : goal.returns-in-Views-clause-shut
returns-in-Views-clause-shut g c = rw c.in-Views.is (λ shut. let is = c.views.ensures.shut shut in (is.0, (c.views.result, IfOk-weaker c.views.result _ _ (λ a closed. inl closed) is.1, c.print_answer-in-Views.ensures)))

pub returns-in-Check-clause-shut : goal.returns-in-Check-clause-shut
returns-in-Check-clause-shut g c = rw c.in-Check.is (λ shut. let is = c.check.ensures.shut shut in (is.0, (c.check.result, IfOk-weaker c.check.result _ _ (λ a closed. inl closed) is.1, c.print_answer-in-Check.ensures)))

pub returns-in-Status-clause-shut : goal.returns-in-Status-clause-shut
returns-in-Status-clause-shut g c = rw c.in-Status.is (λ shut. let is = c.status.ensures.shut shut in (is.0, (c.status.result, IfOk-weaker c.status.result _ _ (λ a closed. inl closed) is.1, c.print_answer-in-Status.ensures)))

pub returns-in-Deliver-clause-shut : goal.returns-in-Deliver-clause-shut
returns-in-Deliver-clause-shut g c = rw c.in-Deliver.is (λ shut. c.deliver.ensures.shut shut)

pub returns-in-Dump-clause-shut : goal.returns-in-Dump-clause-shut
returns-in-Dump-clause-shut g c = rw c.in-Dump.is (λ shut. let is = c.print_dump.ensures.shut shut in (is.0, (is.1.0, IfOk-weaker is.1.0 _ _ (λ a closed. inl closed) is.1.1, is.1.2)))

pub returns-in-Session-clause-shut : goal.returns-in-Session-clause-shut
returns-in-Session-clause-shut g c = rw c.in-Session.is (λ shut. (refl, (Ok (refused session_line), inr refl, c.print.ensures)))
