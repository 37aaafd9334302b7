use Rattle.std.proofs.Common.{◌∙◌, ap}
use Rattle.wh_report.specs.Sums.{plus}
use Rattle.wh_report.proofs.Summaries.{label_more, label_full, more_than, total_full}
use Rattle.wh_report.proofs.summary.Summary.add.Goals as goal

pub returns-in_default-clause-damaged : goal.returns-in_default-clause-damaged
returns-in_default-clause-damaged c = λ sales more is are _. label_full c.args.label.now c.args.figures sales more are _ (c.self.view_is ∙ is) c.totals_under.result c.totals_under.ensures (more_than _ c.in_default.ensures.some.1)

pub returns-in_default-checked_add-clause-damaged : goal.returns-in_default-checked_add-clause-damaged
returns-in_default-checked_add-clause-damaged c = λ sales more is are _. total_full c.args.label.now c.args.figures sales more are _ (c.self.view_is ∙ is) (more_than _ c.in_default-checked_add.ensures.some.1)

pub returns-clause-sums : goal.returns-clause-sums
returns-clause-sums c = λ sales more is are. label_more c.args.label.now c.args.figures sales more are _ (c.self.view_is ∙ is) _ c.in-Some.line (c.in-Some.ensures.value ∙ ap (λ t. plus t c.args.figures) c.totals_under.ensures) (cc c.in_ok-put.ensures) c.in-Some-checked_add.ensures.value
