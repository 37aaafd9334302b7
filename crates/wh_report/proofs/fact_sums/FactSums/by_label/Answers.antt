use Rattle.std.proofs.Common.{subst}
use Rattle.wh_report.specs.Labels.{labels_get}
use Rattle.wh_report.specs.Tallied.{IsTally}
use Rattle.wh_report.proofs.SummedFacts.{by_labels}
use Rattle.wh_report.proofs.fact_sums.FactSums.by_label.Goals as goal

pub returns-in-None : goal.returns-in-None
returns-in-None c = λ sales tally. by_labels c.args.self.now.request.now (labels_get c.args.labels.now) sales c.by_label.result (c.by_label.ensures _ (subst (IsTally c.args.self.now.request.now sales c.args.self.now.sums) c.in-None.is tally))
