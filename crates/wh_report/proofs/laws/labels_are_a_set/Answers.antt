use Rattle.wh_report.proofs.Reports.{labels_rise, members}
use Rattle.wh_report.proofs.laws.labels_are_a_set.Goals as goal

pub returns-clause-order : goal.returns-clause-order
returns-clause-order c = labels_rise

pub returns-clause-members : goal.returns-clause-members
returns-clause-members c = members
