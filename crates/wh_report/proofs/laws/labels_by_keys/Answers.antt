use Rattle.wh_report.proofs.ReportLaws.{labels_by_keys, facts_are_counted}
use Rattle.wh_report.proofs.laws.labels_by_keys.Goals as goal

pub returns-clause-labels : goal.returns-clause-labels
returns-clause-labels c = labels_by_keys

pub returns-clause-counted : goal.returns-clause-counted
returns-clause-counted c = facts_are_counted
