use Rattle.wh_report.proofs.CarriedLabels.{labels_are_carried, labels_go_on, reports_are_carried, reports_go_on}
use Rattle.wh_report.proofs.laws.labels_are_carried.Goals as goal

pub returns-clause-labels : goal.returns-clause-labels
returns-clause-labels c = labels_are_carried

pub returns-clause-reports : goal.returns-clause-reports
returns-clause-reports c = reports_are_carried

pub returns-clause-labels_on : goal.returns-clause-labels_on
returns-clause-labels_on c = labels_go_on

pub returns-clause-reports_on : goal.returns-clause-reports_on
returns-clause-reports_on c = reports_go_on
