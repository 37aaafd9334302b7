use Rattle.wh_report.proofs.Reports.{lines_add_up}
use Rattle.wh_report.proofs.laws.lines_add_up.Goals as goal

pub returns : goal.returns
returns c = lines_add_up
