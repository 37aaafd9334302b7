use Rattle.wh_report.proofs.ReportLaws.{totals_agree}
use Rattle.wh_report.proofs.laws.total.Goals as goal

pub returns : goal.returns
returns c = totals_agree
