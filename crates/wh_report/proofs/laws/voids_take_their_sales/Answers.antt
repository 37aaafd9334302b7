use Rattle.wh_report.proofs.VoidedReports.{voids_take_their_sales}
use Rattle.wh_report.proofs.laws.voids_take_their_sales.Goals as goal

pub returns : goal.returns
returns c = voids_take_their_sales
