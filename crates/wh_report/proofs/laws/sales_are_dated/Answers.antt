use Rattle.wh_report.proofs.DatedSales.{admitted_sales_are_dated}
use Rattle.wh_report.proofs.laws.sales_are_dated.Goals as goal

pub returns : goal.returns
returns c = admitted_sales_are_dated
