use Rattle.wh_program.proofs.ViewColumns.{views_show_what_reports_read}
use Rattle.wh_program.proofs.laws.views_show_what_reports_read.Goals as goal

pub returns : goal.returns
returns c = views_show_what_reports_read
