use Rattle.wh_query.proofs.QueryLaws.{lines_rise}
use Rattle.wh_query.proofs.laws.lines_rise.Goals as goal

pub returns : goal.returns
returns c = lines_rise
