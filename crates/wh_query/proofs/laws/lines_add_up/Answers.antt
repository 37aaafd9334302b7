use Rattle.wh_query.proofs.QueryLaws.{lines_add_up, sums_agree}
use Rattle.wh_query.proofs.laws.lines_add_up.Goals as goal

pub returns-clause-up : goal.returns-clause-up
returns-clause-up c = lines_add_up

pub returns-clause-agree : goal.returns-clause-agree
returns-clause-agree c = sums_agree
