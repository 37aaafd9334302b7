use Rattle.wh_model.proofs.SameLines.{withdrawn_lines_stay_sold}
use Rattle.wh_model.proofs.laws.withdrawn_lines_stay_sold.Goals as goal

pub returns : goal.returns
returns c = withdrawn_lines_stay_sold
