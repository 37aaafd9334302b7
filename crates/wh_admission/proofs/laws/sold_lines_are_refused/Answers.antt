use Rattle.wh_admission.proofs.SoldLines.{sold_lines_are_refused, withdrawn_lines_are_not_sold, withdrawn_lines_are_refused}
use Rattle.wh_admission.proofs.laws.sold_lines_are_refused.Goals as goal

pub returns-clause-sold : goal.returns-clause-sold
returns-clause-sold c = sold_lines_are_refused

pub returns-clause-not_again : goal.returns-clause-not_again
returns-clause-not_again c = withdrawn_lines_are_not_sold

pub returns-clause-withdrawn : goal.returns-clause-withdrawn
returns-clause-withdrawn c = withdrawn_lines_are_refused
