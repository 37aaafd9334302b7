use Rattle.wh_batch.proofs.GrammarLemmas.{reads_hundredths, reads_lines, reads_quantities, reads_amounts}
use Rattle.wh_batch.proofs.laws.numbers.Goals as goal

pub returns-clause-lines : goal.returns-clause-lines
returns-clause-lines c = reads_lines

pub returns-clause-quantities : goal.returns-clause-quantities
returns-clause-quantities c = reads_quantities

pub returns-clause-amounts : goal.returns-clause-amounts
returns-clause-amounts c = reads_amounts

pub returns-clause-discounts : goal.returns-clause-discounts
returns-clause-discounts c = reads_hundredths
