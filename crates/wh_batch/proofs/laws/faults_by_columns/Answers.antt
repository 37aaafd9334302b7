use Rattle.wh_batch.proofs.ColumnLemmas.{dimension-by-columns, sale-by-columns, void-by-columns}
use Rattle.wh_batch.proofs.laws.faults_by_columns.Goals as goal

pub returns-clause-dimensions : goal.returns-clause-dimensions
returns-clause-dimensions c = dimension-by-columns

pub returns-clause-sales : goal.returns-clause-sales
returns-clause-sales c = sale-by-columns

pub returns-clause-voids : goal.returns-clause-voids
returns-clause-voids c = void-by-columns
