use Rattle.wh_batch.specs.Layouts.{dimension_layout, sales_layout, voids_layout}
use Rattle.wh_batch.proofs.ColumnLemmas.{dimension-by-columns, sale-by-columns, void-by-columns}
use Rattle.wh_batch.proofs.PointLemmas.{points-at-field}
use Rattle.wh_batch.proofs.laws.faults_of_fields.Goals as goal

pub returns-clause-dimensions : goal.returns-clause-dimensions
returns-clause-dimensions c = λ attributes. points-at-field (dimension_layout attributes) (dimension-by-columns attributes)

pub returns-clause-sales : goal.returns-clause-sales
returns-clause-sales c = λ format years. points-at-field (sales_layout format years) (sale-by-columns format years)

pub returns-clause-voids : goal.returns-clause-voids
returns-clause-voids c = points-at-field voids_layout void-by-columns
