use Rattle.wh_batch.specs.Layouts.{dimension_layout, sales_layout, voids_layout}
use Rattle.wh_batch.proofs.ListingLemmas.{lists-in-order}
use Rattle.wh_batch.proofs.laws.faults_in_order.Goals as goal

pub returns-clause-dimensions : goal.returns-clause-dimensions
returns-clause-dimensions c = λ attributes. lists-in-order (dimension_layout attributes)

pub returns-clause-sales : goal.returns-clause-sales
returns-clause-sales c = λ format years. lists-in-order (sales_layout format years)

pub returns-clause-voids : goal.returns-clause-voids
returns-clause-voids c = lists-in-order voids_layout
