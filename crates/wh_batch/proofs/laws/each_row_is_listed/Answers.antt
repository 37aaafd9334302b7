use Rattle.wh_batch.specs.Layouts.{dimension_layout, sales_layout, voids_layout}
use Rattle.wh_batch.proofs.ListingLemmas.{lists-each-row}
use Rattle.wh_batch.proofs.laws.each_row_is_listed.Goals as goal

pub returns-clause-dimensions : goal.returns-clause-dimensions
returns-clause-dimensions c = λ attributes. lists-each-row (dimension_layout attributes)

pub returns-clause-sales : goal.returns-clause-sales
returns-clause-sales c = λ format years. lists-each-row (sales_layout format years)

pub returns-clause-voids : goal.returns-clause-voids
returns-clause-voids c = lists-each-row voids_layout
