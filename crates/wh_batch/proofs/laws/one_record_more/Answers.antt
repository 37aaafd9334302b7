use Rattle.wh_batch.specs.Layouts.{dimension_layout, sales_layout, voids_layout}
use Rattle.wh_batch.proofs.MoreLemmas.{one_record_more}
use Rattle.wh_batch.proofs.laws.one_record_more.Goals as goal

pub returns-clause-dimensions : goal.returns-clause-dimensions
returns-clause-dimensions c = λ attributes. one_record_more (dimension_layout attributes)

pub returns-clause-sales : goal.returns-clause-sales
returns-clause-sales c = λ format years. one_record_more (sales_layout format years)

pub returns-clause-voids : goal.returns-clause-voids
returns-clause-voids c = one_record_more voids_layout
