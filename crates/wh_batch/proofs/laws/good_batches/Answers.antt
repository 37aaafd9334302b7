use Rattle.wh_policy.specs.Policy.{policy_attributes}
use Rattle.wh_batch.specs.Layouts.{dimension_layout, sales_layout, voids_layout, dimension_records, sale_records, void_records}
use Rattle.wh_batch.proofs.GoodLemmas.{reads_batches}
use Rattle.wh_batch.proofs.laws.good_batches.Goals as goal

pub returns-clause-dimensions : goal.returns-clause-dimensions
unfolding dimension_records
returns-clause-dimensions c = λ dim policy. reads_batches (dimension_layout (policy_attributes policy dim))

pub returns-clause-sales : goal.returns-clause-sales
unfolding sale_records
returns-clause-sales c = λ policy format. reads_batches (sales_layout format policy.years)

pub returns-clause-voids : goal.returns-clause-voids
unfolding void_records
returns-clause-voids c = reads_batches voids_layout
