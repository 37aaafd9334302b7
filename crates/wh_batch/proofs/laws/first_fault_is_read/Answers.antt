use Rattle.wh_batch.proofs.ListingLemmas.{first-is-read}
use Rattle.wh_batch.proofs.laws.first_fault_is_read.Goals as goal

pub returns : goal.returns
returns c = first-is-read
