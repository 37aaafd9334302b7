use Rattle.wh_history.proofs.Batches.{touched_is}
use Rattle.wh_history.proofs.laws.record_by_record.Goals as goal

pub returns : goal.returns
returns c = touched_is
