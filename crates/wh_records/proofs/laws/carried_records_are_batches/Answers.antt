use Rattle.wh_records.proofs.CarriedBatches.{carried_records_are_batches, ranges_are_batches}
use Rattle.wh_records.proofs.laws.carried_records_are_batches.Goals as goal

pub returns-clause-all : goal.returns-clause-all
returns-clause-all c = carried_records_are_batches

pub returns-clause-ranges : goal.returns-clause-ranges
returns-clause-ranges c = ranges_are_batches
