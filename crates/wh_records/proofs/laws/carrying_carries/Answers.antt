use Rattle.wh_records.proofs.Carrying.{carrying_carries, sales_leave_it_so}
use Rattle.wh_records.proofs.laws.carrying_carries.Goals as goal

pub returns-clause-batches : goal.returns-clause-batches
returns-clause-batches c = carrying_carries

pub returns-clause-sales : goal.returns-clause-sales
returns-clause-sales c = sales_leave_it_so
