use Rattle.wh_history.specs.Rows.{holds}
use Rattle.wh_history.proofs.Basics.{counted_found}
use Rattle.wh_history.proofs.rows.row_at.Goals as goal

pub returns-clause-found : goal.returns-clause-found
returns-clause-found c one = rw c.first_that_holds.ensures (counted_found (holds c.args.day) c.args.rows.now one)
