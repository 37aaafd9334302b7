use Rattle.std.proofs.Common.{rules}
use Rattle.sqlite.specs.Held.{state}
use Rattle.wh_program.specs.Answer.{status_code}
use Rattle.wh_program.specs.Delivery.{Delivers, IsDeliveredOver}
use Rattle.wh_program.proofs.RunLemmas.{parted}
use Rattle.wh_program.proofs.LookingLemmas.{left_so, stands_so}
use Rattle.wh_program.proofs.WarehouseLemmas.{opened, unopened, none_there}
use Rattle.wh_program.proofs.visits.delivery.DeliveringVisitor.visit.Goals as goal

pub returns-in-Ok : goal.returns-in-Ok
returns-in-Ok g c = rw c.close.ensures (λ clean content at.
    let out = rw c.deref.ensures.value at c.send_each-status.ensures.delivered in
    let left = opened (Delivers out.0 c.args.self.commands.items) (IsDeliveredOver c.args.self.commands.items) content out.1 c.in-Ok.engine.session
    (state g.T.Store c.args.connection) (state g.T.Store c.in-Ok.engine.tables.conn) (state g.T.Store c.send_each-status.new.engine.tables.conn)
    (c.in-Ok.ensures.ready (c.send_each-status.ensures.clean clean))
    (out.3 clean)
    (λ rests. let e = c.in-Ok.ensures.missing rests.autocommit (rw rests.now.schema none_there) in cc)
    (c.in-Ok.ensures.found_stored (c.send_each-status.ensures.clean clean))
    (λ what stood. stands_so c.in-Ok.ensures.spares (c.send_each-status.ensures.clean clean) what stood tt)
    (out.4 clean) at in
    (left.0, (out.0, out.1, left.1, out.2), left.2))

pub returns : goal.returns
returns g c = λ clean content at.
    let out = parted (g.W.Write.contents c.args.out.now) (g.W.Write.contents c.print_answer-status.new.out) (status_code c.print_answer-status.result) _ c.print_answer-status.ensures in
    let left = unopened (Delivers out.0 c.args.self.commands.items) (IsDeliveredOver c.args.self.commands.items) content c.opening_answer.result c.in-Err.fault (state g.T.Store c.args.connection) (state g.T.Store c.in-Err.connection)
    (c.in-Err.ensures.refused clean)
    (λ rests. let e = c.in-Err.ensures.missing rests.autocommit (rw rests.now.schema none_there) in search rules)
    (c.in-Err.ensures.fault_stored clean)
    (λ what stood. (left_so c.in-Err.ensures.spares_left clean what stood, stands_so c.in-Err.ensures.spares_left clean what stood))
    c.opening_answer.ensures at in
    (left.0, (out.0, c.opening_answer.result, left.1, out.1), left.2)
