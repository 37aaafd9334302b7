use Rattle.std.proofs.Common.{rules}
use Rattle.sqlite.specs.Held.{state}
use Rattle.wh_program.specs.Answer.{status_code}
use Rattle.wh_program.specs.Readings.{IsDumped}
use Rattle.wh_program.specs.Run.{Prints}
use Rattle.wh_program.specs.Warehouse.{printed}
use Rattle.wh_program.proofs.ReadingLemmas.{dumped_left, opened-printing, shown_left}
use Rattle.wh_program.specs.Warehouse.{LooksAt}
use Rattle.wh_program.proofs.LookingLemmas.{left_so, looked, stands_so}
use Rattle.wh_program.proofs.WarehouseLemmas.{unopened, none_there}
use Rattle.wh_program.proofs.visits.dump.DumpingVisitor.visit.Goals as goal

pub returns-in-Ok : goal.returns-in-Ok
returns-in-Ok g c = rw c.close.ensures (λ clean content at.
    opened-printing (IsDumped c.args.self.table) (λ shown. Prints (g.W.Write.contents c.args.out.now) (g.W.Write.contents c.print_table-status.new.out) (status_code c.print_table-status.result) (printed shown))
    content c.in-Ok.engine.session
    (state g.T.Store c.args.connection) (state g.T.Store c.in-Ok.engine.tables.conn) (state g.T.Store c.print_table-status.new.engine.tables.conn)
    (c.in-Ok.ensures.ready (c.print_table-status.ensures.looks.spares.clean clean))
    (c.print_table-status.ensures.dumped clean)
    (λ rests. let e = c.in-Ok.ensures.missing rests.autocommit (rw rests.now.schema none_there) in cc)
    (λ what stood. stands_so c.in-Ok.ensures.spares (c.print_table-status.ensures.looks.spares.clean clean) what stood tt)
    (looked c.print_table-status.ensures.looks clean)
    (dumped_left c.args.self.table) at)

pub returns-in-Err : goal.returns-in-Err
returns-in-Err g c = λ clean content at.
    let left = unopened (IsDumped c.args.self.table) LooksAt content c.opening_answer.result c.in-Err.fault (state g.T.Store c.args.connection) (state g.T.Store c.in-Err.connection)
    (c.in-Err.ensures.refused clean)
    (λ rests. let e = c.in-Err.ensures.missing rests.autocommit (rw rests.now.schema none_there) in search rules)
    (c.in-Err.ensures.fault_stored clean)
    (λ what stood. (left_so c.in-Err.ensures.spares_left clean what stood, stands_so c.in-Err.ensures.spares_left clean what stood))
    c.opening_answer.ensures at in
    (left.0, ((λ _. (c.opening_answer.result, left.1, c.print_answer-status.ensures)), shown_left (IsDumped c.args.self.table) content c.opening_answer.result left.0 (λ limits commands did. dumped_left c.args.self.table limits commands c.opening_answer.result left.0 did) left.1), left.2)
