use Rattle.std.proofs.Common.{rules}
use Rattle.sqlite.specs.Held.{state}
use Rattle.wh_program.proofs.LookingLemmas.{left_so, stands_so}
use Rattle.wh_program.proofs.WarehouseLemmas.{opened, unopened, none_there}
use Rattle.wh_program.proofs.visits.opened.OnOpenedVisitor.visit.Goals as goal

pub returns-in-Ok : goal.returns-in-Ok
returns-in-Ok g c = rw c.close.ensures (λ clean content at.
    opened (g.K.Work.does c.args.self.work) (g.K.Work.over c.args.self.work) content c.work-answer.result c.in-Ok.engine.session
    (state g.T.Store c.args.connection) (state g.T.Store c.in-Ok.engine.tables.conn) (state g.T.Store c.work-answer.new.engine.tables.conn)
    (c.in-Ok.ensures.ready (c.work-answer.ensures.clean clean))
    (c.work-answer.ensures.done clean)
    (λ rests. let e = c.in-Ok.ensures.missing rests.autocommit (rw rests.now.schema none_there) in cc)
    (c.in-Ok.ensures.found_stored (c.work-answer.ensures.clean clean))
    (λ what stood. stands_so c.in-Ok.ensures.spares (c.work-answer.ensures.clean clean) what stood tt)
    (c.work-answer.ensures.over clean) at)

pub returns-in-Err : goal.returns-in-Err
returns-in-Err g c = λ clean content at.
    unopened (g.K.Work.does c.args.self.work) (g.K.Work.over c.args.self.work) content c.opening_answer-answer.result c.in-Err.fault (state g.T.Store c.args.connection) (state g.T.Store c.in-Err.connection)
    (c.in-Err.ensures.refused clean)
    (λ rests. let e = c.in-Err.ensures.missing rests.autocommit (rw rests.now.schema none_there) in search rules)
    (c.in-Err.ensures.fault_stored clean)
    (λ what stood. (left_so c.in-Err.ensures.spares_left clean what stood, stands_so c.in-Err.ensures.spares_left clean what stood))
    c.opening_answer-answer.ensures at
