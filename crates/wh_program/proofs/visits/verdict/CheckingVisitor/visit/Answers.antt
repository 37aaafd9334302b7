use Rattle.std.proofs.Common.{rules}
use Rattle.sqlite.specs.Held.{state}
use Rattle.wh_program.proofs.CheckLemmas.{checked, unchecked}
use Rattle.wh_program.proofs.LookingLemmas.{left_so, looked, read_looks, stands_so}
use Rattle.wh_program.proofs.WarehouseLemmas.{none_there}
use Rattle.wh_program.proofs.visits.verdict.CheckingVisitor.visit.Goals as goal
use Rattle.wh_sql.proofs.Sparing.{stored_again, stored_left}

pub returns-in-Ok : goal.returns-in-Ok
returns-in-Ok g c = rw c.close.ensures (λ clean content at.
    let check = c.check-verdict.ensures in
    checked content c.verdict_answer.result c.check-verdict.result c.in-Ok.engine.session c.check-verdict.new.self.session
    (state g.T.Store c.args.connection) (state g.T.Store c.in-Ok.engine.tables.conn) (state g.T.Store c.check-verdict.new.self.tables.conn)
    (c.in-Ok.ensures.ready (check.reads.spares.clean clean))
    (check.sound clean)
    (λ rests. let e = c.in-Ok.ensures.missing rests.autocommit (rw rests.now.schema none_there) in cc)
    (c.in-Ok.ensures.found_stored (check.reads.spares.clean clean))
    (check.checked c.in-Ok.ensures.fresh.0 clean)
    (stored_again check.reads.spares clean)
    (stored_left check.reads.spares clean)
    (λ what stood. stands_so c.in-Ok.ensures.spares (check.reads.spares.clean clean) what stood tt)
    (looked (read_looks check.reads) clean)
    c.verdict_answer.ensures at)

pub returns-in-Err : goal.returns-in-Err
returns-in-Err g c = λ clean content at.
    unchecked content c.opening_answer-answer.result c.in-Err.fault (state g.T.Store c.args.connection) (state g.T.Store c.in-Err.connection)
    (c.in-Err.ensures.refused clean)
    (λ rests. let e = c.in-Err.ensures.missing rests.autocommit (rw rests.now.schema none_there) in search rules)
    (c.in-Err.ensures.fault_stored clean)
    (λ what stood. (left_so c.in-Err.ensures.spares_left clean what stood, stands_so c.in-Err.ensures.spares_left clean what stood))
    c.opening_answer-answer.ensures at
