use Rattle.std.proofs.Common.{arith}
use Rattle.std.proofs.lemmas.Result.{err_from_is_err_and}
use Rattle.sqlite.specs.Held.{state}
use Rattle.wh_sql.proofs.Putting.{clear_leaves, clears_on}
use Rattle.wh_sql.proofs.writing.Writing.clear_facts.Goals as goal

pub returns-in_err-count-clause-writes : goal.returns-in_err-count-clause-writes
returns-in_err-count-clause-writes g c = record { clean = c.execute.ensures.clean; counts = c.execute.ensures.counts; left = λ clean before made at may. clear_leaves (state g.S.Store c.args.self.now.tables.now.conn) (state g.S.Store c.execute.new.conn) before made at clean c.execute.ensures.survives }

pub returns-in_err-count-clause-cause : goal.returns-in_err-count-clause-cause
returns-in_err-count-clause-cause g c clean before made at room =
    let p = err_from_is_err_and c.from_residual.result c.from_residual.ensures.1 in
    rw (p.1, p.2) (c.in_err-count.ensures.cause clean at.inside)

-- there were as many facts as were counted, so the count doesn't run out
pub returns-in_err-self-clause-cause : goal.returns-in_err-self-clause-cause
returns-in_err-self-clause-cause g c clean before made at room =
    let many = (clears_on (state g.S.Store c.args.self.now.tables.now.conn) (state g.S.Store c.execute.new.conn) before made at clean c.execute.ensures.survives c.in_ok-count.count (c.in_ok-count.ensures.runs clean)).0 in
    absurd (omega (arith, many, c.in_err-self.ensures.full.1, room))

pub returns-in_err-self-clause-writes : goal.returns-in_err-self-clause-writes
returns-in_err-self-clause-writes g c = record { clean = c.execute.ensures.clean; counts = c.execute.ensures.counts; left = λ clean before made at may. clear_leaves (state g.S.Store c.args.self.now.tables.now.conn) (state g.S.Store c.execute.new.conn) before made at clean c.execute.ensures.survives }

pub returns-clause-writes : goal.returns-clause-writes
returns-clause-writes g c = record { clean = c.execute.ensures.clean; counts = c.execute.ensures.counts; left = λ clean before made at may. clear_leaves (state g.S.Store c.args.self.now.tables.now.conn) (state g.S.Store c.execute.new.conn) before made at clean c.execute.ensures.survives }

pub returns-clause-cleared : goal.returns-clause-cleared
returns-clause-cleared g c clean before made at = clears_on (state g.S.Store c.args.self.now.tables.now.conn) (state g.S.Store c.execute.new.conn) before made at clean c.execute.ensures.survives c.in_ok-count.count (c.in_ok-count.ensures.runs clean)
