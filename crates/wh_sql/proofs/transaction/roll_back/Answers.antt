use Rattle.sqlite.specs.Held.{state}
use Rattle.wh_sql.proofs.Transactions.{undone, rolls_back, rollback_leaves, rollback_survives}
use Rattle.wh_sql.proofs.transaction.roll_back.Goals as goal

pub returns-clause-undone : goal.returns-clause-undone
returns-clause-undone g c clean before made at =
    undone before made (state g.S.Store c.args.conn.now) (state g.S.Store c.execute.new.self) at
    (rolls_back (state g.S.Store c.args.conn.now) (state g.S.Store c.execute.new.self) c.execute.result at.inside (c.execute.ensures.runs clean))
    (λ trees is_open may. g.met.S.Store.settled c.execute.new.self.store trees is_open may)

pub returns-clause-left : goal.returns-clause-left
returns-clause-left g c clean before made at = rollback_leaves before made (state g.S.Store c.args.conn.now) (state g.S.Store c.execute.new.self) at clean c.execute.ensures.survives

pub returns-clause-survives : goal.returns-clause-survives
returns-clause-survives g c = rollback_survives (state g.S.Store c.args.conn.now) (state g.S.Store c.execute.new.self) c.execute.ensures.survives
