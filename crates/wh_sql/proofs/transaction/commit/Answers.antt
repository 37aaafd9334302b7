use Rattle.sqlite.specs.Held.{state}
use Rattle.wh_sql.proofs.Transactions.{commits, commit_leaves}
use Rattle.wh_sql.proofs.transaction.commit.Goals as goal

pub returns-in_err-execute-clause-left : goal.returns-in_err-execute-clause-left
returns-in_err-execute-clause-left g c clean before made at = commit_leaves before made (state g.S.Store c.args.conn.now) (state g.S.Store c.execute.new.self) at clean c.execute.ensures.survives

pub returns-clause-written : goal.returns-clause-written
returns-clause-written g c clean before made at =
    commits before made (state g.S.Store c.args.conn.now) (state g.S.Store c.execute.new.self) c.in_ok-execute.field-0 at
    (λ trees is_open may. g.met.S.Store.settled c.execute.new.self.store trees is_open may) (c.in_ok-execute.ensures.runs clean)

pub returns-clause-left : goal.returns-clause-left
returns-clause-left g c clean before made at = commit_leaves before made (state g.S.Store c.args.conn.now) (state g.S.Store c.execute.new.self) at clean c.execute.ensures.survives
