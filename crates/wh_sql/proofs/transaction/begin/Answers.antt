use Rattle.sqlite.specs.Held.{state}
use Rattle.wh_sql.proofs.Transactions.{begins, begin_survives, begin_leaves}
use Rattle.wh_sql.proofs.transaction.begin.Goals as goal

pub returns-in_err-execute-clause-left : goal.returns-in_err-execute-clause-left
returns-in_err-execute-clause-left g c clean held at = begin_leaves (state g.S.Store c.args.conn.now) (state g.S.Store c.execute.new.self) held at clean c.execute.ensures.survives

pub returns-in_err-execute-clause-survives : goal.returns-in_err-execute-clause-survives
returns-in_err-execute-clause-survives g c = begin_survives (state g.S.Store c.args.conn.now) (state g.S.Store c.execute.new.self) c.execute.ensures.survives

pub returns-clause-begun : goal.returns-clause-begun
returns-clause-begun g c clean held at = begins (state g.S.Store c.args.conn.now) (state g.S.Store c.execute.new.self) held c.in_ok-execute.field-0 at clean c.execute.ensures.survives (c.in_ok-execute.ensures.runs clean)

pub returns-clause-left : goal.returns-clause-left
returns-clause-left g c clean held at = begin_leaves (state g.S.Store c.args.conn.now) (state g.S.Store c.execute.new.self) held at clean c.execute.ensures.survives

pub returns-clause-survives : goal.returns-clause-survives
returns-clause-survives g c = begin_survives (state g.S.Store c.args.conn.now) (state g.S.Store c.execute.new.self) c.execute.ensures.survives
