use Rattle.sqlite.specs.Held.{state}
use Rattle.wh_sql.proofs.Creating.{leaves_none, makes_on}
use Rattle.wh_sql.proofs.schema.create_one.Goals as goal

pub returns-in_err-execute-clause-left : goal.returns-in_err-execute-clause-left
returns-in_err-execute-clause-left g c clean before least rows from to extends at = leaves_none before least rows from c.args.text.now to extends (state g.S.Store c.args.conn.now) (state g.S.Store c.execute.new.self) clean c.execute.ensures.survives at

pub returns-clause-made : goal.returns-clause-made
returns-clause-made g c clean before least rows from to extends behind at =
    makes_on before least rows from c.args.text.now to extends behind (state g.S.Store c.args.conn.now) (state g.S.Store c.execute.new.self) c.in_ok-execute.field-0 clean c.execute.ensures.survives (c.in_ok-execute.ensures.runs clean) at

pub returns-clause-left : goal.returns-clause-left
returns-clause-left g c clean before least rows from to extends at = leaves_none before least rows from c.args.text.now to extends (state g.S.Store c.args.conn.now) (state g.S.Store c.execute.new.self) clean c.execute.ensures.survives at
