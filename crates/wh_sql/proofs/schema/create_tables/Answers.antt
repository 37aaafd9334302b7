use Rattle.std.proofs.Common.{None, []}
use Rattle.std.proofs.lemmas.Result.{on_ok_weaker}
use Rattle.sqlite.specs.Held.{state}
use Rattle.wh_rows.specs.Schema.{no_schema, warehouse}
use Rattle.wh_rows.proofs.Making.{makes_all}
use Rattle.wh_sql.proofs.Creating.{making_none, made_all}
use Rattle.wh_sql.proofs.schema.create_tables.Goals as goal

pub returns-clause-made : goal.returns-clause-made
returns-clause-made g c clean at =
    on_ok_weaker c.create_all.result (made_all (state g.S.Store c.create_all.new.conn)) (c.create_all.ensures.made clean None 0 (λ _. []) no_schema warehouse makes_all (making_none (state g.S.Store c.args.conn.now) at))

pub returns-clause-left : goal.returns-clause-left
returns-clause-left g c clean at = c.create_all.ensures.left clean None 0 (λ _. []) no_schema warehouse makes_all (making_none (state g.S.Store c.args.conn.now) at)
