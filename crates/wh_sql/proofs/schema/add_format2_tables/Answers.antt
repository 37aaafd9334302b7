use Rattle.std.proofs.lemmas.Result.{on_ok_weaker}
use Rattle.sqlite.specs.Held.{state}
use Rattle.wh_policy.specs.declared.format.Format.TheVariants.{One, Two}
use Rattle.wh_rows.specs.Schema.{schema_in}
use Rattle.wh_rows.proofs.Upgrading.{makes_second}
use Rattle.wh_sql.proofs.Creating.{adding_none, added_all}
use Rattle.wh_sql.proofs.schema.add_format2_tables.Goals as goal

pub returns-clause-made : goal.returns-clause-made
returns-clause-made g c clean before t first at =
    let old = state g.S.Store c.args.conn.now in
    on_ok_weaker c.create_all.result (added_all before t old (state g.S.Store c.create_all.new.conn) first at)
    (c.create_all.ensures.made clean before 22 old.now.trees (schema_in One) (schema_in Two) makes_second (adding_none before t old first at))

pub returns-clause-left : goal.returns-clause-left
returns-clause-left g c clean before t first at =
    let old = state g.S.Store c.args.conn.now in
    c.create_all.ensures.left clean before 22 old.now.trees (schema_in One) (schema_in Two) makes_second (adding_none before t old first at)
