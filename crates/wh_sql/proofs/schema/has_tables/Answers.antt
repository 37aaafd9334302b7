use Rattle.std.proofs.Common.{ap, ◌∙◌}
use Rattle.wh_sql.specs.Present.{has_tables}
use Rattle.wh_sql.proofs.schema.has_tables.Goals as goal

pub returns : goal.returns
unfolding has_tables
returns g c = c.has_each.ensures ∙ ap has_tables c.schema.ensures.value
