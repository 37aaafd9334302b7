use Rattle.std.proofs.Common.{ap, ◌∙◌}
use Rattle.wh_sql.specs.Present.{has_second}
use Rattle.wh_sql.proofs.schema.has_second.Goals as goal

pub returns : goal.returns
unfolding has_second
returns g c = c.has_each.ensures ∙ ap has_second c.schema.ensures.value
