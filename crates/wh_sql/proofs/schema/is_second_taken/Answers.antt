use Rattle.std.proofs.Common.{ap, ◌∙◌}
use Rattle.wh_sql.specs.Present.{is_second_taken}
use Rattle.wh_sql.proofs.schema.is_second_taken.Goals as goal

pub returns : goal.returns
unfolding is_second_taken
returns g c = c.is_one_taken.ensures ∙ ap is_second_taken c.schema.ensures.value
