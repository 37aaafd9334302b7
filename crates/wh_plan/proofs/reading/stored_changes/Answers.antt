use Rattle.std.proofs.Common.{map, ◌∙◌, ap}
use Rattle.wh_plan.specs.Reading.{change_in}
use Rattle.wh_plan.proofs.FoundChanges.{changes_found}
use Rattle.wh_plan.proofs.reading.stored_changes.Goals as goal

pub returns-clause-changes : goal.returns-clause-changes
returns-clause-changes g c clean limits commands t are at full natural given is =
    c.in_ok-changes_of_rows.ensures ∙ ap (map change_in) (c.deref.ensures.value ∙ c.in_ok-rows.ensures.rows clean t at) ∙ changes_found limits commands t are full c.args.dim natural c.args.durable given is
