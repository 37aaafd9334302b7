use Rattle.std.proofs.Common.{◌∙◌}
use Rattle.wh_plan.proofs.PlanTouched.{touched_from}
use Rattle.wh_plan.proofs.records.touched.touched_members.Goals as goal

pub returns-in-Ok : goal.returns-in-Ok
returns-in-Ok c dim commands batch is stored members_are anchors_are =
    c.in-Ok.ensures ∙ touched_from dim commands c.args.records.now batch is c.args.stored.now stored c.args.drawn.members c.args.drawn.anchors members_are anchors_are
