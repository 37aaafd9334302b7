use Rattle.std.proofs.Common.{◌∙◌}
use Rattle.wh_plan.proofs.PlanNaturals.{told_more}
use Rattle.wh_plan.proofs.naturals.naturals_told.Goals as goal

pub loop-incoming-preserved : goal.loop-incoming-preserved
loop-incoming-preserved c =
    let made = c.in_ok-add_natural.ensures in
    let kept = c.loop-incoming.invariant in
    record {
      same = made.same;
      told = made.added ∙ told_more c.args.records.now c.loop-incoming.incoming-index c.incoming-item.result c.loop-incoming.naturals.items c.loop-incoming-test.true c.incoming-item.is kept.told;
    }
