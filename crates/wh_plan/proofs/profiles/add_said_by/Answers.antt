use Rattle.std.proofs.Common.{◌∙◌, ap}
use Rattle.wh_plan.specs.Profiles.{with_combinations, said_of}
use Rattle.wh_plan.proofs.Learning.{said_more}
use Rattle.wh_plan.proofs.profiles.add_said_by.Goals as goal

pub loop-member-preserved : goal.loop-member-preserved
loop-member-preserved c =
    let found = c.loop-member.found.items in
    said_more c.args.types.now c.args.members.now c.loop-member.member-index c.member-item.result found c.add_said.new.found.items _ c.loop-member-test.true c.member-item.is
    (c.in_ok-add_said.ensures ∙ ap (λ cs. with_combinations found (said_of c.args.types.now cs)) c.as_slice.ensures) c.loop-member.invariant
