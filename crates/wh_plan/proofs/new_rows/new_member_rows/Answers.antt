use Rattle.std.proofs.Common.{◌++◌, List, sym, ◌∙◌, append-nil}
use Rattle.std.specs.Prelude.{filter_map}
use Rattle.std.proofs.lemmas.List.{at_drop_all}
use Rattle.wh_history.specs.declared.member.Member.{Member}
use Rattle.wh_plan.specs.NewRows.{new_member}
use Rattle.wh_plan.proofs.PlanningMembers.{new_members_planned}
use Rattle.wh_plan.proofs.new_rows.new_member_rows.Goals as goal

pub returns-clause-planned : goal.returns-clause-planned
returns-clause-planned c commands command records is list count =
    let rows = c.loop-member.rows.items in
    let none = at_drop_all (λ (ms : List Member). rows ++ filter_map (new_member c.args.dim c.args.members_before) ms) c.args.touched.now c.loop-member.member-index c.loop-member-test.false in
    let made = sym (append-nil rows) ∙ sym none ∙ c.loop-member.invariant in
    new_members_planned c.args.dim c.args.members_before c.args.touched.now rows made commands command records is list count
