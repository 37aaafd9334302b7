use Rattle.std.proofs.Common.{◌≡◌, map, take}
use Rattle.wh_history.specs.Shapes.{shape_of, rendered_in, shown}
use Rattle.wh_plan.proofs.sales.sale_keys.rendered_members.Given as goal

abbrev pub invariant-loop-member : goal.invariant-loop-member
invariant-loop-member l = map shown l.all.items ≡ map (rendered_in (shape_of l.dimension)) (take l.member-index l.members)
