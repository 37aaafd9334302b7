use Rattle.std.proofs.Common.{◌≡◌, ◌++◌, map, drop}
use Rattle.std.specs.Prelude.{filter_map}
use Rattle.wh_history.specs.Shapes.{shown}
use Rattle.wh_history.specs.declared.plan.Edit.TheVariants.{Put}
use Rattle.wh_plan.specs.SoldMembers.{placeholder}
use Rattle.wh_plan.proofs.sales.sold_dimension.placeholders.Given as goal

-- the edits so far, and those that the rest of the members give, are those that all members give
abbrev pub invariant-loop-member : goal.invariant-loop-member
invariant-loop-member l = l.edits.items ++ map Put (filter_map (placeholder l.members_before) (map shown (drop l.member-index l.members)))
    ≡ map Put (filter_map (placeholder l.members_before) (map shown l.members))
