use Rattle.std.proofs.Common.{◌≡◌, ◌≤◌, ◌+◌, ◌++◌, map, drop}
use Rattle.std.specs.Prelude.{Ok}
use Rattle.wh_history.specs.Accepted.{member_of}
use Rattle.wh_plan.specs.Reading.{HaveNoEmptyValue}
use Rattle.wh_plan.specs.SoldMembers.{numbered}
use Rattle.wh_sql.specs.Answers.{ReadsOnly, state_of}
use Rattle.wh_plan.specs.Reads.{Finds}
use Rattle.wh_plan.proofs.sales.sold_dimension.members_with_numbers.Given as goal

-- the members so far, with those that are left, are all of them with their numbers
abbrev pub invariant-loop-natural : goal.invariant-loop-natural
invariant-loop-natural g l = record {
  members_few : l.members ≤ l.fn.drawn.members + l.natural-index;
  anchors_few : l.anchors ≤ l.fn.drawn.anchors + l.natural-index;
  reads : ReadsOnly (state_of g.S.Store l.fn.tables) (state_of g.S.Store l.tables) (Ok l.found);
  members : Finds (state_of g.S.Store l.fn.tables) (state_of g.S.Store l.tables) (λ _ commands. HaveNoEmptyValue commands
      → l.found.items ++ numbered l.members l.anchors (map (member_of l.dim commands) (drop l.natural-index l.naturals)) ≡ numbered l.fn.drawn.members l.fn.drawn.anchors (map (member_of l.dim commands) l.naturals));
}
