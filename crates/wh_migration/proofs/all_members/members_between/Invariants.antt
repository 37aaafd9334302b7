use Rattle.std.proofs.Common.{◌≡◌, ◌-◌, ◌≤◌, map, take, drop}
use Rattle.std.specs.Prelude.{Ok}
use Rattle.wh_history.specs.Accepted.{members, member_of}
use Rattle.wh_plan.specs.Reading.{HaveNoEmptyValue}
use Rattle.wh_sql.specs.Answers.{ReadsOnly, state_of}
use Rattle.wh_plan.specs.Reads.{Finds}
use Rattle.wh_migration.proofs.all_members.members_between.Given as goal

abbrev pub invariant-loop-durable : goal.invariant-loop-durable
invariant-loop-durable g l = record {
  reads : ReadsOnly (state_of g.S.Store l.fn.tables) (state_of g.S.Store l.tables) (Ok l.found);
  from : l.after ≤ l.durable;
  upto : l.durable ≤ l.last;
  members : Finds (state_of g.S.Store l.fn.tables) (state_of g.S.Store l.tables) (λ _ commands. HaveNoEmptyValue commands → l.found.items ≡ map (member_of l.dim commands) (drop l.after (take l.durable (members l.dim commands))));
}

abbrev pub decreases-loop-durable : goal.decreases-loop-durable
decreases-loop-durable g l = l.last - l.durable
