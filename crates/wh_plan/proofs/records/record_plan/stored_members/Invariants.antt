use Rattle.std.proofs.Common.{◌≡◌, map, take}
use Rattle.std.specs.Prelude.{Ok}
use Rattle.wh_history.specs.Accepted.{member_of}
use Rattle.wh_plan.specs.Reading.{HaveNoEmptyValue}
use Rattle.wh_sql.specs.Answers.{ReadsOnly, state_of}
use Rattle.wh_plan.specs.Reads.{Finds}
use Rattle.wh_plan.proofs.records.record_plan.stored_members.Given as goal

abbrev pub invariant-loop-natural : goal.invariant-loop-natural
invariant-loop-natural g l = record {
  reads : ReadsOnly (state_of g.S.Store l.fn.tables) (state_of g.S.Store l.tables) (Ok l.found);
  members : Finds (state_of g.S.Store l.fn.tables) (state_of g.S.Store l.tables) (λ _ commands. HaveNoEmptyValue commands → l.found.items ≡ map (member_of l.dim commands) (take l.natural-index l.naturals));
}
