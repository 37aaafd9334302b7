use Rattle.std.proofs.Common.{◌≡◌, ◌++◌, ℕ, List, map, drop}
use Rattle.std.specs.Prelude.{Ok}
use Rattle.wh_history.specs.Accepted.{member_of}
use Rattle.wh_history.specs.Laws.{RecordsHaveDays}
use Rattle.wh_history.specs.Plan.{row_of}
use Rattle.wh_sql.specs.Answers.{ReadsOnly, state_of}
use Rattle.wh_plan.specs.Reads.{Finds}
use Rattle.wh_plan.proofs.PlanRows.{Left}
use Rattle.wh_plan.proofs.records.record_plan.rows_of_stored.Given as goal

-- the rows so far, with those of the members that are left, are the rows of all
abbrev pub invariant-loop-member : goal.invariant-loop-member
invariant-loop-member g l = record {
  reads : ReadsOnly (state_of g.S.Store l.fn.tables) (state_of g.S.Store l.tables) (Ok l.found);
  rows : Finds (state_of g.S.Store l.fn.tables) (state_of g.S.Store l.tables) (λ _ commands. RecordsHaveDays commands → (naturals : List (List ℕ)) → l.members ≡ map (member_of l.dim commands) naturals → (key : ℕ)
      → row_of key (l.found.items ++ Left l.dim commands (drop l.member-index naturals)) ≡ row_of key (Left l.dim commands naturals));
}
