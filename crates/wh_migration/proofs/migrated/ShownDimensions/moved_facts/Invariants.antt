use Rattle.std.proofs.Common.{◌≡◌, ◌++◌}
use Rattle.std.specs.Prelude.{Ok}
use Rattle.std.specs.FinMap.{values}
use Rattle.wh_rows.specs.Facts.{facts_in}
use Rattle.wh_rows.specs.Rows as row
use Rattle.wh_sql.specs.Answers.{ReadsOnly, state_of}
use Rattle.wh_store.specs.Scan.{rows_left}
use Rattle.wh_migration.specs.Migrated.{moved_anew}
use Rattle.wh_plan.specs.Reads.{Tells}
use Rattle.wh_migration.proofs.migrated.ShownDimensions.moved_facts.Given as goal

-- those so far, with those of the facts that are left, are those of all
abbrev pub invariant-facts : goal.invariant-facts
invariant-facts g l = record {
  reads : ReadsOnly (state_of g.S.Store l.fn.tables) (state_of g.S.Store l.tables) (Ok l.moved);
  moved : Tells (state_of g.S.Store l.fn.tables) (state_of g.S.Store l.tables) (Ok l.moved) (λ t moved. t.format ≡ l.format → moved.items ++ moved_anew l.self (rows_left row.fact (facts_in l.format t) l.cursor) ≡ moved_anew l.self (values (facts_in l.format t)));
}
