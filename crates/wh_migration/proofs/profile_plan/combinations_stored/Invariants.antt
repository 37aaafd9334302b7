use Rattle.std.proofs.Common.{◌≡◌, []}
use Rattle.std.specs.Prelude.{Ok, flat_map}
use Rattle.std.specs.FinMap.{values}
use Rattle.wh_rows.specs.Rows as row
use Rattle.wh_sql.specs.Answers.{ReadsOnly, state_of}
use Rattle.wh_store.specs.Scan.{rows_left}
use Rattle.wh_migration.specs.Migration.{stored_by}
use Rattle.wh_plan.specs.Profiles.{with_combinations}
use Rattle.wh_plan.specs.Reads.{Tells}
use Rattle.wh_migration.proofs.profile_plan.combinations_stored.Given as goal

-- those so far, with those of the records that are left, are those of all
abbrev pub invariant-records : goal.invariant-records
invariant-records g l = record {
  reads : ReadsOnly (state_of g.S.Store l.fn.tables) (state_of g.S.Store l.tables) (Ok l.found);
  stored : Tells (state_of g.S.Store l.fn.tables) (state_of g.S.Store l.tables) (Ok l.found) (λ t found. with_combinations found.items (flat_map (stored_by l.types) (rows_left row.change t.change l.cursor)) ≡ with_combinations [] (flat_map (stored_by l.types) (values t.change)));
}
