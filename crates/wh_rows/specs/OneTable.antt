-- What a statement on one table leaves of the database.
use Rattle.std.specs.Prelude.{◌≡◌, ◌≢◌}
use Rattle.std.specs.List.{AllByRecursion}
use Rattle.sqlite.specs.Table.{Table}
use Rattle.sqlite.specs.Effect.{Database, IsDatabase}
use Rattle.sqlite.specs.Schema.{Schema}
use Rattle.wh_rows.specs.Holds.{IsRising}

-- the database still has this schema, and the rows of no other table differ
pub record LeavesOthers (under : Schema) (changed : Table) (old new : Database) : Type 0 where
  pub schema : new.schema ≡ under
  pub sound : IsDatabase new
  pub rising : IsRising (new.trees changed.tree)
  pub others : AllByRecursion (λ t. t.tree ≢ changed.tree → new.trees t.tree ≡ old.trees t.tree) under.tables
