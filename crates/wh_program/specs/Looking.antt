-- What a word that looks leaves of a warehouse that is open.
use Rattle.std.specs.Prelude.{◌≡◌, false}
use Rattle.sqlite_trees.specs.declared.store.Store.{Ghosts}
use Rattle.wh_sql.specs.Answers.{Spares, state_of}
use Rattle.wh_engine.specs.declared.engine.Engine.{Engine}

-- The database is as it was, whoever wrote it and whatever its schema, and a crash leaves only what it could have left before. Where the database refused a
-- call, now or earlier, the engine has to be opened again.
pub record Looks {S : Type 0} (g : Ghosts S) (old new : Engine S) : Type 0 where
  pub spares : Spares (state_of g old.tables) (state_of g new.tables) (new.session.must_reopen ≡ false)
  pub stays : new.session.must_reopen ≡ false → old.session.must_reopen ≡ false
