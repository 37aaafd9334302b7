-- What a call that only reads says of the tables of a session.
use Rattle.std.specs.Prelude.{List, Some}
use Rattle.sqlite_trees.specs.declared.store.Store.{Ghosts}
use Rattle.sqlite.specs.State.{HasCleanDisk}
use Rattle.wh_history.specs.Accepted.{Accepted}
use Rattle.wh_rows.specs.AtRest.{IsAtRest}
use Rattle.wh_rows.specs.Tables.{Tables as TypedTables}
use Rattle.wh_sql.specs.Answers.{state_of}
use Rattle.wh_sql.specs.declared.at_rest.Tables.{Tables}
use Rattle.wh_engine.specs.Decided.{IsHeld}
use Rattle.wh_engine.specs.declared.session.Session.{Session}

-- what is so where the session is that of the commands whose tables were at rest
abbrev pub Works : {S : Type 0} → Ghosts S → Tables S → Tables S → Session → (List Accepted → Type 0) → Type 0
Works g old new session fact = HasCleanDisk (state_of g new) → (commands : List Accepted) (t : TypedTables) → IsHeld session commands t → IsAtRest (Some t) (state_of g old) → fact commands
