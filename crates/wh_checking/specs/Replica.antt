-- A second warehouse, over a store that never fails to tell what was written, which is sent the commands that the command table tells.
use Rattle.std.specs.Prelude.{◌≡◌, ◌≢◌, ◌&&◌, ◌==◌, suc, Bool, true, false, codes, bytes_eq, length, List, [], ◌∷◌, ◌++◌, Option, Some, None}
use Rattle.sqlite_trees.specs.declared.store.Store.{Ghosts}
use Rattle.sqlite.specs.Files.{over_files}
use Rattle.wh_history.specs.Accepted.{Accepted, format_of}
use Rattle.wh_policy.specs.declared.format.Format.{Format}
use Rattle.wh_history.specs.Tables.{Limits}
use Rattle.wh_model.specs.Defined.{command_at}
use Rattle.wh_rows.specs.Raw.{Stored, HasDamage}
use Rattle.wh_rows.specs.Rows as row
use Rattle.wh_rows.specs.declared.rows.CommandRow.{CommandRow}
use Rattle.wh_rows.specs.declared.table.Table.TheVariants.{Command}
use Rattle.wh_admission.specs.Admission.{AreAdmitted}
use Rattle.wh_admission.specs.Checked.{AreRowsAt}
use Rattle.wh_admission.specs.Steps.{IsNextRow}
use Rattle.wh_store.specs.Faithful.{IsFaithful}
use Rattle.wh_sql.specs.Answers.{state_of}
use Rattle.wh_sql.specs.declared.at_rest.Tables.{Tables}
use Rattle.wh_engine.specs.Answered.{Rests, IsReady}
use Rattle.wh_engine.specs.declared.engine.Engine.{Engine}
use Rattle.wh_checking.specs.declared.replica.Replica.{Replica}

-- what a row of the command table says of the making, but for its bytes
abbrev pub is_making_row : CommandRow → Bool
is_making_row row = bytes_eq row.id (codes "init") && bytes_eq row.kind (codes "init") && (row.number == 1) && (row.records == 0) && (row.placeholders == 0)

-- an engine over such a store is open for these commands
abbrev pub IsOpenFor : {M : Type 0} → Ghosts M → Limits → List Accepted → Engine M → Type 0
IsOpenFor g limits commands engine = IsFaithful g × IsReady limits commands engine.session (state_of g engine.tables)

-- so it is, or there is none and no command
abbrev pub IsEngineOf : {M : Type 0} → Ghosts M → Limits → List Accepted → Option (Engine M) → Type 0
IsEngineOf g limits commands None = commands ≡ []
IsEngineOf g limits commands (Some engine) = IsOpenFor g limits commands engine

-- the replica has these commands, under these limits
pub record IsReplica (limits : Limits) (commands : List Accepted) (r : Replica) : Type 0 where
  pub limits_are : r.limits ≡ limits
  pub engine_is : IsEngineOf over_files limits commands r.engine

-- The row is that of a command that comes next, and this holds of the list with it; or it is the row of no command that comes next.
abbrev pub IsFollowed : Limits → List Accepted → CommandRow → (List Accepted → Type 0) → Bool → Type 0
IsFollowed limits commands row Holds true = (a : Accepted) × IsNextRow limits commands row a × Holds (commands ++ a ∷ [])
IsFollowed limits commands row Holds false = (a : Accepted) (more : List Accepted) → AreAdmitted limits (commands ++ a ∷ more) → command_at (commands ++ a ∷ more) (suc (length commands)) ≢ Some row

-- There is an engine, open for a making alone, and the row is that of this making; or there is none, and the row is that of no making.
abbrev pub IsMadeOrNot : {M : Type 0} → Ghosts M → Limits → CommandRow → Option (Engine M) → Type 0
IsMadeOrNot g limits row (Some engine) = (a : Accepted) × IsNextRow limits [] row a × IsOpenFor g limits (a ∷ []) engine
IsMadeOrNot g limits row None = (a : Accepted) (more : List Accepted) → AreAdmitted limits (a ∷ more) → command_at (a ∷ more) 1 ≢ Some row

-- tables over such a store are at rest with the tables of these commands
abbrev pub HoldsAll : {M : Type 0} → Ghosts M → Limits → List Accepted → Tables M → Type 0
HoldsAll g limits commands tables = IsFaithful g × Rests limits commands (state_of g tables)

-- The command table tells no list that was admitted under the limits and makes the format of the tables, and none of its rows is damaged.
abbrev pub TellsNone : Stored → Limits → Type 0
TellsNone stored limits = ((commands : List Accepted) → stored.format ≡ format_of commands → AreAdmitted limits commands → ¬ AreRowsAt row.command (command_at commands) (stored.rows Command)) × (¬ HasDamage row.command (stored.rows Command))

-- It tells such a list, and the tables of the second warehouse are those of it; or it tells none.
abbrev pub IsReplicated : {M : Type 0} → Ghosts M → Stored → Limits → Option (Tables M) → Type 0
IsReplicated g stored limits (Some tables) = (commands : List Accepted) × (stored.format ≡ format_of commands) × AreAdmitted limits commands × AreRowsAt row.command (command_at commands) (stored.rows Command) × HoldsAll g limits commands tables
IsReplicated g stored limits None = TellsNone stored limits

-- the list has a command, each row was that of the next one, and the format is this one; or a row wasn't, or there is no command, or the format is another
abbrev pub IsEndOf : {M : Type 0} → Format → Bool → Option (Engine M) → Option (Tables M) → Type 0
IsEndOf {M} format is_list kept (Some tables) = (engine : Engine M) × (kept ≡ Some engine) × (is_list ≡ true) × (engine.session.format ≡ format) × (tables ≡ engine.tables)
IsEndOf {M} format is_list kept None = is_list ≡ true → (engine : Engine M) → kept ≡ Some engine → engine.session.format ≢ format
