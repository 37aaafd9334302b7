-- What a call leaves of an engine, and how its clauses speak of that.
use Rattle.std.specs.Prelude.{◌≡◌, ◌||◌, List, Some, Result, Err, IsOk, IsTrue, ⊤}
use Rattle.sqlite_trees.specs.declared.store.Store.{Ghosts}
use Rattle.sqlite_trees.specs.Tree.{Trees}
use Rattle.sqlite.specs.State.{State, HasCleanDisk}
use Rattle.wh_history.specs.Accepted.{Accepted}
use Rattle.wh_history.specs.Tables.{Limits}
use Rattle.wh_rows.specs.Raw.{Stored}
use Rattle.wh_rows.specs.Tables.{Tables as TypedTables}
use Rattle.wh_sql.specs.declared.fault.ReadFault.{ReadFault}
use Rattle.wh_sql.specs.Answers.{IsAsItWas, ReadsOnly, Spares, SaysAtRest, SaysAsStored, is_second_taken, state_of}
pub use Rattle.wh_sql.specs.Answers.{ReadsOnlyIn, SparesIn, WhenAtRest, WhenStored}
use Rattle.wh_sql.specs.declared.at_rest.Tables.{Tables}
use Rattle.wh_model.specs.Defined.{AreOf}
use Rattle.wh_model.specs.Sound.{IsAccepted}
pub use Rattle.wh_plan.specs.Reads.{WhenOfCommands}
use Rattle.wh_engine.specs.Answered.{IsReady, IsLeft}
use Rattle.wh_engine.specs.Faults.{IsServed, IsWorkedOut, BlamesDamage, TellsTaken, stops}
use Rattle.wh_engine.specs.Outcome.{Outcome}
use Rattle.wh_engine.specs.declared.engine.Engine.{Engine}
use Rattle.wh_engine.specs.declared.fault.Fault.{Fault}
use Rattle.wh_engine.specs.declared.fault.Fault.TheVariants.{Memory, Store, Reopen}
use Rattle.wh_engine.specs.declared.session.Session.{Session}

-- ---- what is so

-- where a session was ready for commands with its tables, of both afterwards
abbrev pub WhenReadyOn : {S : Type 0} → Ghosts S → Tables S → Tables S → Session → Session → (Limits → List Accepted → Session → State → Type 0) → Type 0
WhenReadyOn g old new before after fact =
    HasCleanDisk (state_of g new) → (limits : Limits) (commands : List Accepted) → IsReady limits commands before (state_of g old) → fact limits commands after (state_of g new)

-- where the engine was ready for commands, of what it has to know and of its tables
abbrev pub WhenReady : {S : Type 0} → Ghosts S → Engine S → Engine S → (Limits → List Accepted → Session → State → Type 0) → Type 0
WhenReady g old new fact = WhenReadyOn g old.tables new.tables old.session new.session fact

-- where the tables were those of commands that a warehouse can have accepted under these limits
abbrev pub WhenAccepted : {S : Type 0} → Ghosts S → Tables S → Tables S → Limits → (List Accepted → Type 0) → Type 0
WhenAccepted g old new limits fact = WhenAtRest g old new (λ t. (commands : List Accepted) → AreOf limits commands t → IsAccepted limits commands → fact commands)

-- where what was written until now was told, it was so before
abbrev pub WasClean : {S : Type 0} → Ghosts S → Tables S → Tables S → Type 0
WasClean g old new = HasCleanDisk (state_of g new) → HasCleanDisk (state_of g old)

-- ---- what is left

-- What a call that may write leaves of any database where it was calm, so where it wrote nothing: the connection is as it was, and a crash leaves only what it
-- could have left before the call.
pub record Keeps {S : Type 0} (g : Ghosts S) (old new : Tables S) (calm : Type 0) : Type 0 where
  pub clean : HasCleanDisk (state_of g new) → HasCleanDisk (state_of g old)
  pub same : HasCleanDisk (state_of g new) → calm → IsAsItWas (state_of g old) (state_of g new)
  pub crash : HasCleanDisk (state_of g new) → calm → (trees : Trees) → (state_of g new).may_leave trees → (state_of g old).may_leave trees

-- What a reading leaves of the tables: they are as they were unless the database refused a call, and a crash leaves them. A table that it names as damaged is
-- damaged, and a name that it calls taken is taken. It never asks for the warehouse to be opened again.
pub record Reads {S A : Type 0} (g : Ghosts S) (old new : Tables S) (result : Result A Fault) : Type 0 where
  pub spares : Spares (state_of g old) (state_of g new) (IsServed result)
  pub blames : WhenStored g old new (λ stored. BlamesDamage stored result)
  pub work : IsWorkedOut result
  pub taken : TellsTaken (is_second_taken (state_of g new).now.schema) result

-- this is told exactly where the engine had to be opened again, and then all is as it was
pub record Shuts {S : Type 0} (old new : Engine S) (said : Type 0) : Type 0 where
  pub same : IsTrue old.session.must_reopen → said × (new.tables ≡ old.tables) × (new.session ≡ old.session)
  pub only : said → IsTrue old.session.must_reopen

-- where the database refuses a call the engine has to be opened again, and stays so
abbrev pub noting : {A : Type 0} → Session → Result A Fault → Session
noting session result = record session { must_reopen = session.must_reopen || stops result }

-- What a call that reads leaves of an engine, whatever it answers: the same of its tables; it is noted where the database refused a call, and refused where
-- one had before. What the last command wrote stays counted.
pub record EngineReads {S A : Type 0} (g : Ghosts S) (old new : Engine S) (result : Result A Fault) : Type 0 where
  pub spares : Spares (state_of g old.tables) (state_of g new.tables) (IsServed result)
  pub blames : WhenStored g old.tables new.tables (λ stored. BlamesDamage stored result)
  pub noted : new.session ≡ noting old.session result
  pub shuts : Shuts old new (result ≡ Err Reopen)
  pub writes : new.writes ≡ old.writes

-- ---- what is left of one that was ready

-- memory ran out, or the database refused a call
abbrev pub IsWanting : Fault → Type 0
IsWanting Memory = ⊤
IsWanting (Store cause) = ⊤
IsWanting fault = ⊥

-- It is answered, whatever is read, and nothing changes.
abbrev pub IsServing : {A : Type 0} → Limits → List Accepted → Result A Fault → Session → State → Type 0
IsServing limits commands result session s = Outcome IsOk commands commands result (IsLeft limits session s)

-- The same of several readings, one after the other. What was at rest is as it was, unless the database refused a call. An engine that was ready for commands
-- is so still; or memory ran out, and it is; or the store refused a call, and it has to be opened again. A table that is named as damaged is. That it has to
-- be opened again is answered only by one that had to be before.
pub record ReadsThrough {A : Type 0} (before after : Session) (old new : State) (result : Result A Fault) : Type 0 where
  pub spares : Spares old new (IsServed result)
  pub serves : HasCleanDisk new → (limits : Limits) (commands : List Accepted) → IsReady limits commands before old → IsServing limits commands result after new
  pub blames : SaysAsStored old new (λ stored. BlamesDamage stored result)
  pub noted : after ≡ noting before result
  pub only : result ≡ Err Reopen → IsTrue before.must_reopen

-- through an engine
abbrev pub EngineReadsThrough : {S A : Type 0} → Ghosts S → Engine S → Engine S → Result A Fault → Type 0
EngineReadsThrough g old new result = ReadsThrough old.session new.session (state_of g old.tables) (state_of g new.tables) result
