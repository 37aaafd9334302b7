-- What stands under the name of a warehouse.
use Rattle.std.specs.Prelude.{◌≡◌, ◌⊎◌, ⊤, false, List, [], Option, Some, None, IsTrue}
use Rattle.sqlite.specs.Tree.{Trees}
use Rattle.sqlite.specs.Effect.{Database}
use Rattle.sqlite.specs.State.{State}
use Rattle.sqlite.specs.Held.{Held, state}
use Rattle.sqlite.specs.Steps.{over_memory}
use Rattle.sqlite_trees.specs.declared.memory.MemStore.{MemStore}
use Rattle.wh_history.specs.Accepted.{Accepted}
use Rattle.wh_history.specs.Tables.{Limits}
use Rattle.wh_rows.specs.AtRest.{AreTrees, IsAtRest}
use Rattle.wh_rows.specs.Raw.{Stored, IsStored, RestsOn}
use Rattle.wh_rows.specs.Schema.{schema_in}
use Rattle.wh_admission.specs.Admission.{AreAdmitted}
use Rattle.wh_engine.specs.Answered as engine
use Rattle.wh_engine.specs.Outcome.{Left, At, Between}

-- What a database holds: no object at all; or the tables of a warehouse that was made with these limits and has accepted these commands; or the tables of either
-- format, whose rows anybody may have written; or it is this database, with whatever tables, indexes and views.
pub data DatabaseContent : Type 0 where
  Nothing : DatabaseContent
  Holds : Limits → List Accepted → DatabaseContent
  Keeps : Stored → DatabaseContent
  Is : Database → DatabaseContent

-- what accepted commands left, or nothing
abbrev pub IsOfCommands : DatabaseContent → Type 0
IsOfCommands Nothing = ⊤
IsOfCommands (Holds limits commands) = ⊤
IsOfCommands (Keeps stored) = ⊥
IsOfCommands (Is db) = ⊥

-- It is at rest with a content; or the database refused a call, and a crash leaves the one or the other; or nothing is said.
pub data Standing : Type 0 where
  Unknown : Standing
  Rests : DatabaseContent → Standing
  LeftAt : DatabaseContent → DatabaseContent → Standing

-- what stands after what looked, or wrote nothing: what stood, which a crash leaves where the database refused a call
abbrev pub LeavesIt : DatabaseContent → Standing → Type 0
LeavesIt content after = (after ≡ Rests content) ⊎ (after ≡ LeftAt content content)

-- what is left standing, where a call left a warehouse
abbrev pub left_standing : Limits → Left → Standing
left_standing limits (At commands) = Rests (Holds limits commands)
left_standing limits (Between before after) = LeftAt (Holds limits before) (Holds limits after)

-- It is open, outside a transaction, with this database; a crash leaves this and nothing else.
pub record RestsAs (db : Database) (s : State) : Type 0 where
  pub is_open : IsTrue s.is_open
  pub autocommit : s.in_transaction ≡ false
  pub unmarked : s.marks ≡ []
  pub now : s.now ≡ db
  pub committed : s.committed ≡ db
  pub left : (trees : Trees) → s.may_leave trees → trees ≡ db.trees

-- the connection is at rest with the content
abbrev pub IsAt : DatabaseContent → State → Type 0
IsAt Nothing s = IsAtRest None s
IsAt (Holds limits commands) s = AreAdmitted limits commands × engine.Rests limits commands s
IsAt (Keeps stored) s = RestsOn stored s
IsAt (Is db) s = RestsAs db s

-- the trees are those of a database with the content
abbrev pub HasTrees : DatabaseContent → Trees → Type 0
HasTrees Nothing trees = AreTrees None trees
HasTrees (Holds limits commands) trees = engine.AreTreesOf limits commands trees
HasTrees (Keeps stored) trees = IsStored stored (record { schema = schema_in stored.format; trees = trees })
HasTrees (Is db) trees = trees ≡ db.trees

-- whatever a crash leaves has the one content or the other
pub record LeavesEither (first second : DatabaseContent) (s : State) : Type 0 where
  pub each : (trees : Trees) → s.may_leave trees → HasTrees first trees ⊎ HasTrees second trees

-- what stands, of a connection
abbrev pub Stands : Standing → State → Type 0
Stands Unknown s = ⊤
Stands (Rests content) s = IsAt content s
Stands (LeftAt first second) s = LeavesEither first second s

-- what stands of a connection in memory, which may not be made yet
abbrev pub IsKept : Standing → Option (Held MemStore) → Type 0
IsKept standing None = standing ≡ Rests Nothing
IsKept standing (Some c) = Stands standing (state over_memory c)
