-- A connection to a warehouse, and what a crash may leave of it. What is held is the tables, or nothing yet.
use Rattle.std.specs.Prelude.{◌≡◌, ℕ, false, [], List, Option, Some, None, IsTrue, IfSome, Err}
use Rattle.sqlite.specs.Order.{Row}
use Rattle.sqlite.specs.Tree.{Trees}
use Rattle.sqlite.specs.Schema.{Schema}
use Rattle.sqlite.specs.Effect.{Database, IsDatabase}
use Rattle.sqlite.specs.State.{State, Executes}
use Rattle.sqlite.specs.declared.error.Error.{Error}
use Rattle.wh_rows.specs.declared.cause.Cause.{Cause}
use Rattle.wh_rows.specs.Cause.{cause_of}
use Rattle.wh_rows.specs.Schema.{no_schema, schema_in}
use Rattle.wh_rows.specs.Tables.{Tables, Stores}

-- the schema of a database that holds this
abbrev pub schema_of : Option Tables → Schema
schema_of None = no_schema
schema_of (Some t) = schema_in t.format

-- the database holds nothing at all, or the tables and nothing else
pub record Has (held : Option Tables) (db : Database) : Type 0 where
  pub schema : db.schema ≡ schema_of held
  pub sound : IsDatabase db
  pub tables : IfSome held (Stores db)

-- the trees are those of a database that holds this
abbrev pub AreTrees : Option Tables → Trees → Type 0
AreTrees held trees = Has held (record { schema = schema_of held; trees = trees })

-- whatever a crash leaves holds this
pub record Leaves (held : Option Tables) (s : State) : Type 0 where
  pub each : (trees : Trees) → s.may_leave trees → AreTrees held trees

-- It is open, outside a transaction, and holds this; a crash leaves this and nothing else.
pub record IsAtRest (held : Option Tables) (s : State) : Type 0 where
  pub is_open : IsTrue s.is_open
  pub autocommit : s.in_transaction ≡ false
  pub unmarked : s.marks ≡ []
  pub now : Has held s.now
  pub committed : s.committed ≡ s.now
  pub left : Leaves held s

-- It is inside a transaction that began with the first and has made the second; a crash leaves the first and nothing else.
pub record IsWriting (before made : Option Tables) (s : State) : Type 0 where
  pub is_open : IsTrue s.is_open
  pub inside : IsTrue s.in_transaction
  pub now : Has made s.now
  pub committed : Has before s.committed
  pub left : Leaves before s

-- the database refused the statement with an error of this cause
abbrev pub IsCauseOf : List ℕ → Row → State → State → Cause → Type 0
IsCauseOf text params old new cause = (error : Error) × (cause ≡ cause_of error) × Executes text params old new (Err error)
