-- What a call that reads the tables leaves, and what it says of them.
use Rattle.std.specs.Prelude.{◌≡◌, ◌⊎◌, ℕ, ◌≤◌, List, [], Vec, Option, None, Some, Result, IsTrue, IfErr, map, ⊤}
use Rattle.std.specs.declared.alloc.Global.{Global}
use Rattle.std.specs.List.{list_all}
use Rattle.sqlite.specs.Order.{Row}
use Rattle.sqlite.specs.Schema.{Schema}
use Rattle.sqlite.specs.Tree.{Trees}
use Rattle.sqlite.specs.Given.{Returns}
use Rattle.sqlite.specs.Listing.{understood}
use Rattle.sqlite.specs.State.{State, Shown, HasCleanDisk}
use Rattle.wh_rows.specs.declared.cause.Cause.{Cause}
use Rattle.wh_rows.specs.declared.cause.Cause.TheVariants as cause
use Rattle.wh_rows.specs.declared.table.Table.{Table}
use Rattle.wh_rows.specs.declared.table.Table.TheVariants.{Change}
use Rattle.wh_rows.specs.Holds.{Layout}
use Rattle.wh_rows.specs.Tables.{Tables}
use Rattle.wh_rows.specs.AtRest.{IsAtRest}
use Rattle.wh_rows.specs.Firsts.{Front}
use Rattle.wh_rows.specs.Raw.{Stored, HasDamage, HasAskedDamage, HasGreatestDamaged, HasDamageIn, RestsOn}
use Rattle.wh_sql.specs.declared.fault.ReadFault.{ReadFault}
use Rattle.wh_sql.specs.declared.fault.ReadFault.TheVariants.{Memory, Damaged, Store}
use Rattle.wh_sql.specs.Refused.{IsCauseOfQuery}

-- ---- what it asks

-- the text is no write that shows rows, whatever tables there are
abbrev pub NeverReturns : List ℕ → Type 0
NeverReturns text = (schema : Schema) → ¬ Returns (understood schema text)

-- ---- what it leaves

-- the database refused nothing
abbrev pub SparesStore : ReadFault → Type 0
SparesStore Memory = ⊤
SparesStore (Damaged table) = ⊤
SparesStore (Store why) = ⊥

-- no row is out of its type
abbrev pub SparesRows : ReadFault → Type 0
SparesRows Memory = ⊤
SparesRows (Damaged table) = ⊥
SparesRows (Store why) = ⊤

-- the table that is named as damaged stores a damaged row
abbrev pub NamesDamage : Stored → ReadFault → Type 0
NamesDamage stored Memory = ⊤
NamesDamage stored (Damaged table) = HasDamageIn stored table
NamesDamage stored (Store why) = ⊤

-- there is an answer, or a fault for which the database refused no call
abbrev pub IsServed : {A : Type 0} → Result A ReadFault → Type 0
IsServed result = IfErr result SparesStore

-- no row out of its type was met
abbrev pub IsUndamaged : {A : Type 0} → Result A ReadFault → Type 0
IsUndamaged result = IfErr result SparesRows

-- the connection is as it was, whatever its database holds
pub record IsAsItWas (old new : State) : Type 0 where
  pub is_open : new.is_open ≡ old.is_open
  pub now : new.now ≡ old.now
  pub committed : new.committed ≡ old.committed
  pub mode : new.in_transaction ≡ old.in_transaction
  pub marks : new.marks ≡ old.marks

-- What a call that looks leaves of a database, whoever wrote it and whatever its schema. Where the call was calm, the connection is as it was. A crash leaves
-- only what it could have left before the call. Both hold if the disk has returned what was written, and then it had before the call.
pub record Spares (old new : State) (calm : Type 0) : Type 0 where
  pub clean : HasCleanDisk new → HasCleanDisk old
  pub same : HasCleanDisk new → calm → IsAsItWas old new
  pub crash : HasCleanDisk new → (trees : Trees) → new.may_leave trees → old.may_leave trees

-- A call that reads rows is calm unless the database refused it. In tables at rest no row is out of its type. Whatever is stored, a table that the call names as
-- damaged stores a damaged row.
pub record ReadsOnly {A : Type 0} (old new : State) (result : Result A ReadFault) : Type 0 where
  pub spares : Spares old new (IsServed result)
  pub sound : HasCleanDisk new → (t : Tables) → IsAtRest (Some t) old → IsUndamaged result
  pub named : HasCleanDisk new → (stored : Stored) → RestsOn stored old → IfErr result (NamesDamage stored)

-- ---- what it says

-- the query, asked with these parameters, shows these rows, all of values of their types
abbrev pub Shows : {K V : Type 0} → Layout K V → List ℕ → Row → State → State → List V → Type 0
Shows layout text params old new rows = IsTrue (list_all layout.is_valid rows) × Shown text params old new (map layout.encode rows)

-- these rows, that a query shows, are read as rows of the table, all of values of their types; or one of them is damaged
abbrev pub AreRead : {K V : Type 0} → Layout K V → List Row → Option (Vec V Global) → Type 0
AreRead layout rows (Some read) = IsTrue (list_all layout.is_valid read.items) × (rows ≡ map layout.encode read.items)
AreRead layout rows None = HasDamage layout rows

-- the fault where a parameter couldn't be made, so the query wasn't asked
abbrev pub unasked : Cause → ReadFault
unasked cause.Memory = Memory
unasked cause.Disk = Store cause.Disk
unasked cause.Size = Store cause.Size
unasked cause.Interrupted = Store cause.Interrupted

-- Memory ran out for what was shown; or it shows a row that is out of its type; or the database refused it.
abbrev pub FailsToShow : {K V : Type 0} → Layout K V → Table → List ℕ → Row → State → State → ReadFault → Type 0
FailsToShow layout table text params old new Memory = ⊤
FailsToShow layout table text params old new (Damaged which) = (which ≡ table) × (answer : List Row) × Shown text params old new answer × HasDamage layout answer
FailsToShow layout table text params old new (Store why) = IsCauseOfQuery text params old new why

-- `Damaged` names the table, and a stored row that is asked for is out of its type
abbrev pub IsOfAskedDamage : {K V : Type 0} → Option Front → Layout K V → Table → List Row → ReadFault → Type 0
IsOfAskedDamage front layout table stored Memory = ⊤
IsOfAskedDamage front layout table stored (Damaged which) = (which ≡ table) × HasAskedDamage front layout stored
IsOfAskedDamage front layout table stored (Store why) = ⊤

-- the same where all rows are asked for
abbrev pub IsOfDamage : {K V : Type 0} → Layout K V → Table → List Row → ReadFault → Type 0
IsOfDamage = IsOfAskedDamage None

-- `Damaged` names the table `change`, and one of its records with the greatest anchor is out of its type
abbrev pub IsOfGreatestDamage : List Row → ReadFault → Type 0
IsOfGreatestDamage stored Memory = ⊤
IsOfGreatestDamage stored (Damaged which) = (which ≡ Change) × HasGreatestDamaged stored
IsOfGreatestDamage stored (Store why) = ⊤

-- the rows are more than the database counts; or it refused to count them
abbrev pub FailsToCount : ℕ → List ℕ → State → State → ReadFault → Type 0
FailsToCount rows text old new Memory = ⊥
FailsToCount rows text old new (Damaged which) = ⊥
FailsToCount rows text old new (Store why) = ((why ≡ cause.Size) × (9223372036854775807 ≤ rows)) ⊎ IsCauseOfQuery text [] old new why
