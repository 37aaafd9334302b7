-- What a call that reads answers, of tables at rest and of any stored rows.
use Rattle.std.specs.Prelude.{◌≡◌, ◌≤◌, ℕ, Bool, List, [], filter, length, Some, Option, Vec, Result, IsTrue, IfOk, IfErr}
use Rattle.std.specs.declared.alloc.Global.{Global}
use Rattle.std.specs.FinMap.{FinMap, values}
use Rattle.sqlite.specs.Order.{Row}
use Rattle.wh_rows.specs.declared.cause.Cause.{Cause}
use Rattle.wh_rows.specs.Firsts.{Front, part}
use Rattle.wh_rows.specs.Holds.{Layout}
use Rattle.wh_sql.specs.declared.fault.ReadFault.{ReadFault}
use Rattle.wh_sql.specs.declared.fault.ReadFault.TheVariants.{Store as Refused}
use Rattle.wh_sql.specs.Reads.{FailsToShow, FailsToCount}
use Rattle.wh_sql.specs.Refused.{IsCauseOfQuery}
use Rattle.sqlite_trees.specs.declared.store.Store.{Ghosts}
use Rattle.sqlite.specs.State.{State, HasCleanDisk}
use Rattle.wh_policy.specs.declared.format.Format.{Format}
use Rattle.wh_rows.specs.declared.table.Table.{Table}
use Rattle.wh_rows.specs.Names.{is_there}
use Rattle.wh_rows.specs.AtRest.{IsAtRest}
use Rattle.wh_rows.specs.Raw.{Stored, RestsOn, AreRows, AreAsked, IsLastOf}
use Rattle.wh_rows.specs.Tables.{Tables as TypedTables}
use Rattle.wh_sql.specs.declared.at_rest.Tables.{Tables}
use Rattle.sqlite.specs.Held.{Held, state}
-- what a crate above says of a reading, in the words of the statements
pub use Rattle.wh_sql.specs.Reads.{IsAsItWas, ReadsOnly, Spares, IsServed, IsUndamaged, NamesDamage, SparesStore, SparesRows, IsOfDamage, IsOfAskedDamage}
pub use Rattle.wh_sql.specs.Asked.{same_text, same_slots}
pub use Rattle.wh_sql.specs.Present.{is_any_taken, is_second_taken, has_tables, has_second}

-- the state of the connection that tables stand over
abbrev pub state_of : {S : Type 0} → Ghosts S → Tables S → State
state_of g tables = state g tables.conn

-- what is so where these tables were at rest, and where this was stored
abbrev pub SaysAtRest : State → State → (TypedTables → Type 0) → Type 0
SaysAtRest old new fact = HasCleanDisk new → (t : TypedTables) → IsAtRest (Some t) old → fact t

abbrev pub SaysAsStored : State → State → (Stored → Type 0) → Type 0
SaysAsStored old new fact = HasCleanDisk new → (stored : Stored) → RestsOn stored old → fact stored

-- the same, by the tables over a connection
abbrev pub WhenAtRest : {S : Type 0} → Ghosts S → Tables S → Tables S → (TypedTables → Type 0) → Type 0
WhenAtRest g old new fact = SaysAtRest (state_of g old) (state_of g new) fact

abbrev pub WhenStored : {S : Type 0} → Ghosts S → Tables S → Tables S → (Stored → Type 0) → Type 0
WhenStored g old new fact = SaysAsStored (state_of g old) (state_of g new) fact

-- the call only reads them
abbrev pub ReadsOnlyIn : {S A : Type 0} → Ghosts S → Tables S → Tables S → Result A ReadFault → Type 0
ReadsOnlyIn g old new result = ReadsOnly (state_of g old) (state_of g new) result

abbrev pub SparesIn : {S : Type 0} → Ghosts S → Tables S → Tables S → Type 0 → Type 0
SparesIn g old new calm = Spares (state_of g old) (state_of g new) calm

-- The same of one table, where it is there as by this format. Of a table that each format has, that is so by `refl`.
abbrev pub SaysInFormat : {S : Type 0} → Ghosts S → Table → Format → Tables S → Tables S → (TypedTables → Type 0) → Type 0
SaysInFormat g name format old new fact = HasCleanDisk (state_of g new) → (t : TypedTables) → is_there name t.format ≡ is_there name format → IsAtRest (Some t) (state_of g old) → fact t

abbrev pub SaysAsStoredIn : {S : Type 0} → Ghosts S → Table → Format → Tables S → Tables S → (Stored → Type 0) → Type 0
SaysAsStoredIn g name format old new fact = HasCleanDisk (state_of g new) → (stored : Stored) → is_there name stored.format ≡ is_there name format → RestsOn stored (state_of g old) → fact stored

-- ---- what a call that reads answers

-- It only reads. Of typed tables at rest it answers what is typed; of any stored rows what is raw, or that one of those that it asks for is damaged; a refusal says why.
pub record Answers {S A : Type 0} (g : Ghosts S) (old new : Held S) (result : Result A ReadFault) (typed : TypedTables → A → Type 0) (raw : Stored → A → Type 0) (damage : Stored → ReadFault → Type 0) (refusal : ReadFault → Type 0) : Type 0 where
  pub reads : ReadsOnly (state g old) (state g new) result
  pub rows : SaysAtRest (state g old) (state g new) (λ t. IfOk result (typed t))
  pub stored : SaysAsStored (state g old) (state g new) (λ stored. IfOk result (raw stored))
  pub damaged : SaysAsStored (state g old) (state g new) (λ stored. IfErr result (damage stored))
  pub refused : HasCleanDisk (state g new) → IfErr result refusal

-- all rows of a table, in the order of their keys
abbrev pub ListsRows : {S K V : Type 0} → Ghosts S → Held S → Held S → Table → (layout : Layout K V) → (TypedTables → FinMap layout.order V) → List ℕ → Result (Vec V Global) ReadFault → Type 0
ListsRows g old new name layout rows text result =
    Answers g old new result (λ t read. read.items ≡ values (rows t)) (λ stored read. AreRows layout (stored.rows name) read.items) (λ stored. IsOfDamage layout name (stored.rows name))
    (FailsToShow layout name text [] (state g old) (state g new))

-- the rows of a table that answer a question, up to its front, in the order of their keys
abbrev pub AsksRows : {S K V : Type 0} → Ghosts S → Held S → Held S → Table → (layout : Layout K V) → (TypedTables → FinMap layout.order V) → Option Front → (V → Bool) → (Row → Bool) → List ℕ → Row → Type 0 → Result (Vec V Global) ReadFault → Type 0
AsksRows g old new name layout rows front keep stands text params can_be_asked result =
    Answers g old new result (λ t read. read.items ≡ part front (filter keep (values (rows t)))) (λ stored read. AreAsked front layout (filter stands (stored.rows name)) read.items) (λ stored. IsOfAskedDamage front layout name (filter stands (stored.rows name)))
    (λ fault. can_be_asked → FailsToShow layout name text params (state g old) (state g new) fault)

-- The row of a table at a key, if one is there; and no fault of the disk is forgotten.
pub record FindsRow {S K V : Type 0} (g : Ghosts S) (old new : Held S) (name : Table) (layout : Layout K V) (row_in : TypedTables → Option V) (stands_at : K → Row → Bool) (bind : K → Row) (text : List ℕ) (key : K) (result : Result (Option V) ReadFault) : Type 0 where
  pub reads : ReadsOnly (state g old) (state g new) result
  pub counts : (state g old).faults ≤ (state g new).faults
  pub rows : SaysAtRest (state g old) (state g new) (λ t. IfOk result (λ found. found ≡ row_in t))
  pub stored : SaysAsStored (state g old) (state g new) (λ stored. IfOk result (IsLastOf layout (filter (stands_at key) (stored.rows name))))
  pub damaged : SaysAsStored (state g old) (state g new) (λ stored. IfErr result (IsOfDamage layout name (filter (stands_at key) (stored.rows name))))
  pub refused : HasCleanDisk (state g new) → IfErr result (λ fault. (row : V) → IsTrue (layout.is_valid row) → layout.key row ≡ key → FailsToShow layout name text (bind key) (state g old) (state g new) fault)

-- each row of a table is counted in a tally, or one is damaged
abbrev pub TalliesRows : {S K V : Type 0} → Ghosts S → Held S → Held S → Table → Layout K V → (TypedTables → Type 0) → (List Row → Type 0) → List ℕ → Result (Unit {0}) ReadFault → Type 0
TalliesRows g old new name layout counted raw text result =
    Answers g old new result (λ t _. counted t) (λ stored _. raw (stored.rows name)) (λ stored. IsOfDamage layout name (stored.rows name))
    (λ fault. (why : Cause) → fault ≡ Refused why → IsCauseOfQuery text [] (state g old) (state g new) why)

-- How many rows a table has. All that are stored are counted, damaged or not.
pub record CountsRows {S : Type 0} (g : Ghosts S) (old new : Held S) (name : Table) (count_in : TypedTables → ℕ) (text : List ℕ) (result : Result ℕ ReadFault) : Type 0 where
  pub reads : ReadsOnly (state g old) (state g new) result
  pub count : SaysAtRest (state g old) (state g new) (λ t. IfOk result (λ count. count ≡ count_in t))
  pub stored : SaysAsStored (state g old) (state g new) (λ stored. IfOk result (λ count. count ≡ length (stored.rows name)))
  pub refused : SaysAtRest (state g old) (state g new) (λ t. IfErr result (FailsToCount (count_in t) text (state g old) (state g new)))
