-- The stored rows of a table against those that it should have.
use Rattle.std.specs.Prelude.{◌≡◌, ◌≢◌, Bool, true, false, List, [], ◌∷◌, Option, Some, Result, IfOk, IfErr, OnOk}
use Rattle.std.specs.FinMap.{get}
use Rattle.sqlite.specs.Order.{Row}
use Rattle.sqlite_trees.specs.declared.store.Store.{Ghosts}
use Rattle.wh_policy.specs.declared.format.Format.{Format}
use Rattle.wh_rows.specs.Holds.{Layout}
use Rattle.wh_rows.specs.Names.{is_there}
use Rattle.wh_rows.specs.Raw.{HasDamage}
use Rattle.wh_rows.specs.Tables.{Tables as TypedTables}
use Rattle.wh_rows.specs.declared.table.Table.{Table}
use Rattle.wh_sql.specs.Described.{Described}
use Rattle.wh_sql.specs.Reads.{IsOfDamage}
use Rattle.wh_sql.specs.declared.fault.ReadFault.{ReadFault}
use Rattle.wh_store.specs.Faithful.{RestsFaithfully}
use Rattle.wh_sql.specs.Answers.{ReadsOnly, state_of, SaysAsStored}
use Rattle.wh_sql.specs.declared.at_rest.Tables.{Tables}
use Rattle.wh_admission.specs.Checked.{AreRowsAt, stored_in}

-- It is so; or it isn't, and nothing is damaged.
abbrev pub IsSoOrNot : Type 0 → Type 0 → Bool → Type 0
IsSoOrNot So Damage true = So
IsSoOrNot So Damage false = (¬ So) × (¬ Damage)

-- What is stored is what the function gives; or it isn't, and none of it is damaged.
abbrev pub AreRowsOrNot : {K V : Type 0} → Layout K V → (K → Option V) → List Row → Bool → Type 0
AreRowsOrNot layout row_at stored = IsSoOrNot (AreRowsAt layout row_at stored) (HasDamage layout stored)

-- ---- rows that are left to be compared

-- the first of them stands in the same columns, and the others are left then; or it isn't there or doesn't
abbrev pub IsNext : {K V : Type 0} → Layout K V → List V → V → List V → Bool → Type 0
IsNext {V = V} layout left row rest true = (there : V) × (left ≡ there ∷ rest) × (layout.encode there ≡ layout.encode row)
IsNext {V = V} layout left row rest false = (there : V) (later : List V) → left ≡ there ∷ later → layout.encode there ≢ layout.encode row

-- none is left, or some are
abbrev pub IsEnd : {V : Type 0} → List V → Bool → Type 0
IsEnd left true = left ≡ []
IsEnd left false = left ≢ []

-- ---- one of the tables

-- What comparing a table of a format with its twin in the second warehouse says, and leaves of both.
pub record IsCompared {S M : Type 0} (g : Ghosts S) (h : Ghosts M) (format : Format) (table : Table) (of : Described) (old new : Tables S) (before after : Tables M) (result : Result Bool ReadFault) : Type 0 where
  pub reads : ReadsOnly (state_of g old) (state_of g new) result
  pub rests : (t : TypedTables) → RestsFaithfully h (Some t) before.conn → OnOk result (RestsFaithfully h (Some t) after.conn)
  pub same : SaysAsStored (state_of g old) (state_of g new) (λ stored. (is_there table format ≡ true → is_there table stored.format ≡ true) → (t : TypedTables) → is_there table t.format ≡ is_there table format
      → RestsFaithfully h (Some t) before.conn → IfOk result (AreRowsOrNot of.layout (get (of.rows t)) ((stored_in format stored).rows table)))
  pub damaged : SaysAsStored (state_of g old) (state_of g new) (λ stored. IfErr result (IsOfDamage of.layout table ((stored_in format stored).rows table)))
