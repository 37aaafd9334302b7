-- The rows of a table, each read as the database hands it out.
use Rattle.std.proofs.Common.{◌≡◌, ℕ, List, [], ◌∷◌, ◌++◌, Option, None, Some, Result, Err, IfOk, IfErr, inl, refl, subst}
use Rattle.std.specs.Prelude.{Vec, ok_or}
use Rattle.std.specs.declared.alloc.Global.{Global}
use Rattle.sqlite_rules.proofs.ListLemmas.{has_left, has_right}
use Rattle.sqlite_trees.specs.declared.store.Store.{Ghosts}
use Rattle.sqlite.specs.Order.{Row}
use Rattle.sqlite.specs.Held.{Held}
use Rattle.sqlite.specs.State.{State, HasCleanDisk, IsUnchanged, Survives, Shown}
use Rattle.wh_rows.specs.Holds.{Layout}
use Rattle.wh_rows.specs.Raw.{HasDamage, IsDamaged}
use Rattle.wh_rows.specs.declared.table.Table.{Table}
use Rattle.wh_sql.specs.Reads.{ReadsOnly, Shows, FailsToShow, AreRead}
use Rattle.wh_sql.specs.declared.fault.ReadFault.{ReadFault}
use Rattle.wh_sql.specs.declared.fault.ReadFault.TheVariants.{Memory, Damaged}
use Rattle.wh_sql.proofs.Reading.{reads_unchanged}
use Rattle.wh_sql.proofs.Giving.{IsGiving}

-- since the first of the connections nothing was changed, and the rows that the query has given are read so
pub record IsReading {K V S : Type 0} (layout : Layout K V) (g : Ghosts S) (text : List ℕ) (params : Row) (start now : Held S) (read : Option (Vec V Global)) : Type 0 where
  pub rows : List Row
  pub giving : IsGiving g text params start now rows
  pub are : AreRead layout rows read

pub none_read : {K V : Type 0} (layout : Layout K V) (read : Vec V Global) → read.items ≡ [] → AreRead layout [] (Some read)
none_read layout read is = (rw is refl, rw is refl)

-- ---- one more row

module _ {K V : Type 0} (layout : Layout K V) (rows : List Row) (row : Row) where
  -- one of those before it is damaged
  pub damaged_before : (read : Option (Vec V Global)) → read ≡ None → AreRead layout rows read → HasDamage layout (rows ++ row ∷ [])
  damaged_before None is damage = (damage.0, has_left rows (row ∷ []) damage.0 damage.1, damage.2)
  damaged_before (Some read) is are = absurd cc

  -- or it is itself
  pub damaged_now : IsDamaged layout row → HasDamage layout (rows ++ row ∷ [])
  damaged_now damaged = (row, has_right rows (row ∷ []) row (inl refl), damaged)

-- ---- the answer

module _ {K V : Type 0} (layout : Layout K V) (table : Table) (text : List ℕ) (params : Row) (old new : State) (rows : List Row) (shown : Shown text params old new rows) where
  pub shows_read : (read : Option (Vec V Global)) → AreRead layout rows read → IfOk (ok_or read (Damaged table)) (λ read. Shows layout text params old new read.items)
  shows_read (Some read) are = (are.0, subst (Shown text params old new) are.1 shown)
  shows_read None damage = tt

  pub fails_to_read : (read : Option (Vec V Global)) → AreRead layout rows read → IfErr (ok_or read (Damaged table)) (FailsToShow layout table text params old new)
  fails_to_read (Some read) are = tt
  fails_to_read None damage = (refl, rows, shown, damage)

-- ---- memory runs out

pub reads_memory : {A : Type 0} (old new : State) → Survives old new (λ _. ⊥) → (HasCleanDisk new → IsUnchanged old new) → (result : Result A ReadFault) → result ≡ Err Memory → ReadsOnly old new result
reads_memory old new survives same result is = reads_unchanged old new survives result (λ clean served. same clean) (λ clean t at. rw is tt) (λ clean stored at. rw is tt)
