-- A table's place among the tables.
use Rattle.std.specs.Prelude.{◌≡◌, Bool, false, IsTrue}
use Rattle.std.specs.List.{AllByRecursion}
use Rattle.std.specs.Cmp.{IsTotalOrder}
use Rattle.std.specs.FinMap.{FinMap, empty, entries, IsAntisymmetric}
use Rattle.sqlite.specs.Effect.{Database}
use Rattle.wh_policy.specs.declared.format.Format.{Format}
use Rattle.wh_rows.specs.Schema.{schema_in}
use Rattle.wh_rows.specs.Holds.{Layout, Holds, IsRising}
use Rattle.wh_rows.specs.OneTable.{LeavesOthers}
use Rattle.wh_rows.specs.Tables.{Tables, Stores}

-- which of the tables has this layout, and in which formats, and that a change of its rows leaves the others
pub record IsPlaced {K V : Type 0} (layout : Layout K V) (rows : Tables → FinMap layout.order V) (with_rows : FinMap layout.order V → Tables → Tables) (is_in : Format → Bool) : Type 0 where
  -- no two valid rows stand alike in the columns
  pub once : (v w : V) → IsTrue (layout.is_valid v) → IsTrue (layout.is_valid w) → layout.encode v ≡ layout.encode w → v ≡ w
  pub total : IsTotalOrder layout.order
  pub same : IsAntisymmetric layout.order
  pub held : (db : Database) (t : Tables) → Stores db t → IsTrue (is_in t.format) → Holds layout db.trees (rows t)
  pub absent : (db : Database) (t : Tables) → Stores db t → is_in t.format ≡ false → rows t ≡ empty
  pub keyed : (db : Database) (t : Tables) → Stores db t → AllByRecursion (λ e. e.0 ≡ layout.key e.1) (entries (rows t))
  pub valid : (db : Database) (t : Tables) → Stores db t → AllByRecursion (λ e. IsTrue (layout.is_valid e.1)) (entries (rows t))
  pub rising : (db : Database) (t : Tables) → Stores db t → IsTrue (is_in t.format) → IsRising (db.trees layout.table.tree)
  pub changed : (old new : Database) (t : Tables) (m : FinMap layout.order V) → IsTrue (is_in t.format) → LeavesOthers (schema_in t.format) layout.table old new → Holds layout new.trees m → Stores old t → Stores new (with_rows m t)
  -- other rows in the table are its rows then, and the last ones count
  pub same_format : (m : FinMap layout.order V) (t : Tables) → (with_rows m t).format ≡ t.format
  pub put_in : (m : FinMap layout.order V) (t : Tables) → rows (with_rows m t) ≡ m
  pub put_again : (m n : FinMap layout.order V) (t : Tables) → with_rows m (with_rows n t) ≡ with_rows m t
  pub put_back : (t : Tables) → with_rows (rows t) t ≡ t
