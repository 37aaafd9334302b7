-- The rows of meta, and the limits that they say.
use Rattle.std.proofs.Common.{◌≡◌, ◌⊎◌, inl, inr, ℕ, ℤ, Bool, true, false, cond, List, [], ◌∷◌, Option, Some, None, sym, ap, subst, ◌∙◌}
use Rattle.std.specs.Prelude.{codes}
use Rattle.std.specs.Ordering.{eq_by_cmp, nat_cmp}
use Rattle.std.specs.Cmp.Lexicographic.{slice_cmp}
use Rattle.wh_history.specs.Tables.{Limits}
use Rattle.wh_model.specs.Defined.{meta_at}
use Rattle.wh_rows.specs.Keys.{stands_at_text}
use Rattle.wh_rows.specs.Raw.{Stored, HasDamage}
use Rattle.wh_rows.specs.Rows as row
use Rattle.wh_rows.specs.declared.rows.MetaRow.{MetaRow}
use Rattle.wh_rows.specs.declared.table.Table.TheVariants.{Meta}
use Rattle.wh_rows.proofs.Keys.{equal-Text, and-true}
use Rattle.wh_rows.proofs.Places as places
use Rattle.wh_store.specs.Meta.{meta_number, limits_of_numbers}
use Rattle.wh_store.specs.Raw.{LimitsAre, IsNumberIn, IsLimitless, rows_named}
use Rattle.wh_sql.specs.declared.fault.ReadFault.TheVariants as fault
use Rattle.wh_rows.specs.declared.table.Table.{Table}
use Rattle.sqlite.specs.Order.{Row}
use Rattle.sqlite_rules.specs.Lists.{Has}
use Rattle.wh_history.proofs.Basics.{some_is}
use Rattle.wh_checking.specs.Compared.{AreRowsOrNot}
use Rattle.wh_checking.specs.Meta.{AreLimitsSaid}
use Rattle.wh_checking.proofs.Comparing.{kept_has}
use Rattle.wh_admission.specs.Checked.{AreRowsAt, SaysLimits}
use Rattle.wh_admission.proofs.StoredMaps.{undamaged}
use Rattle.wh_checking.proofs.FoundRows.{found_at}
use Rattle.wh_admission.proofs.CheckedTables.{meta_keyed}

-- ---- the limits that are read

stands_so : (k : List ℕ) (v : MetaRow) → stands_at_text k (row.meta.encode v) ≡ eq_by_cmp (slice_cmp nat_cmp) k v.name
stands_so k v = and-true _ ∙ equal-Text v.name k

number_read : (stored : Stored) (limits : Limits) → AreRowsAt row.meta (meta_at stored.format limits) (stored.rows Meta) → (name : List ℕ) (number : Option ℤ) → IsNumberIn stored name number → number ≡ meta_number (meta_at stored.format limits name)
number_read stored limits are name number it =
    it.2 ∙ ap meta_number (found_at row.meta places.meta.total places.meta.once stands_at_text stands_so (meta_at stored.format limits) (meta_keyed stored.format limits) (stored.rows Meta) are name it.0 it.1)

-- the limits that are read by their names are those that meta says
pub limits_read : (stored : Stored) (limits : Limits) (told : Option Limits) → SaysLimits stored limits → LimitsAre stored told → told ≡ Some limits
limits_read stored limits told says are =
    let (commands, changes, facts, first, second, third, is) = are in
    let c = number_read stored limits says.defined (codes "commands_max") commands first in
    let h = number_read stored limits says.defined (codes "changes_max") changes second in
    let f = number_read stored limits says.defined (codes "facts_max") facts third in
    sym is ∙ (λ i. limits_of_numbers (c i) (h i) (f i)) ∙ ap (λ b. cond b (Some limits) None) says.good

-- ---- what is told

pub undamaged_by : (stored : List Row) (row_at : List ℕ → Option MetaRow) (same : Bool) → AreRowsOrNot row.meta row_at stored same → ¬ HasDamage row.meta stored
undamaged_by stored row_at true told = undamaged row.meta places.meta.total stored row_at told
undamaged_by stored row_at false told = told.1

-- limits that were read, and that meta doesn't say, are said by none
pub no_limits : (stored : Stored) (limits : Limits) → LimitsAre stored (Some limits) → AreRowsOrNot row.meta (meta_at stored.format limits) (stored.rows Meta) false → AreLimitsSaid stored None
no_limits stored limits read told = (
  λ others says. let same : limits ≡ others = some_is limits others (limits_read stored others (Some limits) says read) in told.0 (subst (λ l. AreRowsAt row.meta (meta_at stored.format l) (stored.rows Meta)) (sym same) says.defined),
  told.1,
)

named_damage : (stored : Stored) (name : List ℕ) → HasDamage row.meta (rows_named stored name) → HasDamage row.meta (stored.rows Meta)
named_damage stored name damage = (damage.0, kept_has (stands_at_text name) (stored.rows Meta) damage.0 damage.1, damage.2)

-- nor are any said where none were read
pub none_read : (stored : Stored) (which : Table) → IsLimitless stored (fault.Damaged which) → ¬ HasDamage row.meta (stored.rows Meta) → AreLimitsSaid stored None
none_read stored which none undamaged = (λ limits says. go none.1 limits says, undamaged)
  where
    none_some : (limits : Limits) → ◌≡◌ {A = Option Limits} None (Some limits) → ⊥
    none_some limits h = cc

    go : (LimitsAre stored None ⊎ ((name : List ℕ) × Has (codes "commands_max" ∷ codes "changes_max" ∷ codes "facts_max" ∷ []) name × HasDamage row.meta (rows_named stored name))) → (limits : Limits) → SaysLimits stored limits → ⊥
    go (inl read) limits says = none_some limits (limits_read stored limits None says read)
    go (inr bad) limits says = undamaged (named_damage stored bad.0 bad.2)
