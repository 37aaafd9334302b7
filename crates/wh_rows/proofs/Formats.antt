-- What holds in both formats.
use Rattle.std.proofs.Common.{◌≡◌, ℕ, List, [], ◌∷◌, length, arith, Ordering, true, false, Option, refl, sym, subst, ◌∙◌}
use Rattle.std.specs.Prelude.{IsTrue}
use Rattle.std.specs.List.{AllByRecursion}
use Rattle.std.specs.FinMap.{FinMap, empty, entries, len-entries, len-empty}
use Rattle.sqlite.specs.Tree.{Trees}
use Rattle.sqlite.specs.Order.{Row}
use Rattle.sqlite_schema.specs.declared.schema.Keys.{Keys}
use Rattle.sqlite.specs.Table.{Table}
use Rattle.sqlite_rules.specs.Keys.{conflicts}
use Rattle.sqlite_rules.specs.Action.{works}
use Rattle.wh_policy.specs.declared.format.Format.{Format}
use Rattle.wh_policy.specs.declared.format.Format.TheVariants.{One, Two}
use Rattle.wh_policy.specs.Formats.{is_two}
use Rattle.wh_rows.specs.Holds.{Layout}
use Rattle.wh_rows.specs.Tables.{HoldsIn}
use Rattle.wh_rows.specs.Schema.{warehouse, schema_in}

-- a row is in the way of the same rows in both, if it is in the second
pub same_conflicts : (target : Option (List ℕ)) (table : Table) (row other : Row) → conflicts target (schema_in Two).indexes table row other ≡ conflicts target warehouse.indexes table row other
    → (format : Format) → conflicts target (schema_in format).indexes table row other ≡ conflicts target warehouse.indexes table row other
same_conflicts target table row other second One = refl
same_conflicts target table row other second Two = second

-- no row of a table is referred to
pub nothing_works : (format : Format) (tree : ℕ) (keys : Keys) (olds news : List Row) → works (schema_in format) keys 0 tree olds news ≡ []
nothing_works One tree keys olds news = refl
nothing_works Two tree keys olds news = refl

-- ---- a table that the first format hasn't

pub no_values : {K V : Type 0} (R : K → K → Ordering) → entries (empty {K = K} {X = V} {R = R}) ≡ []
no_values {K} {V} R = no_entries (entries (empty {K = K} {X = V} {R = R})) (sym (len-entries (empty {K = K} {X = V} {R = R})) ∙ len-empty R V)
  where
    no_entries : (es : List (K × V)) → length es ≡ 0 → es ≡ []
    no_entries [] e = refl
    no_entries (x ∷ es) e = absurd (omega arith)

-- its keys are its rows', and its rows valid
pub keyed_in : {K V : Type 0} (format : Format) (layout : Layout K V) (trees : Trees) (rows : FinMap layout.order V) → HoldsIn format layout trees rows → AllByRecursion (λ e. e.0 ≡ layout.key e.1) (entries rows)
keyed_in {K} {V} One layout trees rows none = rw none (subst (AllByRecursion (λ (e : K × V). e.0 ≡ layout.key e.1)) (sym (no_values layout.order)) tt)
keyed_in Two layout trees rows held = held.keyed

pub valid_in : {K V : Type 0} (format : Format) (layout : Layout K V) (trees : Trees) (rows : FinMap layout.order V) → HoldsIn format layout trees rows → AllByRecursion (λ e. IsTrue (layout.is_valid e.1)) (entries rows)
valid_in {K} {V} One layout trees rows none = rw none (subst (AllByRecursion (λ (e : K × V). IsTrue (layout.is_valid e.1))) (sym (no_values layout.order)) tt)
valid_in Two layout trees rows held = held.valid

pub absent_in : {K V : Type 0} (format : Format) (layout : Layout K V) (trees : Trees) (rows : FinMap layout.order V) → is_two format ≡ false → HoldsIn format layout trees rows → rows ≡ empty
absent_in One layout trees rows not_there none = none
absent_in Two layout trees rows not_there held = absurd (cc)

-- a format that is the second
pub second_is : (format : Format) → is_two format ≡ true → format ≡ Two
second_is One second = absurd (cc)
second_is Two second = refl
