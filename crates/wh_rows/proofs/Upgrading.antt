-- Making the tables and indexes of the second format where the first stands over rows.
use Rattle.std.proofs.Common.{◌≡◌, ℕ, List, [], ◌∷◌, ◌++◌, map, inl, inr, Ok, refl, sym, ap, subst, ◌∙◌}
use Rattle.std.specs.Prelude.{nat_le, IsTrue}
use Rattle.std.specs.List.{AllByRecursion}
use Rattle.std.specs.List.Sorted.{IsPermutation}
use Rattle.std.specs.FinMap.{FinMap, values}
use Rattle.sqlite.specs.Table.{Table}
use Rattle.sqlite.specs.Tree.{Trees}
use Rattle.sqlite.specs.Schema.{Schema}
use Rattle.sqlite.specs.Change.{created, next_tree, KeepsRows}
use Rattle.sqlite.specs.Effect.{Database, IsDatabase}
use Rattle.sqlite.specs.Listing.{understood}
use Rattle.sqlite.specs.State.{State, Executes}
use Rattle.sqlite_tied.specs.Compute.{everything}
use Rattle.wh_policy.specs.declared.format.Format.TheVariants.{One, Two}
use Rattle.wh_policy.specs.Formats.{is_two}
use Rattle.wh_rows.specs.Schema as schema
use Rattle.wh_rows.specs.Schema.{warehouse, schema_in}
use Rattle.wh_rows.specs.Holds.{Layout, values_of, Holds, IsRising}
use Rattle.wh_rows.specs.Tables.{Tables, Stores}
use Rattle.wh_rows.specs.Rows as row
use Rattle.wh_rows.specs.Making.{MakesTable, Extends, LeadsOver, before_tree, upgrading_texts}
use Rattle.wh_rows.proofs.Making.{made, indexes, holds_none}
use Rattle.wh_rows.proofs.Formats.{absent_in}

-- ---- the schemas on the way

abbrev with_fact2 : Schema
with_fact2 = created warehouse (record schema.fact2 { tree = 0 })

abbrev with_void : Schema
with_void = created with_fact2 (record schema.void { tree = 0 })

makes_fact2 : MakesTable warehouse schema.create_fact2 with_fact2
unfolding understood everything
makes_fact2 = record { command = refl; whole = refl; plain = (refl, refl); table = record schema.fact2 { tree = 0 }; defined = refl; is = refl; uncounted = refl }

makes_void : MakesTable with_fact2 schema.create_void with_void
unfolding understood everything
makes_void = record { command = refl; whole = refl; plain = (refl, refl); table = record schema.void { tree = 0 }; defined = refl; is = refl; uncounted = refl }

is_second : with_void ≡ schema_in Two
unfolding everything
is_second = refl

-- the texts lead from the one format to the other, and each table that they make lies behind the trees of the first
pub makes_second : LeadsOver 22 (schema_in One) upgrading_texts (schema_in Two)
makes_second = (
  with_fact2,
  inl makes_fact2,
  refl,
  (
    with_void,
    inl makes_void,
    refl,
    is_second,
  ),
)

-- ---- what a text leaves of rows

kept_on : (tables : List Table) (aim old new : Trees) → KeepsRows tables old new → KeepsRows tables aim old → KeepsRows tables aim new
kept_on [] aim old new kept so = tt
kept_on (t ∷ ts) aim old new kept so = (kept.0 ∙ so.0, kept_on ts aim old new kept.1 so.1)

one_more : (tables : List Table) (t : Table) (aim trees : Trees) → KeepsRows tables aim trees → trees t.tree ≡ aim t.tree → KeepsRows (tables ++ t ∷ []) aim trees
one_more [] t aim trees so last = (last, tt)
one_more (x ∷ xs) t aim trees so last = (so.0, one_more xs t aim trees so.1 last)

no_row : (least tree : ℕ) (old : Trees) → IsTrue (nat_le least tree) → before_tree least old tree ≡ []
no_row least tree old behind = rw behind refl

-- run where the one schema stands over the rows of some trees, and over none behind them, the text leaves the other schema over them
pub extended_over : (least : ℕ) (aim : Trees) (from : Schema) (text : List ℕ) (to : Schema) → Extends from text to → IsTrue (nat_le least (next_tree from)) → (old new : State) (count : ℕ) → old.now.schema ≡ from
    → KeepsRows from.tables (before_tree least aim) old.now.trees → Executes text [] old new (Ok count) → (new.now.schema ≡ to) × KeepsRows to.tables (before_tree least aim) new.now.trees
extended_over least aim from text to (inl it) behind old new count has so ran =
    let done = made from text to it old new count has ran in
    let rest = kept_on from.tables (before_tree least aim) old.now.trees new.now.trees done.kept so in
    let last : new.now.trees (next_tree from) ≡ before_tree least aim (next_tree from) = done.empty ∙ sym (no_row least (next_tree from) aim behind) in
    (done.schema, subst (λ (s : Schema). KeepsRows s.tables (before_tree least aim) new.now.trees) it.is (one_more from.tables (record it.table { tree = next_tree from }) (before_tree least aim) new.now.trees rest last))
extended_over least aim from text to (inr it) behind old new count has so ran =
    let done = indexes from text to it old new count has ran in
    (done.0, subst (λ (s : Schema). KeepsRows s.tables (before_tree least aim) new.now.trees) it.is (kept_on from.tables (before_tree least aim) old.now.trees new.now.trees done.1 so))

-- ---- the tables then

held_on : {K V : Type 0} (layout : Layout K V) (old new : Trees) (rows : FinMap layout.order V) → new layout.table.tree ≡ old layout.table.tree → Holds layout old rows → Holds layout new rows
held_on layout old new rows same held = record { rows_are = subst (λ l. IsPermutation (map (values_of layout.table) l) (map layout.encode (values rows))) (sym same) held.rows_are; keyed = held.keyed; valid = held.valid }

-- a database of the first format, with the trees of the second and no row in them, stores the same tables in the second
pub stores_second : (old new : Database) (t : Tables) → t.format ≡ One → Stores old t → new.schema ≡ schema_in Two → IsDatabase new → KeepsRows (schema_in Two).tables (before_tree 22 old.trees) new.trees
    → Stores new (record t { format = Two })
stores_second old new t first stored is sound so = record {
  schema = is;
  sound = sound;
  rising = all_rising;
  meta = held_on row.meta old.trees new.trees t.meta so.0 stored.meta;
  command = held_on row.command old.trees new.trees t.command so.1.0 stored.command;
  member = held_on row.member old.trees new.trees t.member so.1.1.0 stored.member;
  change = held_on row.change old.trees new.trees t.change so.1.1.1.0 stored.change;
  product = held_on row.product old.trees new.trees t.product so.1.1.1.1.0 stored.product;
  store = held_on row.store old.trees new.trees t.store so.1.1.1.1.1.0 stored.store;
  customer = held_on row.customer old.trees new.trees t.customer so.1.1.1.1.1.1.0 stored.customer;
  profile = held_on row.profile old.trees new.trees t.profile so.1.1.1.1.1.1.1.0 stored.profile;
  calendar = held_on row.calendar old.trees new.trees t.calendar so.1.1.1.1.1.1.1.1.0 stored.calendar;
  fact = held_on row.fact old.trees new.trees t.fact so.1.1.1.1.1.1.1.1.1.0 stored.fact;
  fact2 = subst (Holds row.fact2 new.trees) (sym (absent_in t.format row.fact2 old.trees t.fact2 (ap is_two first) stored.fact2)) (holds_none row.fact2 new.trees so.1.1.1.1.1.1.1.1.1.1.0);
  void = subst (Holds row.void new.trees) (sym (absent_in t.format row.void old.trees t.void (ap is_two first) stored.void)) (holds_none row.void new.trees so.1.1.1.1.1.1.1.1.1.1.1.0);
}
  where
    all_rising : AllByRecursion (λ table. IsRising (new.trees table.tree)) (schema_in Two).tables
    all_rising =
        let r = stored.rising in
        let none : IsRising [] = (tt, tt) in
        (subst IsRising (sym so.0) r.0, (subst IsRising (sym so.1.0) r.1.0, (subst IsRising (sym so.1.1.0) r.1.1.0, (subst IsRising (sym so.1.1.1.0) r.1.1.1.0, (subst IsRising (sym so.1.1.1.1.0) r.1.1.1.1.0, (subst IsRising (sym so.1.1.1.1.1.0) r.1.1.1.1.1.0, (subst IsRising (sym so.1.1.1.1.1.1.0) r.1.1.1.1.1.1.0, (subst IsRising (sym so.1.1.1.1.1.1.1.0) r.1.1.1.1.1.1.1.0, (subst IsRising (sym so.1.1.1.1.1.1.1.1.0) r.1.1.1.1.1.1.1.1.0, (subst IsRising (sym so.1.1.1.1.1.1.1.1.1.0) r.1.1.1.1.1.1.1.1.1.0, (subst IsRising (sym so.1.1.1.1.1.1.1.1.1.1.0) none, (subst IsRising (sym so.1.1.1.1.1.1.1.1.1.1.1.0) none, tt))))))))))))
