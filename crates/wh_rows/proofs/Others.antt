-- A change of one table leaves the nine others as they are.
use Rattle.std.specs.Prelude.{IsTrue}
use Rattle.std.proofs.Common.{◌≡◌, ◌≢◌, inl, inr, ℕ, zero, suc, map, List, [], ◌∷◌, false, true, ◌==◌, Some, slice_get, refl, sym, subst}
use Rattle.std.specs.FinMap.{FinMap, values}
use Rattle.std.specs.List.Sorted.{IsPermutation}
use Rattle.std.specs.List.{AllByRecursion}
use Rattle.std.proofs.lemmas.Bool.{cases_eq, eqb-false}
use Rattle.sqlite.specs.Tree.{Trees}
use Rattle.sqlite.specs.Table.{Table}
use Rattle.sqlite.specs.Effect.{Database}
use Rattle.wh_policy.specs.declared.format.Format.{Format}
use Rattle.wh_policy.specs.declared.format.Format.TheVariants.{One, Two}
use Rattle.wh_policy.specs.Formats.{is_two}
use Rattle.wh_rows.specs.Schema.{schema_in}
use Rattle.wh_rows.specs.Holds.{Layout, Holds, values_of, IsRising}
use Rattle.wh_rows.specs.OneTable.{LeavesOthers}
use Rattle.wh_rows.specs.Tables.{Tables, Stores, HoldsIn}
use Rattle.wh_day.specs.declared.calendar.DateRow.{DateRow}
use Rattle.wh_history.specs.declared.rows.DimRow.{DimRow}
use Rattle.wh_history.specs.declared.facts.Fact.{Fact}
use Rattle.wh_rows.specs.declared.rows.MetaRow.{MetaRow}
use Rattle.wh_rows.specs.declared.rows.CommandRow.{CommandRow}
use Rattle.wh_rows.specs.declared.rows.MemberRow.{MemberRow}
use Rattle.wh_rows.specs.declared.rows.ChangeRow.{ChangeRow}
use Rattle.wh_rows.specs.declared.rows.ProfileRow.{ProfileRow}
use Rattle.wh_rows.specs.declared.rows.VoidRow.{VoidRow}
use Rattle.wh_rows.specs.Rows as row

pub rising_kept : (tables : List Table) (tree : ℕ) (old new : Trees) → AllByRecursion (λ t. t.tree ≢ tree → new t.tree ≡ old t.tree) tables → IsRising (new tree)
    → AllByRecursion (λ t. IsRising (old t.tree)) tables → AllByRecursion (λ t. IsRising (new t.tree)) tables
rising_kept [] tree old new others here all = tt
rising_kept (t ∷ ts) tree old new others here all =
    let first : IsRising (new t.tree) = elim (cases_eq t.tree tree) [ inl same ↦ subst (λ n. IsRising (new n)) (sym same) here | inr apart ↦ subst IsRising (sym (others.0 apart)) all.0 ] in
    (first, rising_kept ts tree old new others.1 here all.1)

-- a table at this place
pub at_place : (P : Table → Type 0) (tables : List Table) (at : ℕ) (table : Table) → slice_get tables at ≡ Some table → AllByRecursion P tables → P table
at_place P [] at table is all = absurd (cc)
at_place P (t ∷ ts) zero table is all = let same : t ≡ table = cc in subst P same all.0
at_place P (t ∷ ts) (suc at) table is all = at_place P ts at table is all.1

module _ (format : Format) (changed : Table) (old new : Database) (left : LeavesOthers (schema_in format) changed old new) where
  pub kept : {K V : Type 0} (layout : Layout K V) (at : ℕ) (rows : FinMap layout.order V) → slice_get (schema_in format).tables at ≡ Some layout.table → (layout.table.tree == changed.tree) ≡ false
      → Holds layout old.trees rows → Holds layout new.trees rows
  kept layout at rows here apart held =
      let same = at_place (λ t. t.tree ≢ changed.tree → new.trees t.tree ≡ old.trees t.tree) (schema_in format).tables at layout.table here left.others (eqb-false _ _ apart) in
      record { rows_are = subst (λ l. IsPermutation (map (values_of layout.table) l) (map layout.encode (values rows))) (sym same) held.rows_are; keyed = held.keyed; valid = held.valid }

-- so it is of a table that only the second format has
pub kept_in : (format : Format) (changed : Table) (old new : Database) → LeavesOthers (schema_in format) changed old new → {K V : Type 0} (layout : Layout K V) (at : ℕ) (rows : FinMap layout.order V)
    → slice_get (schema_in Two).tables at ≡ Some layout.table → (layout.table.tree == changed.tree) ≡ false → HoldsIn format layout old.trees rows → HoldsIn format layout new.trees rows
kept_in One changed old new left layout at rows here apart held = held
kept_in Two changed old new left layout at rows here apart held = kept Two changed old new left layout at rows here apart held

-- it holds rows where the format has it
pub held_in : {K V : Type 0} (format : Format) (layout : Layout K V) (trees : Trees) (rows : FinMap layout.order V) → IsTrue (is_two format) → Holds layout trees rows → HoldsIn format layout trees rows
held_in One layout trees rows two held = absurd (cc)
held_in Two layout trees rows two held = held

pub holds_in : {K V : Type 0} (format : Format) (layout : Layout K V) (trees : Trees) (rows : FinMap layout.order V) → IsTrue (is_two format) → HoldsIn format layout trees rows → Holds layout trees rows
holds_in One layout trees rows two held = absurd (cc)
holds_in Two layout trees rows two held = held

-- its rowids rise there
pub rising_in : (format : Format) (trees : Trees) (at : ℕ) (table : Table) → slice_get (schema_in Two).tables at ≡ Some table → IsTrue (is_two format) → AllByRecursion (λ t. IsRising (trees t.tree)) (schema_in format).tables → IsRising (trees table.tree)
rising_in One trees at table here two all = absurd (cc)
rising_in Two trees at table here two all = at_place (λ t. IsRising (trees t.tree)) (schema_in Two).tables at table here all

pub meta_changed : (old new : Database) (tables : Tables) (rows : FinMap row.meta.order MetaRow) → IsTrue true → LeavesOthers (schema_in tables.format) row.meta.table old new → Holds row.meta new.trees rows → Stores old tables
    → Stores new (record tables { meta = rows })
meta_changed old new tables rows there left held stored = record {
  schema = left.schema;
  sound = left.sound;
  rising = rising_kept (schema_in tables.format).tables row.meta.table.tree old.trees new.trees left.others left.rising stored.rising;
  meta = held;
  command = kept tables.format row.meta.table old new left row.command 1 tables.command refl refl stored.command;
  member = kept tables.format row.meta.table old new left row.member 2 tables.member refl refl stored.member;
  change = kept tables.format row.meta.table old new left row.change 3 tables.change refl refl stored.change;
  product = kept tables.format row.meta.table old new left row.product 4 tables.product refl refl stored.product;
  store = kept tables.format row.meta.table old new left row.store 5 tables.store refl refl stored.store;
  customer = kept tables.format row.meta.table old new left row.customer 6 tables.customer refl refl stored.customer;
  profile = kept tables.format row.meta.table old new left row.profile 7 tables.profile refl refl stored.profile;
  calendar = kept tables.format row.meta.table old new left row.calendar 8 tables.calendar refl refl stored.calendar;
  fact = kept tables.format row.meta.table old new left row.fact 9 tables.fact refl refl stored.fact;
  fact2 = kept_in tables.format row.meta.table old new left row.fact2 10 tables.fact2 refl refl stored.fact2;
  void = kept_in tables.format row.meta.table old new left row.void 11 tables.void refl refl stored.void;
}

pub command_changed : (old new : Database) (tables : Tables) (rows : FinMap row.command.order CommandRow) → IsTrue true → LeavesOthers (schema_in tables.format) row.command.table old new → Holds row.command new.trees rows → Stores old tables
    → Stores new (record tables { command = rows })
command_changed old new tables rows there left held stored = record {
  schema = left.schema;
  sound = left.sound;
  rising = rising_kept (schema_in tables.format).tables row.command.table.tree old.trees new.trees left.others left.rising stored.rising;
  meta = kept tables.format row.command.table old new left row.meta 0 tables.meta refl refl stored.meta;
  command = held;
  member = kept tables.format row.command.table old new left row.member 2 tables.member refl refl stored.member;
  change = kept tables.format row.command.table old new left row.change 3 tables.change refl refl stored.change;
  product = kept tables.format row.command.table old new left row.product 4 tables.product refl refl stored.product;
  store = kept tables.format row.command.table old new left row.store 5 tables.store refl refl stored.store;
  customer = kept tables.format row.command.table old new left row.customer 6 tables.customer refl refl stored.customer;
  profile = kept tables.format row.command.table old new left row.profile 7 tables.profile refl refl stored.profile;
  calendar = kept tables.format row.command.table old new left row.calendar 8 tables.calendar refl refl stored.calendar;
  fact = kept tables.format row.command.table old new left row.fact 9 tables.fact refl refl stored.fact;
  fact2 = kept_in tables.format row.command.table old new left row.fact2 10 tables.fact2 refl refl stored.fact2;
  void = kept_in tables.format row.command.table old new left row.void 11 tables.void refl refl stored.void;
}

pub member_changed : (old new : Database) (tables : Tables) (rows : FinMap row.member.order MemberRow) → IsTrue true → LeavesOthers (schema_in tables.format) row.member.table old new → Holds row.member new.trees rows → Stores old tables
    → Stores new (record tables { member = rows })
member_changed old new tables rows there left held stored = record {
  schema = left.schema;
  sound = left.sound;
  rising = rising_kept (schema_in tables.format).tables row.member.table.tree old.trees new.trees left.others left.rising stored.rising;
  meta = kept tables.format row.member.table old new left row.meta 0 tables.meta refl refl stored.meta;
  command = kept tables.format row.member.table old new left row.command 1 tables.command refl refl stored.command;
  member = held;
  change = kept tables.format row.member.table old new left row.change 3 tables.change refl refl stored.change;
  product = kept tables.format row.member.table old new left row.product 4 tables.product refl refl stored.product;
  store = kept tables.format row.member.table old new left row.store 5 tables.store refl refl stored.store;
  customer = kept tables.format row.member.table old new left row.customer 6 tables.customer refl refl stored.customer;
  profile = kept tables.format row.member.table old new left row.profile 7 tables.profile refl refl stored.profile;
  calendar = kept tables.format row.member.table old new left row.calendar 8 tables.calendar refl refl stored.calendar;
  fact = kept tables.format row.member.table old new left row.fact 9 tables.fact refl refl stored.fact;
  fact2 = kept_in tables.format row.member.table old new left row.fact2 10 tables.fact2 refl refl stored.fact2;
  void = kept_in tables.format row.member.table old new left row.void 11 tables.void refl refl stored.void;
}

pub change_changed : (old new : Database) (tables : Tables) (rows : FinMap row.change.order ChangeRow) → IsTrue true → LeavesOthers (schema_in tables.format) row.change.table old new → Holds row.change new.trees rows → Stores old tables
    → Stores new (record tables { change = rows })
change_changed old new tables rows there left held stored = record {
  schema = left.schema;
  sound = left.sound;
  rising = rising_kept (schema_in tables.format).tables row.change.table.tree old.trees new.trees left.others left.rising stored.rising;
  meta = kept tables.format row.change.table old new left row.meta 0 tables.meta refl refl stored.meta;
  command = kept tables.format row.change.table old new left row.command 1 tables.command refl refl stored.command;
  member = kept tables.format row.change.table old new left row.member 2 tables.member refl refl stored.member;
  change = held;
  product = kept tables.format row.change.table old new left row.product 4 tables.product refl refl stored.product;
  store = kept tables.format row.change.table old new left row.store 5 tables.store refl refl stored.store;
  customer = kept tables.format row.change.table old new left row.customer 6 tables.customer refl refl stored.customer;
  profile = kept tables.format row.change.table old new left row.profile 7 tables.profile refl refl stored.profile;
  calendar = kept tables.format row.change.table old new left row.calendar 8 tables.calendar refl refl stored.calendar;
  fact = kept tables.format row.change.table old new left row.fact 9 tables.fact refl refl stored.fact;
  fact2 = kept_in tables.format row.change.table old new left row.fact2 10 tables.fact2 refl refl stored.fact2;
  void = kept_in tables.format row.change.table old new left row.void 11 tables.void refl refl stored.void;
}

pub product_changed : (old new : Database) (tables : Tables) (rows : FinMap row.product.order DimRow) → IsTrue true → LeavesOthers (schema_in tables.format) row.product.table old new → Holds row.product new.trees rows → Stores old tables
    → Stores new (record tables { product = rows })
product_changed old new tables rows there left held stored = record {
  schema = left.schema;
  sound = left.sound;
  rising = rising_kept (schema_in tables.format).tables row.product.table.tree old.trees new.trees left.others left.rising stored.rising;
  meta = kept tables.format row.product.table old new left row.meta 0 tables.meta refl refl stored.meta;
  command = kept tables.format row.product.table old new left row.command 1 tables.command refl refl stored.command;
  member = kept tables.format row.product.table old new left row.member 2 tables.member refl refl stored.member;
  change = kept tables.format row.product.table old new left row.change 3 tables.change refl refl stored.change;
  product = held;
  store = kept tables.format row.product.table old new left row.store 5 tables.store refl refl stored.store;
  customer = kept tables.format row.product.table old new left row.customer 6 tables.customer refl refl stored.customer;
  profile = kept tables.format row.product.table old new left row.profile 7 tables.profile refl refl stored.profile;
  calendar = kept tables.format row.product.table old new left row.calendar 8 tables.calendar refl refl stored.calendar;
  fact = kept tables.format row.product.table old new left row.fact 9 tables.fact refl refl stored.fact;
  fact2 = kept_in tables.format row.product.table old new left row.fact2 10 tables.fact2 refl refl stored.fact2;
  void = kept_in tables.format row.product.table old new left row.void 11 tables.void refl refl stored.void;
}

pub store_changed : (old new : Database) (tables : Tables) (rows : FinMap row.store.order DimRow) → IsTrue true → LeavesOthers (schema_in tables.format) row.store.table old new → Holds row.store new.trees rows → Stores old tables
    → Stores new (record tables { store = rows })
store_changed old new tables rows there left held stored = record {
  schema = left.schema;
  sound = left.sound;
  rising = rising_kept (schema_in tables.format).tables row.store.table.tree old.trees new.trees left.others left.rising stored.rising;
  meta = kept tables.format row.store.table old new left row.meta 0 tables.meta refl refl stored.meta;
  command = kept tables.format row.store.table old new left row.command 1 tables.command refl refl stored.command;
  member = kept tables.format row.store.table old new left row.member 2 tables.member refl refl stored.member;
  change = kept tables.format row.store.table old new left row.change 3 tables.change refl refl stored.change;
  product = kept tables.format row.store.table old new left row.product 4 tables.product refl refl stored.product;
  store = held;
  customer = kept tables.format row.store.table old new left row.customer 6 tables.customer refl refl stored.customer;
  profile = kept tables.format row.store.table old new left row.profile 7 tables.profile refl refl stored.profile;
  calendar = kept tables.format row.store.table old new left row.calendar 8 tables.calendar refl refl stored.calendar;
  fact = kept tables.format row.store.table old new left row.fact 9 tables.fact refl refl stored.fact;
  fact2 = kept_in tables.format row.store.table old new left row.fact2 10 tables.fact2 refl refl stored.fact2;
  void = kept_in tables.format row.store.table old new left row.void 11 tables.void refl refl stored.void;
}

pub customer_changed : (old new : Database) (tables : Tables) (rows : FinMap row.customer.order DimRow) → IsTrue true → LeavesOthers (schema_in tables.format) row.customer.table old new → Holds row.customer new.trees rows → Stores old tables
    → Stores new (record tables { customer = rows })
customer_changed old new tables rows there left held stored = record {
  schema = left.schema;
  sound = left.sound;
  rising = rising_kept (schema_in tables.format).tables row.customer.table.tree old.trees new.trees left.others left.rising stored.rising;
  meta = kept tables.format row.customer.table old new left row.meta 0 tables.meta refl refl stored.meta;
  command = kept tables.format row.customer.table old new left row.command 1 tables.command refl refl stored.command;
  member = kept tables.format row.customer.table old new left row.member 2 tables.member refl refl stored.member;
  change = kept tables.format row.customer.table old new left row.change 3 tables.change refl refl stored.change;
  product = kept tables.format row.customer.table old new left row.product 4 tables.product refl refl stored.product;
  store = kept tables.format row.customer.table old new left row.store 5 tables.store refl refl stored.store;
  customer = held;
  profile = kept tables.format row.customer.table old new left row.profile 7 tables.profile refl refl stored.profile;
  calendar = kept tables.format row.customer.table old new left row.calendar 8 tables.calendar refl refl stored.calendar;
  fact = kept tables.format row.customer.table old new left row.fact 9 tables.fact refl refl stored.fact;
  fact2 = kept_in tables.format row.customer.table old new left row.fact2 10 tables.fact2 refl refl stored.fact2;
  void = kept_in tables.format row.customer.table old new left row.void 11 tables.void refl refl stored.void;
}

pub profile_changed : (old new : Database) (tables : Tables) (rows : FinMap row.profile.order ProfileRow) → IsTrue true → LeavesOthers (schema_in tables.format) row.profile.table old new → Holds row.profile new.trees rows → Stores old tables
    → Stores new (record tables { profile = rows })
profile_changed old new tables rows there left held stored = record {
  schema = left.schema;
  sound = left.sound;
  rising = rising_kept (schema_in tables.format).tables row.profile.table.tree old.trees new.trees left.others left.rising stored.rising;
  meta = kept tables.format row.profile.table old new left row.meta 0 tables.meta refl refl stored.meta;
  command = kept tables.format row.profile.table old new left row.command 1 tables.command refl refl stored.command;
  member = kept tables.format row.profile.table old new left row.member 2 tables.member refl refl stored.member;
  change = kept tables.format row.profile.table old new left row.change 3 tables.change refl refl stored.change;
  product = kept tables.format row.profile.table old new left row.product 4 tables.product refl refl stored.product;
  store = kept tables.format row.profile.table old new left row.store 5 tables.store refl refl stored.store;
  customer = kept tables.format row.profile.table old new left row.customer 6 tables.customer refl refl stored.customer;
  profile = held;
  calendar = kept tables.format row.profile.table old new left row.calendar 8 tables.calendar refl refl stored.calendar;
  fact = kept tables.format row.profile.table old new left row.fact 9 tables.fact refl refl stored.fact;
  fact2 = kept_in tables.format row.profile.table old new left row.fact2 10 tables.fact2 refl refl stored.fact2;
  void = kept_in tables.format row.profile.table old new left row.void 11 tables.void refl refl stored.void;
}

pub calendar_changed : (old new : Database) (tables : Tables) (rows : FinMap row.calendar.order DateRow) → IsTrue true → LeavesOthers (schema_in tables.format) row.calendar.table old new → Holds row.calendar new.trees rows → Stores old tables
    → Stores new (record tables { calendar = rows })
calendar_changed old new tables rows there left held stored = record {
  schema = left.schema;
  sound = left.sound;
  rising = rising_kept (schema_in tables.format).tables row.calendar.table.tree old.trees new.trees left.others left.rising stored.rising;
  meta = kept tables.format row.calendar.table old new left row.meta 0 tables.meta refl refl stored.meta;
  command = kept tables.format row.calendar.table old new left row.command 1 tables.command refl refl stored.command;
  member = kept tables.format row.calendar.table old new left row.member 2 tables.member refl refl stored.member;
  change = kept tables.format row.calendar.table old new left row.change 3 tables.change refl refl stored.change;
  product = kept tables.format row.calendar.table old new left row.product 4 tables.product refl refl stored.product;
  store = kept tables.format row.calendar.table old new left row.store 5 tables.store refl refl stored.store;
  customer = kept tables.format row.calendar.table old new left row.customer 6 tables.customer refl refl stored.customer;
  profile = kept tables.format row.calendar.table old new left row.profile 7 tables.profile refl refl stored.profile;
  calendar = held;
  fact = kept tables.format row.calendar.table old new left row.fact 9 tables.fact refl refl stored.fact;
  fact2 = kept_in tables.format row.calendar.table old new left row.fact2 10 tables.fact2 refl refl stored.fact2;
  void = kept_in tables.format row.calendar.table old new left row.void 11 tables.void refl refl stored.void;
}

pub fact_changed : (old new : Database) (tables : Tables) (rows : FinMap row.fact.order Fact) → IsTrue true → LeavesOthers (schema_in tables.format) row.fact.table old new → Holds row.fact new.trees rows → Stores old tables
    → Stores new (record tables { fact = rows })
fact_changed old new tables rows there left held stored = record {
  schema = left.schema;
  sound = left.sound;
  rising = rising_kept (schema_in tables.format).tables row.fact.table.tree old.trees new.trees left.others left.rising stored.rising;
  meta = kept tables.format row.fact.table old new left row.meta 0 tables.meta refl refl stored.meta;
  command = kept tables.format row.fact.table old new left row.command 1 tables.command refl refl stored.command;
  member = kept tables.format row.fact.table old new left row.member 2 tables.member refl refl stored.member;
  change = kept tables.format row.fact.table old new left row.change 3 tables.change refl refl stored.change;
  product = kept tables.format row.fact.table old new left row.product 4 tables.product refl refl stored.product;
  store = kept tables.format row.fact.table old new left row.store 5 tables.store refl refl stored.store;
  customer = kept tables.format row.fact.table old new left row.customer 6 tables.customer refl refl stored.customer;
  profile = kept tables.format row.fact.table old new left row.profile 7 tables.profile refl refl stored.profile;
  calendar = kept tables.format row.fact.table old new left row.calendar 8 tables.calendar refl refl stored.calendar;
  fact = held;
  fact2 = kept_in tables.format row.fact.table old new left row.fact2 10 tables.fact2 refl refl stored.fact2;
  void = kept_in tables.format row.fact.table old new left row.void 11 tables.void refl refl stored.void;
}

pub fact2_changed : (old new : Database) (tables : Tables) (rows : FinMap row.fact2.order Fact) → IsTrue (is_two tables.format) → LeavesOthers (schema_in tables.format) row.fact2.table old new → Holds row.fact2 new.trees rows → Stores old tables
    → Stores new (record tables { fact2 = rows })
fact2_changed old new tables rows there left held stored = record {
  schema = left.schema;
  sound = left.sound;
  rising = rising_kept (schema_in tables.format).tables row.fact2.table.tree old.trees new.trees left.others left.rising stored.rising;
  meta = kept tables.format row.fact2.table old new left row.meta 0 tables.meta refl refl stored.meta;
  command = kept tables.format row.fact2.table old new left row.command 1 tables.command refl refl stored.command;
  member = kept tables.format row.fact2.table old new left row.member 2 tables.member refl refl stored.member;
  change = kept tables.format row.fact2.table old new left row.change 3 tables.change refl refl stored.change;
  product = kept tables.format row.fact2.table old new left row.product 4 tables.product refl refl stored.product;
  store = kept tables.format row.fact2.table old new left row.store 5 tables.store refl refl stored.store;
  customer = kept tables.format row.fact2.table old new left row.customer 6 tables.customer refl refl stored.customer;
  profile = kept tables.format row.fact2.table old new left row.profile 7 tables.profile refl refl stored.profile;
  calendar = kept tables.format row.fact2.table old new left row.calendar 8 tables.calendar refl refl stored.calendar;
  fact = kept tables.format row.fact2.table old new left row.fact 9 tables.fact refl refl stored.fact;
  fact2 = held_in tables.format row.fact2 new.trees rows there held;
  void = kept_in tables.format row.fact2.table old new left row.void 11 tables.void refl refl stored.void;
}

pub void_changed : (old new : Database) (tables : Tables) (rows : FinMap row.void.order VoidRow) → IsTrue (is_two tables.format) → LeavesOthers (schema_in tables.format) row.void.table old new → Holds row.void new.trees rows → Stores old tables
    → Stores new (record tables { void = rows })
void_changed old new tables rows there left held stored = record {
  schema = left.schema;
  sound = left.sound;
  rising = rising_kept (schema_in tables.format).tables row.void.table.tree old.trees new.trees left.others left.rising stored.rising;
  meta = kept tables.format row.void.table old new left row.meta 0 tables.meta refl refl stored.meta;
  command = kept tables.format row.void.table old new left row.command 1 tables.command refl refl stored.command;
  member = kept tables.format row.void.table old new left row.member 2 tables.member refl refl stored.member;
  change = kept tables.format row.void.table old new left row.change 3 tables.change refl refl stored.change;
  product = kept tables.format row.void.table old new left row.product 4 tables.product refl refl stored.product;
  store = kept tables.format row.void.table old new left row.store 5 tables.store refl refl stored.store;
  customer = kept tables.format row.void.table old new left row.customer 6 tables.customer refl refl stored.customer;
  profile = kept tables.format row.void.table old new left row.profile 7 tables.profile refl refl stored.profile;
  calendar = kept tables.format row.void.table old new left row.calendar 8 tables.calendar refl refl stored.calendar;
  fact = kept tables.format row.void.table old new left row.fact 9 tables.fact refl refl stored.fact;
  fact2 = kept_in tables.format row.void.table old new left row.fact2 10 tables.fact2 refl refl stored.fact2;
  void = held_in tables.format row.void new.trees rows there held;
}
