-- What is stored where the tables hold rows of their types.
use Rattle.std.proofs.Common.{◌≡◌, Some, List, [], map, sym, subst, ap}
use Rattle.std.specs.Prelude.{if◌then◌else◌}
use Rattle.std.specs.FinMap.{FinMap, values, empty}
use Rattle.std.proofs.lemmas.List.Sorted.{IsPermutation-refl}
use Rattle.sqlite.specs.Tree.{Trees}
use Rattle.wh_policy.specs.declared.format.Format.{Format}
use Rattle.wh_policy.specs.declared.format.Format.TheVariants.{One, Two}
use Rattle.wh_policy.specs.Formats.{is_two}
use Rattle.wh_rows.specs.Holds.{Layout}
use Rattle.wh_rows.specs.Rows as row
use Rattle.wh_rows.proofs.Formats.{no_values, keyed_in, valid_in, absent_in}
use Rattle.std.specs.List.Sorted.{IsPermutation}
use Rattle.sqlite.specs.Effect.{Database}
use Rattle.sqlite.specs.State.{State}
use Rattle.wh_rows.specs.declared.table.Table.{Table}
use Rattle.wh_rows.specs.declared.table.Table.TheVariants.{Meta, Command, Member, Change, Product, Store, Customer, Profile, Calendar, Fact, Fact2, Void}
use Rattle.wh_rows.specs.Schema.{schema_in}
use Rattle.wh_rows.specs.Tables.{Tables, Stores, HoldsIn}
use Rattle.wh_rows.specs.AtRest.{IsAtRest}
use Rattle.wh_rows.specs.Raw.{rows_in, rows_shown, columns_in, stored_of, IsStored, RestsOn, IsTyped, AreTyped}

-- the rows of a table that the second format has are those of its map, and none where it isn't there
shown_as : {K V : Type 0} (format : Format) (layout : Layout K V) (trees : Trees) (rows : FinMap layout.order V) → HoldsIn format layout trees rows → IsPermutation (if is_two format then rows_in layout.table trees else []) (map layout.encode (values rows))
shown_as {K} {V} One layout trees rows none = rw none (subst (λ (es : List (K × V)). IsPermutation [] (map layout.encode (map (λ e. e.1) es))) (sym (no_values layout.order)) (IsPermutation-refl []))
shown_as Two layout trees rows held = held.rows_are

-- and so the other way round
held_as : {K V : Type 0} (format : Format) (layout : Layout K V) (trees : Trees) (rows : FinMap layout.order V) → IsTyped layout rows → (format ≡ One → rows ≡ empty) → IsPermutation (if is_two format then rows_in layout.table trees else []) (map layout.encode (values rows))
    → HoldsIn format layout trees rows
held_as One layout trees rows typed none same = none (λ i. One)
held_as Two layout trees rows typed none same = record { rows_are = same; keyed = typed.keyed; valid = typed.valid }

-- the rows that are stored are those of the tables
stored_rows : (db : Database) (t : Tables) → Stores db t → (table : Table) → IsPermutation (rows_shown t.format table db.trees) (columns_in t table)
stored_rows db t stores Meta = stores.meta.rows_are
stored_rows db t stores Command = stores.command.rows_are
stored_rows db t stores Member = stores.member.rows_are
stored_rows db t stores Change = stores.change.rows_are
stored_rows db t stores Product = stores.product.rows_are
stored_rows db t stores Store = stores.store.rows_are
stored_rows db t stores Customer = stores.customer.rows_are
stored_rows db t stores Profile = stores.profile.rows_are
stored_rows db t stores Calendar = stores.calendar.rows_are
stored_rows db t stores Fact = stores.fact.rows_are
stored_rows db t stores Fact2 = shown_as t.format row.fact2 db.trees t.fact2 stores.fact2
stored_rows db t stores Void = shown_as t.format row.void db.trees t.void stores.void

pub stores_stored : (db : Database) (t : Tables) → Stores db t → IsStored (stored_of t) db
stores_stored db t stores = record { schema = stores.schema; sound = stores.sound; rising = stores.rising; rows = stored_rows db t stores }

-- tables at rest are what is stored at rest
pub rests_on : (t : Tables) (s : State) → IsAtRest (Some t) s → RestsOn (stored_of t) s
rests_on t s at = record {
  is_open = at.is_open;
  autocommit = at.autocommit;
  unmarked = at.unmarked;
  now = stores_stored s.now t at.now.tables;
  committed = at.committed;
  left = record { each = λ trees may. stores_stored (record { schema = schema_in t.format; trees = trees }) t (at.left.each trees may).tables };
}

-- tables are stored exactly where their rows are, and these are of their types: the case without damage
pub stores_typed : (db : Database) (t : Tables) → Stores db t → AreTyped t
stores_typed db t stores = record {
  meta = record { keyed = stores.meta.keyed; valid = stores.meta.valid };
  command = record { keyed = stores.command.keyed; valid = stores.command.valid };
  member = record { keyed = stores.member.keyed; valid = stores.member.valid };
  change = record { keyed = stores.change.keyed; valid = stores.change.valid };
  product = record { keyed = stores.product.keyed; valid = stores.product.valid };
  store = record { keyed = stores.store.keyed; valid = stores.store.valid };
  customer = record { keyed = stores.customer.keyed; valid = stores.customer.valid };
  profile = record { keyed = stores.profile.keyed; valid = stores.profile.valid };
  calendar = record { keyed = stores.calendar.keyed; valid = stores.calendar.valid };
  fact = record { keyed = stores.fact.keyed; valid = stores.fact.valid };
  fact2 = record { keyed = keyed_in t.format row.fact2 db.trees t.fact2 stores.fact2; valid = valid_in t.format row.fact2 db.trees t.fact2 stores.fact2 };
  void = record { keyed = keyed_in t.format row.void db.trees t.void stores.void; valid = valid_in t.format row.void db.trees t.void stores.void };
  absent = λ first. (absent_in t.format row.fact2 db.trees t.fact2 (ap is_two first) stores.fact2, absent_in t.format row.void db.trees t.void (ap is_two first) stores.void);
}

pub stored_stores : (db : Database) (t : Tables) → AreTyped t → IsStored (stored_of t) db → Stores db t
stored_stores db t typed is = record {
  schema = is.schema;
  sound = is.sound;
  rising = is.rising;
  meta = record { rows_are = is.rows Meta; keyed = typed.meta.keyed; valid = typed.meta.valid };
  command = record { rows_are = is.rows Command; keyed = typed.command.keyed; valid = typed.command.valid };
  member = record { rows_are = is.rows Member; keyed = typed.member.keyed; valid = typed.member.valid };
  change = record { rows_are = is.rows Change; keyed = typed.change.keyed; valid = typed.change.valid };
  product = record { rows_are = is.rows Product; keyed = typed.product.keyed; valid = typed.product.valid };
  store = record { rows_are = is.rows Store; keyed = typed.store.keyed; valid = typed.store.valid };
  customer = record { rows_are = is.rows Customer; keyed = typed.customer.keyed; valid = typed.customer.valid };
  profile = record { rows_are = is.rows Profile; keyed = typed.profile.keyed; valid = typed.profile.valid };
  calendar = record { rows_are = is.rows Calendar; keyed = typed.calendar.keyed; valid = typed.calendar.valid };
  fact = record { rows_are = is.rows Fact; keyed = typed.fact.keyed; valid = typed.fact.valid };
  fact2 = held_as t.format row.fact2 db.trees t.fact2 typed.fact2 (λ first. (typed.absent first).0) (is.rows Fact2);
  void = held_as t.format row.void db.trees t.void typed.void (λ first. (typed.absent first).1) (is.rows Void);
}

-- what rests without damage is tables at rest
pub at_rest : (t : Tables) (s : State) → AreTyped t → RestsOn (stored_of t) s → IsAtRest (Some t) s
at_rest t s typed rests = record {
  is_open = rests.is_open;
  autocommit = rests.autocommit;
  unmarked = rests.unmarked;
  now = record { schema = rests.now.schema; sound = rests.now.sound; tables = stored_stores s.now t typed rests.now };
  committed = rests.committed;
  left = record {
    each = λ trees may.
        let is = rests.left.each trees may in
        record { schema = is.schema; sound = is.sound; tables = stored_stores (record { schema = schema_in t.format; trees = trees }) t typed is };
  };
}
