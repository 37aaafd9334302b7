-- At a key at most one row is stored, damaged or not: of each table.
use Rattle.std.proofs.Common.{not, ◌≡◌, ℕ, ◌≤◌, pos, Bool, true, false, ◌&&◌, ◌||◌, if◌then◌else◌, List, [], ◌∷◌, map, filter, length, slice_get, Some, refl, sym, ap, subst, ◌∙◌, arith, codes, zero, suc, Ordering, Less, Equal, Greater}
use Rattle.std.specs.List.{AllByRecursion, list_all}
use Rattle.std.specs.Ordering.{is_eq, ordering_reverse}
use Rattle.std.specs.List.Sorted.{IsPermutation}
use Rattle.std.proofs.lemmas.Bool.{and_parts}
use Rattle.std.proofs.lemmas.List.{length-map}
use Rattle.std.proofs.lemmas.List.Sorted.{length_permutation}
use Rattle.sqlite_trees.proofs.ListLemmas.{filter-map, IsPermutation-filter}
use Rattle.sqlite_value.specs.declared.value.Value.{Value}
use Rattle.sqlite_value.specs.declared.value.Value.TheVariants.{Null, Int, Text}
use Rattle.sqlite_value.specs.Order.{Row, column, value_cmp}
use Rattle.sqlite_value.specs.Keys.{first_key}
use Rattle.sqlite_value.proofs.OrderLemmas.{value_cmp_total}
use Rattle.sqlite_trees.specs.Tree.{rowid}
use Rattle.sqlite_sql.specs.Ops.{binary, is_null, is_true, from_truth}
use Rattle.sqlite_schema.specs.declared.schema.Constraint.TheVariants.{Unique}
use Rattle.sqlite_schema.specs.declared.schema.Index.{Index}
use Rattle.sqlite_schema.specs.Rules.{equal, differ, agree, clashes, guards, passes, Keeps}
use Rattle.sqlite_rules.proofs.ListLemmas.{all_has}
use Rattle.sqlite.specs.Collation.TheVariants.{Binary}
use Rattle.sqlite.specs.Table.{Table}
use Rattle.sqlite.specs.Effect.{Database}
use Rattle.wh_policy.specs.declared.format.Format.{Format}
use Rattle.wh_policy.specs.declared.format.Format.TheVariants.{One, Two}
use Rattle.wh_rows.specs.Schema.{schema_in}
use Rattle.wh_rows.specs.Schema as schema
use Rattle.wh_rows.specs.declared.table.Table.TheVariants.{Meta, Command, Member, Change, Product, Store, Customer, Profile, Calendar, Fact, Fact2, Void}
use Rattle.wh_rows.specs.Types.{dim_number}
use Rattle.wh_rows.specs.Keys.{stands_at_text, stands_at_number, stands_at_member, stands_at_change, stands_at_line}
use Rattle.wh_rows.specs.Holds.{IsRising, values_of}
use Rattle.wh_rows.specs.Raw.{Stored, IsStored, rows_shown}
use Rattle.wh_rows.specs.Parts.{StandsOnce}
use Rattle.wh_rows.proofs.Others.{at_place}
use Rattle.wh_rows.proofs.ColumnLemmas.{both}
use Rattle.wh_rows.proofs.RawKeys.{at_most_one, rowid_once, named_once, ids_differ, not_true, none_clashes}

-- ---- values that are equal

equal_parts : (v k : Value) → equal Binary v k ≡ true → (is_null v ≡ false) × (value_cmp v k ≡ Equal)
unfolding binary
equal_parts v k h = go (is_null v) (is_null k) (value_cmp v k) h
  where
    go : (nv nk : Bool) (o : Ordering) → is_true (if nv || nk then Null else from_truth (Some (is_eq o))) ≡ true → (nv ≡ false) × (o ≡ Equal)
    go true nk o h = absurd (cc)
    go false true o h = absurd (cc)
    go false false Less h = absurd (cc)
    go false false Equal h = (refl, refl)
    go false false Greater h = absurd (cc)

-- what is equal to one value is equal
equal_both : (v w k : Value) → equal Binary v k ≡ true → equal Binary w k ≡ true → equal Binary v w ≡ true
unfolding binary
equal_both v w k p q =
    let one = equal_parts v k p in
    let two = equal_parts w k q in
    let back : value_cmp k w ≡ Equal = value_cmp_total.antisymm k w ∙ ap ordering_reverse two.1 in
    let same : value_cmp v w ≡ Equal = value_cmp_total.congr v k w one.1 ∙ back in
    rw (one.0, two.0, same) refl

-- ---- a key that is the rowid

nth_holds : {X : Type 0} (p : X → Bool) (xs : List X) (at : ℕ) (x : X) → list_all p xs ≡ true → slice_get xs at ≡ Some x → p x ≡ true
nth_holds p [] at x all is = absurd (cc)
nth_holds p (y ∷ xs) zero x all is = let same : y ≡ x = cc in subst (λ z. p z ≡ true) same (and_parts _ _ all).0
nth_holds p (y ∷ xs) (suc at) x all is = nth_holds p xs at x (and_parts _ _ all).1 is

-- a test of what is shown is passed as often as by the rows of the tree
seen_once : (table : Table) (rows : List Row) (stored : List Row) (shown within : Row → Bool) → ((r : Row) → shown (values_of table r) ≡ within r) → IsPermutation (map (values_of table) rows) stored → length (filter within rows) ≤ 1 → length (filter shown stored) ≤ 1
seen_once table rows stored shown within same bag once =
    let long : length (filter shown stored) ≡ length (filter shown (map (values_of table) rows)) = length_permutation _ _ (IsPermutation-filter shown (map (values_of table) rows) stored bag) in
    let seen : length (filter shown (map (values_of table) rows)) ≡ length (filter within rows) =
    ap length (filter-map shown (values_of table) rows) ∙ length-map (filter (λ r. shown (values_of table r)) rows) (values_of table) ∙ ap (λ (p : Row → Bool). length (filter p rows)) (λ i r. same r i) in
    omega (arith, long, seen, once)

module _ (db : Database) (stored : Stored) (is : IsStored stored db) where
  rising_at : (at : ℕ) (table : Table) → slice_get (schema_in stored.format).tables at ≡ Some table → IsRising (db.trees table.tree)
  rising_at at table here = at_place (λ t. IsRising (db.trees t.tree)) (schema_in stored.format).tables at table here is.rising

  -- ---- keys that a unique index guards

  apart : (at : ℕ) (table : Table) → slice_get (schema_in stored.format).tables at ≡ Some table → (place : ℕ) (index : Index) → slice_get (schema_in stored.format).indexes place ≡ Some index → guards index table ≡ true
      → (test : Row → Bool) → ((x y : Row) → test x ≡ true → test y ≡ true → agree index.order index.columns y index.columns x ≡ true) → length (filter test (db.trees table.tree)) ≤ 1
  apart at table here place index there guarded test alike =
      let rows = db.trees table.tree in
      let rise = rising_at at table here in
      let rule : Keeps Unique (schema_in stored.format) db.trees = subst (λ s. Keeps Unique s db.trees) is.schema (is.sound.obeys.rules Unique) in
      let mine : AllByRecursion (λ row. passes Unique (schema_in stored.format) db.trees table row ≡ true) rows = at_place (λ t. AllByRecursion (λ row. passes Unique (schema_in stored.format) db.trees t row ≡ true) (db.trees t.tree)) (schema_in stored.format).tables at table here rule in
      at_most_one rows test rise.0
      (λ x y hx hy px py less.
      let free : not (guards index table && clashes index.order index.columns rows x) ≡ true =
      nth_holds (λ i. not (guards i table && clashes i.order i.columns rows x)) (schema_in stored.format).indexes place index (all_has (λ row. passes Unique (schema_in stored.format) db.trees table row ≡ true) rows x mine hx) there in
      let none : clashes index.order index.columns rows x ≡ false = ap (λ b. b && clashes index.order index.columns rows x) (sym guarded) ∙ not_true _ free in
      none_clashes (λ other. agree index.order index.columns other index.columns x && differ (rowid other) (rowid x)) rows y none hy
      (both (alike x y px py) (ids_differ (rowid x) (rowid y) (all_has _ rows x rise.1 hx) (all_has _ rows y rise.1 hy) less)))

  -- two columns are each equal to those of a key
  two_apart : (at : ℕ) (table : Table) → slice_get (schema_in stored.format).tables at ≡ Some table → (place : ℕ) (name : List ℕ) (tree : ℕ) → slice_get (schema_in stored.format).indexes place ≡ Some (schema.index name tree table.tree (1 ∷ 2 ∷ []) true) → guards (schema.index name tree table.tree (1 ∷ 2 ∷ []) true) table ≡ true
      → (first second : Value) → length (filter (λ r. equal Binary (column r 1) first && (equal Binary (column r 2) second && true)) (db.trees table.tree)) ≤ 1
  unfolding first_key
  two_apart at table here place name tree there guarded first second =
      apart at table here place (schema.index name tree table.tree (1 ∷ 2 ∷ []) true) there guarded (λ r. equal Binary (column r 1) first && (equal Binary (column r 2) second && true))
      (λ x y px py.
      let mx = and_parts _ _ px in
      let my = and_parts _ _ py in
      both (equal_both (column y 1) (column x 1) first my.0 mx.0) (both (equal_both (column y 2) (column x 2) second (and_parts _ _ my.1).0 (and_parts _ _ mx.1).0) refl))

-- ---- each table

pub meta : StandsOnce stands_at_text Meta
meta db stored is k = named_once db stored is k

pub command : StandsOnce stands_at_number Command
command db stored is k = seen_once schema.command _ _ (stands_at_number k) _ (λ r. refl) (is.rows Command) (rowid_once (db.trees schema.command.tree) (pos k) (rising_at db stored is 1 schema.command refl))

pub member : StandsOnce stands_at_member Member
member db stored is k =
    seen_once schema.member _ _ (stands_at_member k) _ (λ r. refl) (is.rows Member) (two_apart db stored is 2 schema.member refl 2 (codes "sqlite_autoindex_member_1") 5 refl refl (Int (pos (dim_number k.dim))) (Int (pos k.durable)))

pub change : StandsOnce stands_at_change Change
change db stored is k =
    seen_once schema.change _ _ (stands_at_change k) _ (λ r. refl) (is.rows Change) (two_apart db stored is 3 schema.change refl 4 (codes "sqlite_autoindex_change_1") 8 refl refl (Int (pos k.command)) (Int (pos k.place)))

pub product : StandsOnce stands_at_number Product
product db stored is k = seen_once schema.product _ _ (stands_at_number k) _ (λ r. refl) (is.rows Product) (rowid_once (db.trees schema.product.tree) (pos k) (rising_at db stored is 4 schema.product refl))

pub store : StandsOnce stands_at_number Store
store db stored is k = seen_once schema.store _ _ (stands_at_number k) _ (λ r. refl) (is.rows Store) (rowid_once (db.trees schema.store.tree) (pos k) (rising_at db stored is 5 schema.store refl))

pub customer : StandsOnce stands_at_number Customer
customer db stored is k = seen_once schema.customer _ _ (stands_at_number k) _ (λ r. refl) (is.rows Customer) (rowid_once (db.trees schema.customer.tree) (pos k) (rising_at db stored is 6 schema.customer refl))

pub profile : StandsOnce stands_at_number Profile
profile db stored is k = seen_once schema.profile _ _ (stands_at_number k) _ (λ r. refl) (is.rows Profile) (rowid_once (db.trees schema.profile.tree) (pos k) (rising_at db stored is 7 schema.profile refl))

pub calendar : StandsOnce stands_at_number Calendar
calendar db stored is k = seen_once schema.calendar _ _ (stands_at_number k) _ (λ r. refl) (is.rows Calendar) (rowid_once (db.trees schema.calendar.tree) (pos k) (rising_at db stored is 8 schema.calendar refl))

pub fact : StandsOnce stands_at_line Fact
fact db stored is k =
    seen_once schema.fact _ _ (stands_at_line k) _ (λ r. refl) (is.rows Fact) (two_apart db stored is 9 schema.fact refl 5 (codes "sqlite_autoindex_fact_1") 15 refl refl (Text k.ticket) (Int (pos k.line)))

-- ---- the tables of the second format

-- a table that isn't there stores nothing
none_once : (rows : List Row) (test : Row → Bool) → IsPermutation [] rows → length (filter test rows) ≤ 1
none_once rows test same = let long = length_permutation _ _ (IsPermutation-filter test [] rows same) in omega (arith, long)

pub fact2 : StandsOnce stands_at_line Fact2
fact2 db stored is k = go stored.format (λ i. stored.format)
  where
    go : (format : Format) → stored.format ≡ format → length (filter (stands_at_line k) (stored.rows Fact2)) ≤ 1
    go One first = none_once (stored.rows Fact2) (stands_at_line k) (subst (λ f. IsPermutation (rows_shown f Fact2 db.trees) (stored.rows Fact2)) first (is.rows Fact2))
    go Two second =
        let at : IsStored (record stored { format = Two }) db = subst (λ f. IsStored (record stored { format = f }) db) second is in
        seen_once schema.fact2 _ _ (stands_at_line k) _ (λ r. refl) (at.rows Fact2) (two_apart db (record stored { format = Two }) at 10 schema.fact2 refl 12 (codes "sqlite_autoindex_fact2_1") 23 refl refl (Text k.ticket) (Int (pos k.line)))

pub void : StandsOnce stands_at_line Void
void db stored is k = go stored.format (λ i. stored.format)
  where
    go : (format : Format) → stored.format ≡ format → length (filter (stands_at_line k) (stored.rows Void)) ≤ 1
    go One first = none_once (stored.rows Void) (stands_at_line k) (subst (λ f. IsPermutation (rows_shown f Void db.trees) (stored.rows Void)) first (is.rows Void))
    go Two second =
        let at : IsStored (record stored { format = Two }) db = subst (λ f. IsStored (record stored { format = f }) db) second is in
        seen_once schema.void _ _ (stands_at_line k) _ (λ r. refl) (at.rows Void) (two_apart db (record stored { format = Two }) at 11 schema.void refl 13 (codes "sqlite_autoindex_void_1") 25 refl refl (Text k.ticket) (Int (pos k.line)))
