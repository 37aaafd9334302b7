-- At a key at most one row is stored.
use Rattle.std.proofs.Common.{not, subst, ap, ap₂, Some, Ordering, Greater, ◌≡◌, ℕ, ℤ, ◌≤◌, Bool, true, false, ◌&&◌, List, [], ◌∷◌, filter, take, length, inl, inr, refl, sym, ◌∙◌, arith, Less, Equal}
use Rattle.std.specs.Prelude.{IsTrue}
use Rattle.std.specs.List.{AllByRecursion, list_any}
use Rattle.std.specs.Cmp.Lexicographic.{slice_cmp, nat_list_cmp_total}
use Rattle.std.specs.Ordering.{is_eq, is_ne, int_cmp, nat_cmp, ordering_reverse}
use Rattle.std.proofs.lemmas.Cmp.{int_cmp_total}
use Rattle.std.proofs.lemmas.Bool.{and_parts}
use Rattle.sqlite_value.specs.declared.value.Value.{Value}
use Rattle.sqlite_value.specs.declared.value.Value.TheVariants.{Null, Int, Real, Text, Blob}
use Rattle.sqlite_value.specs.Order.{Row, column, value_cmp}
use Rattle.sqlite_trees.specs.Tree.{rowid, IsAscending, IsTable}
use Rattle.sqlite_keyed.proofs.ListLemmas.{ascending-filter, ascending-map}
use Rattle.sqlite_keyed.proofs.SortLemmas.{sorted_unique}
use Rattle.sqlite_exec.proofs.ScanLemmas.{ascending-reverse}
use Rattle.sqlite_sql.proofs.QueryLemmas.{key_cmp_total}
use Rattle.sqlite_value.specs.Keys.{plain, first_key}
use Rattle.sqlite_sql.specs.Ops.{binary, is_true, from_truth}
use Rattle.sqlite_schema.specs.declared.schema.Constraint.TheVariants.{Unique}
use Rattle.sqlite_schema.specs.Rules.{equal, differ, agree, clashes, passes, Keeps}
use Rattle.sqlite.specs.Effect.{Database, IsDatabase}
use Rattle.wh_policy.specs.declared.format.Format.{Format}
use Rattle.wh_rows.specs.Schema.{schema_in}
use Rattle.wh_rows.specs.Schema as schema
use Rattle.wh_rows.proofs.Others.{at_place}
use Rattle.wh_rows.proofs.ColumnLemmas.{both}
use Rattle.sqlite_rules.specs.Lists.{Has}
use Rattle.sqlite_rules.proofs.ListLemmas.{all_has, has_filtered, some_from}
use Rattle.sqlite.specs.Collation.TheVariants.{Binary}
use Rattle.sqlite.specs.View.{is_int}
use Rattle.std.proofs.lemmas.List.{length-map}
use Rattle.std.specs.List.Sorted.{IsPermutation}
use Rattle.std.proofs.lemmas.List.Sorted.{length_permutation, IsPermutation-refl, IsPermutation-reverse, IsPermutation-sym, IsPermutation-trans}
use Rattle.sqlite_trees.proofs.ListLemmas.{filter-map, IsPermutation-filter}
use Rattle.wh_rows.specs.declared.table.Table.TheVariants.{Meta, Command}
use Rattle.wh_rows.specs.Firsts.{Front, from_end, part}
use Rattle.wh_rows.specs.Raw.{Stored, IsStored, IsFrontOf, rows_in, stored_cmp}
use Rattle.wh_rows.specs.Keys.{stands_at_text}
use Rattle.wh_rows.specs.Holds.{IsRising, values_of}
use Rattle.wh_rows.proofs.Keys.{equal-Int, equal-Text, equal_is}
use Rattle.sqlite_value.proofs.OrderLemmas.{then-Equal, value_cmp-Int}

-- of rows whose rowids rise at most one passes a test that no two of them pass
pub at_most_one : (rows : List Row) (p : Row → Bool) → IsTable rows → ((x y : Row) → Has rows x → Has rows y → p x ≡ true → p y ≡ true → value_cmp (rowid x) (rowid y) ≡ Less → ⊥) → length (filter p rows) ≤ 1
at_most_one rows p table apart = go (filter p rows) (λ x h. has_filtered p rows x h) (ascending-filter (λ a b. value_cmp (rowid a) (rowid b) ≡ Less) p rows table)
  where
    go : (kept : List Row) → ((x : Row) → Has kept x → Has rows x × (p x ≡ true)) → IsTable kept → length kept ≤ 1
    go [] from up = omega arith
    go (x ∷ []) from up = omega arith
    go (x ∷ y ∷ kept) from up =
        let one = from x (inl refl) in
        let two = from y (inr (inl refl)) in
        absurd (apart x y one.0 two.0 one.1 two.1 up.0.0)

ints_apart : (v w : Value) (k : ℤ) → IsTrue (is_int v) → IsTrue (is_int w) → equal Binary v (Int k) ≡ true → equal Binary w (Int k) ≡ true → value_cmp v w ≡ Less → ⊥
ints_apart (Int a) (Int b) k iv iw p q less =
    let one : int_cmp k a ≡ Equal = equal_is _ (sym (equal-Int a k) ∙ p) in
    let two : int_cmp k b ≡ Equal = equal_is _ (sym (equal-Int b k) ∙ q) in
    let same : int_cmp a b ≡ Equal = sym (int_cmp_total.congr k a b one) ∙ two in
    let never : Equal ≡ Less = sym same ∙ sym (value_cmp-Int a b) ∙ less in
    cc
ints_apart (Int a) Null k iv iw p q less = cc
ints_apart (Int a) (Real x) k iv iw p q less = cc
ints_apart (Int a) (Text t) k iv iw p q less = cc
ints_apart (Int a) (Blob t) k iv iw p q less = cc
ints_apart Null w k iv iw p q less = cc
ints_apart (Real x) w k iv iw p q less = cc
ints_apart (Text t) w k iv iw p q less = cc
ints_apart (Blob t) w k iv iw p q less = cc

-- a key that is the rowid
pub rowid_once : (rows : List Row) (k : ℤ) → IsRising rows → length (filter (λ r. equal Binary (column r 0) (Int k) && true) rows) ≤ 1
rowid_once rows k rising =
    at_most_one rows (λ r. equal Binary (column r 0) (Int k) && true) rising.0
    (λ x y hx hy px py less. ints_apart (rowid x) (rowid y) k (all_has _ rows x rising.1 hx) (all_has _ rows y rising.1 hy) (and_parts _ _ px).0 (and_parts _ _ py).0 less)

-- ---- a key that a unique index guards

rank_apart : (v : Value) (k : List ℕ) → equal Binary v (Text k) ≡ true → (s : List ℕ) × (v ≡ Text s)
unfolding binary value_cmp
rank_apart (Text s) k p = (s, refl)
rank_apart Null k p = absurd (cc)
rank_apart (Int n) k p = absurd (cc)
rank_apart (Real x) k p = absurd (cc)
rank_apart (Blob t) k p = absurd (cc)

are_sameual : (v w : Value) (k : List ℕ) → equal Binary v (Text k) ≡ true → equal Binary w (Text k) ≡ true → equal Binary v w ≡ true
are_sameual v w k p q =
    let one = rank_apart v k p in
    let two = rank_apart w k q in
    let first : slice_cmp nat_cmp k one.0 ≡ Equal = equal_is _ (sym (equal-Text one.0 k) ∙ ap (λ v. equal Binary v (Text k)) (sym one.1) ∙ p) in
    let second : slice_cmp nat_cmp k two.0 ≡ Equal = equal_is _ (sym (equal-Text two.0 k) ∙ ap (λ v. equal Binary v (Text k)) (sym two.1) ∙ q) in
    let same : slice_cmp nat_cmp two.0 one.0 ≡ Equal = sym (nat_list_cmp_total.congr k two.0 one.0 second) ∙ first in
    ap₂ (λ v w. equal Binary v w) one.1 two.1 ∙ equal-Text one.0 two.0 ∙ ap is_eq same

pub ids_differ : (v w : Value) → IsTrue (is_int v) → IsTrue (is_int w) → value_cmp v w ≡ Less → differ w v ≡ true
unfolding binary
ids_differ (Int a) (Int b) iv iw less =
    let other : value_cmp (Int b) (Int a) ≡ Greater = value_cmp-Int b a ∙ int_cmp_total.antisymm b a ∙ ap ordering_reverse (sym (value_cmp-Int a b) ∙ less) in
    ap (λ (o : Ordering). is_true (from_truth (Some (is_ne o)))) other
ids_differ (Int a) Null iv iw less = cc
ids_differ (Int a) (Real x) iv iw less = cc
ids_differ (Int a) (Text t) iv iw less = cc
ids_differ (Int a) (Blob t) iv iw less = cc
ids_differ Null w iv iw less = cc
ids_differ (Real x) w iv iw less = cc
ids_differ (Text t) w iv iw less = cc
ids_differ (Blob t) w iv iw less = cc

pub not_true : (b : Bool) → not b ≡ true → b ≡ false
not_true true h = sym h
not_true false h = refl

pub none_clashes : {X : Type 0} (p : X → Bool) (xs : List X) (x : X) → list_any p xs ≡ false → Has xs x → p x ≡ true → ⊥
none_clashes p xs x none here hit = let never : true ≡ false = sym (some_from p xs x here hit) ∙ none in cc

-- of meta
pub meta_once : (format : Format) (db : Database) → db.schema ≡ schema_in format → IsDatabase db → IsRising (db.trees schema.meta.tree) → (k : List ℕ) → length (filter (λ r. equal Binary (column r 1) (Text k) && true) (db.trees schema.meta.tree)) ≤ 1
unfolding first_key
meta_once format db is sound rising k =
    let rows = db.trees schema.meta.tree in
    let rule : Keeps Unique (schema_in format) db.trees = subst (λ s. Keeps Unique s db.trees) is (sound.obeys.rules Unique) in
    let here : AllByRecursion (λ row. passes Unique (schema_in format) db.trees schema.meta row ≡ true) rows = at_place (λ t. AllByRecursion (λ row. passes Unique (schema_in format) db.trees t row ≡ true) (db.trees t.tree)) (schema_in format).tables 0 schema.meta refl rule in
    at_most_one rows (λ r. equal Binary (column r 1) (Text k) && true) rising.0
    (λ x y hx hy px py less.
    let mine : passes Unique (schema_in format) db.trees schema.meta x ≡ true = all_has (λ row. passes Unique (schema_in format) db.trees schema.meta row ≡ true) rows x here hx in
    let first : not (clashes plain (1 ∷ []) rows x) ≡ true = (and_parts _ _ mine).0 in
    let agrees : (equal Binary (column y 1) (column x 1) && true) ≡ true = both (are_sameual (column y 1) (column x 1) k (and_parts _ _ py).0 (and_parts _ _ px).0) refl in
    none_clashes (λ other. agree plain (1 ∷ []) other (1 ∷ []) x && differ (rowid other) (rowid x)) rows y (not_true _ first) hy
    (both agrees (ids_differ (rowid x) (rowid y) (all_has _ rows x rising.1 hx) (all_has _ rows y rising.1 hy) less)))

-- under a name at most one row is stored, damaged or not
pub named_once : (db : Database) (stored : Stored) → IsStored stored db → (name : List ℕ) → length (filter (stands_at_text name) (stored.rows Meta)) ≤ 1
named_once db stored is name =
    let rows = db.trees schema.meta.tree in
    let bag = IsPermutation-filter (stands_at_text name) (rows_in schema.meta db.trees) (stored.rows Meta) (is.rows Meta) in
    let long : length (filter (stands_at_text name) (stored.rows Meta)) ≡ length (filter (stands_at_text name) (rows_in schema.meta db.trees)) = length_permutation _ _ bag in
    let shown : length (filter (stands_at_text name) (rows_in schema.meta db.trees)) ≡ length (filter (λ r. equal Binary (column r 1) (Text name) && true) rows) =
    ap length (filter-map (stands_at_text name) (values_of schema.meta) rows) ∙ length-map (filter (λ r. equal Binary (column r 1) (Text name) && true) rows) (values_of schema.meta) in
    omega (arith, long, shown, meta_once stored.format db is.schema is.sound is.rising.0 name)

-- ---- what is asked for from an end of command

-- it is one list, since no two rows have one number
module _ (db : Database) (stored : Stored) (is : IsStored stored db) (stands : Row → Bool) where
  abbrev kept : List Row
  kept = filter stands (rows_in schema.command db.trees)

  abbrev Below : Bool → Row → Row → Type 0
  Below backwards r s = stored_cmp schema.command backwards r s ≡ Less

  numbered : IsAscending (Below false) (rows_in schema.command db.trees)
  numbered =
      ascending-map (Below false) (values_of schema.command) (db.trees schema.command.tree)
      (subst (λ (R : Row → Row → Ordering). IsAscending (λ x y. R x y ≡ Less) (db.trees schema.command.tree)) (λ i x y. sym (then-Equal (value_cmp (rowid x) (rowid y))) i) is.rising.1.0.0)

  turned : (backwards : Bool) → IsAscending (Below backwards) (from_end backwards kept)
  turned true = ascending-reverse (Below false) kept (ascending-filter (Below false) stands _ numbered)
  turned false = ascending-filter (Below false) stands _ numbered

  turned_same : (backwards : Bool) → IsPermutation (from_end backwards kept) kept
  turned_same true = IsPermutation-sym _ _ (IsPermutation-reverse kept)
  turned_same false = IsPermutation-refl kept

  pub front_is : (front : Front) (shown : List Row) → IsFrontOf front schema.command (filter stands (stored.rows Command)) shown → shown ≡ part (Some front) kept
  front_is front shown it =
      let same = IsPermutation-trans _ _ _ (turned_same front.backwards) (IsPermutation-trans _ _ _ (IsPermutation-filter stands _ _ (is.rows Command)) it.same) in
      it.first ∙ ap (take front.most) (sorted_unique (stored_cmp schema.command front.backwards) (key_cmp_total (record { collation = Binary; descending = front.backwards } ∷ []) 0) _ it.ordered (turned front.backwards) same it.sorted)
