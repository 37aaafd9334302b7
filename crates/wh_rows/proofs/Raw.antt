-- The stored rows of a table.
use Rattle.std.proofs.Common.{Option, None, Some, IsSome, ◌++◌, ◌↔◌, add-one, Result, Ok, Err, ◌⊎◌, ◌≡◌, ℕ, zero, suc, ◌+◌, ◌<◌, List, [], ◌∷◌, map, filter, take, length, Bool, true, false, inl, inr, refl, sym, ap, subst, subst₂, ◌∙◌, arith, Ordering, Less, Equal, Greater, is_lt}
use Rattle.std.specs.Prelude.{IsTrue, slice_get, unwrap_or, option_map}
use Rattle.std.specs.List.{AllByRecursion, list_all}
use Rattle.std.specs.List.Sorted.{IsPermutation, IsSorted}
use Rattle.std.specs.Cmp.{IsTotalOrder, on_total}
use Rattle.std.specs.Ordering.{is_gt, nat_cmp, ordering_reverse}
use Rattle.std.specs.Option.{option_to_list}
use Rattle.std.specs.FinMap.{FinMap, entries, values, entries_sorted}
use Rattle.std.proofs.lemmas.Cmp.{tied_itself, back_total}
use Rattle.std.proofs.lemmas.List.{get_or-map, length-map}
use Rattle.std.proofs.lemmas.List.Sorted.{IsPermutation-map, IsPermutation-sym, IsPermutation-trans}
use Rattle.sqlite_trees.proofs.ListLemmas.{all-permutation, IsPermutation-filter, pull_back}
use Rattle.sqlite_exec.proofs.PartitionLemmas.{IsSorted-from_map, ascending_from_sorted}
use Rattle.sqlite_value.specs.Order.{Row, value_cmp}
use Rattle.sqlite_value.proofs.OrderLemmas.{value_cmp_total}
use Rattle.sqlite.specs.Order.{column}
use Rattle.sqlite_trees.specs.Tree.{Trees, IsAscending}
use Rattle.sqlite_trees.proofs.ListLemmas.{filter-map}
use Rattle.sqlite_rules.specs.Lists.{Has}
use Rattle.sqlite_rules.proofs.ListLemmas.{all_has, all_from, test_has}
use Rattle.sqlite_rules.proofs.ProbeLemmas.{has_mapped}
use Rattle.sqlite.specs.Query.{Query, Output, output, output_cmp}
use Rattle.sqlite.specs.State.{State, Shown}
use Rattle.sqlite.proofs.Callers.{reads_as}
use Rattle.sqlite.specs.Schema.{Schema}
use Rattle.wh_rows.specs.Statements.{reading}
use Rattle.wh_rows.specs.Holds.{Layout, values_of, Holds}
use Rattle.wh_rows.specs.Meaning.{passes}
use Rattle.wh_rows.specs.Firsts.{Front, reading_first, keys_cmp, ReadsSorted}
use Rattle.wh_rows.specs.Raw.{HasDamage, AreRows, IsLastOf, IsFrontOf, stored_cmp, IsGreatestIn, IsGreatestAnchor, HasGreatestDamaged, ReadsStored, ReadsFrontStored, ReadsGreatestStored, rows_in}
use Rattle.wh_rows.specs.Questions.{anchor_column}
use Rattle.wh_rows.specs.Rows as row
use Rattle.wh_rows.proofs.Firsts.{is_read_first}
use Rattle.std.proofs.lemmas.Bool.{and_parts}
use Rattle.wh_rows.specs.declared.columns.Damaged.{Damaged}
use Rattle.wh_rows.specs.declared.rows.ChangeRow.{ChangeRow}
use Rattle.wh_rows.proofs.ColumnLemmas.{both}
use Rattle.wh_rows.proofs.Answers.{IsRead, is_read, map-map}
use Rattle.wh_rows.proofs.Edits.{filter_same}
use Rattle.wh_rows.proofs.Statements.Selects.{rising}

-- ---- lists

-- what is among the elements is among them in another order
pub has_again : {X : Type 0} (xs ys : List X) (x : X) → IsPermutation xs ys → Has ys x → Has xs x
has_again xs ys x same = all_has (Has xs) ys x (all-permutation (Has xs) xs ys same (all_from (Has xs) xs (λ e h. h)))

map_same : {X : Type 0} (f : X → X) (xs : List X) → AllByRecursion (λ x. f x ≡ x) xs → map f xs ≡ xs
map_same f [] each = refl
map_same f (x ∷ xs) each = λ i. each.0 i ∷ map_same f xs each.1 i

sorted-map : {X Y : Type 0} (cmp : Y → Y → Ordering) (f : X → Y) (xs : List X) → IsSorted cmp (map f xs) → IsSorted (λ v w. cmp (f v) (f w)) xs
sorted-map cmp f xs sorted k d low high =
    let long : length (map f xs) ≡ length xs = length-map xs f in
    rw (get_or-map f xs (k + 1) d (f d) high, get_or-map f xs k d (f d) (omega (arith, high))) at (sorted k (f d) low (omega (arith, high, long)))

not_below : {X : Type 0} (cmp : X → X → Ordering) → IsTotalOrder cmp → (x y : X) → cmp x y ≡ Less → is_lt (cmp y x) ≡ false
not_below cmp total x y less = go (cmp y x) (sym (total.antisymm x y) ∙ less)
  where
    go : (o : Ordering) → ordering_reverse o ≡ Less → is_lt o ≡ false
    go Less is = cc
    go Equal is = refl
    go Greater is = refl

-- ---- damage

module _ {K V : Type 0} (layout : Layout K V) where
  -- rows of values of their types are not damaged
  pub no_damage : (stored : List Row) (rows : List V) → IsTrue (list_all layout.is_valid rows) → IsPermutation stored (map layout.encode rows) → ¬ HasDamage layout stored
  no_damage stored rows valid same damage =
      let found = has_mapped layout.encode rows damage.0 (has_again (map layout.encode rows) stored damage.0 (IsPermutation-sym _ _ same) damage.1) in
      damage.2 found.0 (test_has layout.is_valid rows found.0 valid found.1) found.2

  -- the same rows are damaged, in whatever order
  pub damage_again : (stored again : List Row) → IsPermutation stored again → HasDamage layout again → HasDamage layout stored
  damage_again stored again same damage = (damage.0, has_again stored again damage.0 same damage.1, damage.2)

-- ---- rows without damage

sorted_from : {X : Type 0} (cmp : X → X → Ordering) → IsTotalOrder cmp → (xs : List X) → IsAscending (λ a b. cmp a b ≡ Less) xs → IsSorted cmp xs
sorted_from cmp total [] up k d low high = absurd (omega (arith, high))
sorted_from cmp total (x ∷ []) up k d low high = absurd (omega (arith, high))
sorted_from cmp total (x ∷ y ∷ xs) up zero d low high = not_below cmp total x y up.0.0
sorted_from cmp total (x ∷ y ∷ xs) up (suc k) d low high = rw add-one (rw add-one at (sorted_from cmp total (y ∷ xs) up.1 k d (omega arith) (omega (arith, high))))

pub all_valid : {K V : Type 0} (is_valid : V → Bool) (es : List (K × V)) → AllByRecursion (λ e. IsTrue (is_valid e.1)) es → list_all is_valid (map (λ (e : K × V). e.1) es) ≡ true
all_valid is_valid [] each = refl
all_valid is_valid (e ∷ es) each = both each.0 (all_valid is_valid es each.1)

each_valid : {K V : Type 0} (is_valid : V → Bool) (es : List (K × V)) → list_all is_valid (map (λ (e : K × V). e.1) es) ≡ true → AllByRecursion (λ e. IsTrue (is_valid e.1)) es
each_valid is_valid [] all = tt
each_valid is_valid (e ∷ es) all = let parts = and_parts _ _ all in (parts.0, each_valid is_valid es parts.1)

module _ {K V : Type 0} (layout : Layout K V) (total : IsTotalOrder layout.order) where
  -- a table that holds a map stores its rows, and none is damaged
  pub holds_rows : (db : Trees) (m : FinMap layout.order V) → Holds layout db m → AreRows layout (rows_in layout.table db) (values m)
  holds_rows db m held = record {
    same = held.rows_are;
    valid = all_valid layout.is_valid (entries m) held.valid;
    in_order = sorted_from _ (on_total layout.key total) (values m) (rising layout (entries m) held.keyed (entries_sorted m));
  }

  -- stored rows of which none is damaged are those of a map, where they have its keys
  pub rows_hold : (db : Trees) (m : FinMap layout.order V) → AllByRecursion (λ e. e.0 ≡ layout.key e.1) (entries m) → AreRows layout (rows_in layout.table db) (values m) → Holds layout db m
  rows_hold db m keyed are = record { rows_are = are.same; keyed = keyed; valid = each_valid layout.is_valid (entries m) are.valid }

-- the row that is taken from the end of rows is the last of them
pub last_found : {K V : Type 0} (layout : Layout K V) (stored : List Row) (last : Option V) (items before : List V) (n : ℕ) → n ≡ length items → items ≡ before ++ option_to_list last → (IsSome last ↔ (0 < n)) → AreRows layout stored items → IsLastOf layout stored last
last_found layout stored None [] before n len at some are = are
last_found layout stored None (x ∷ items) before n len at some are = let never : false ≡ true = some.1 (omega (arith, len)) in cc
last_found layout stored (Some row) items before n len at some are = (before, subst (AreRows layout stored) at are)

-- each stored row is damaged or of its type, where what is read of it tells which
pub damage_or_rows : {K V : Type 0} (layout : Layout K V) (of : Row → Result V Damaged) → ((row : Row) (v : V) → of row ≡ Ok v → (layout.is_valid v ≡ true) × (row ≡ layout.encode v)) → ((v : V) → layout.is_valid v ≡ true → of (layout.encode v) ≡ Ok v)
    → (stored : List Row) → HasDamage layout stored ⊎ ((rows : List V) × (list_all layout.is_valid rows ≡ true) × (stored ≡ map layout.encode rows))
damage_or_rows layout of sound complete [] = inr ([], refl, refl)
damage_or_rows {V = V} layout of sound complete (row ∷ stored) = go (of row) refl (damage_or_rows layout of sound complete stored)
  where
    go : (read : Result V Damaged) → of row ≡ read → HasDamage layout stored ⊎ ((rows : List V) × (list_all layout.is_valid rows ≡ true) × (stored ≡ map layout.encode rows))
        → HasDamage layout (row ∷ stored) ⊎ ((rows : List V) × (list_all layout.is_valid rows ≡ true) × (row ∷ stored ≡ map layout.encode rows))
    go (Err e) is later = inl (row, inl refl, λ v valid same. let one = sym is ∙ ap of same ∙ complete v valid in absurd (cc))
    go (Ok v) is (inl damage) = inl (damage.0, inr damage.1, damage.2)
    go (Ok v) is (inr rest) = let told = sound row v is in inr (v ∷ rest.0, both told.0 rest.1, λ i. told.1 i ∷ rest.2 i)

-- ---- what a query shows

-- an output shows all of its row, so it is one again by what it shows
module _ {under : Schema} {K V : Type 0} (layout : Layout K V) (params : Row) (stands : Row → Bool) (keep : V → Bool) (text : List ℕ) (it : ReadsStored under layout params stands keep text) (old new : State) (answer : List Row)
    (is : old.now.schema ≡ under) (shown : Shown text params old new answer) where
  abbrev query : Query
  query = reading layout.table.tree it.reads.tests it.reads.project it.reads.order

  abbrev show : Row → Output
  show values = (it.reads.sorted_by values, values)

  abbrev db : List Row
  db = old.now.trees layout.table.tree

  found : IsRead old.now.trees params layout.table.tree it.reads.tests it.reads.project it.reads.order answer
  found =
      let read = reads_as text params old new under is _ it.reads.command it.reads.plain it.reads.unlisted answer shown in
      is_read old.now.trees params layout.table.tree it.reads.tests it.reads.project it.reads.order answer read.answer

  kept : filter stands (map (values_of layout.table) db) ≡ map (values_of layout.table) (filter (passes params it.reads.tests) db)
  kept = filter-map stands (values_of layout.table) db ∙ ap (map (values_of layout.table)) (filter_same (λ r. stands (values_of layout.table r)) (passes params it.reads.tests) db (λ r here. sym (it.reads.hits r ∙ it.tested (values_of layout.table r))))

  outputs : map (λ row. output query (params ∷ row ∷ [])) (filter (passes params it.reads.tests) db) ≡ map show (filter stands (map (values_of layout.table) db))
  outputs = ap (λ f. map f (filter (passes params it.reads.tests) db)) (λ i r. it.reads.shows r i) ∙ sym (map-map show (values_of layout.table) _) ∙ ap (map show) (sym kept)

  bag : IsPermutation (map show (filter stands (map (values_of layout.table) db))) found.ordered
  bag = subst (λ l. IsPermutation l found.ordered) outputs found.same

  -- the answer is the stored rows that stand, in some order
  pub shows_stored : IsPermutation (filter stands (rows_in layout.table old.now.trees)) answer
  shows_stored =
      let some = filter stands (map (values_of layout.table) db) in
      subst₂ IsPermutation (map-map (λ (o : Output). o.1) show some ∙ map_same (λ values. values) some (all_from _ some (λ x h. refl))) (sym found.shown) (IsPermutation-map (λ (o : Output). o.1) _ _ bag)

  ordered_is : found.ordered ≡ map show answer
  ordered_is =
      let some = filter stands (map (values_of layout.table) db) in
      let each : AllByRecursion (λ (o : Output). show o.1 ≡ o) found.ordered =
      all-permutation (λ (o : Output). show o.1 ≡ o) (map show some) found.ordered bag (all_from _ (map show some) (λ o h. let from = has_mapped show some o h in let same = from.2 in ap (λ (o : Output). show o.1) same ∙ sym same)) in
      sym (map_same (λ (o : Output). show o.1) found.ordered each) ∙ sym (map-map show (λ (o : Output). o.1) found.ordered) ∙ ap (map show) (sym found.shown)

  -- where all that is shown is rows of their types, they are in the order of their keys
  pub shows_in_order : (rows : List V) → answer ≡ map layout.encode rows → IsSorted (λ v w. layout.order (layout.key v) (layout.key w)) rows
  shows_in_order rows same =
      let one : found.ordered ≡ map (λ v. show (layout.encode v)) rows = ordered_is ∙ ap (map show) same ∙ map-map show layout.encode rows in
      subst (λ (R : V → V → Ordering). IsSorted R rows) (λ i v w. it.reads.in_order v w i)
      (sorted-map (output_cmp query) (λ v. show (layout.encode v)) rows (subst (IsSorted (output_cmp query)) one found.sorted))

-- ---- what a query shows that asks for some of them

-- these are up to so many of the stored rows, sorted by this comparison
pub record AreFirstStored (most : ℕ) (cmp : Row → Row → Ordering) (stored shown : List Row) : Type 0 where
  pub ordered : List Row
  pub same : IsPermutation stored ordered
  pub sorted : IsSorted cmp ordered
  pub first : shown ≡ take most ordered

module _ {under : Schema} {K V : Type 0} (layout : Layout K V) (params : Row) (stands : Row → Bool) (keep : V → Bool) (most : ℕ) (by : V → V → Ordering) (text : List ℕ) (it : ReadsSorted under layout params keep most by text) (tested : (row : Row) → it.test row ≡ stands row)
    (cmp : Row → Row → Ordering) (in_order : (r s : Row) → output_cmp (reading_first most layout.table.tree it.tests it.project it.order) (it.sorted_by r, r) (it.sorted_by s, s) ≡ cmp r s)
    (old new : State) (answer : List Row) (is : old.now.schema ≡ under) (shown : Shown text params old new answer) where
  -- the answer is the first of the stored rows that stand
  shows_first : AreFirstStored most cmp (filter stands (rows_in layout.table old.now.trees)) answer
  shows_first =
      let q = reading_first most layout.table.tree it.tests it.project it.order in
      let read = reads_as text params old new under is _ it.command it.plain it.unlisted answer shown in
      let found = is_read_first old.now.trees params most layout.table.tree it.tests it.project it.order answer read.answer in
      let db = old.now.trees layout.table.tree in
      let show : Row → Output = λ values. (it.sorted_by values, values) in
      let some = filter stands (rows_in layout.table old.now.trees) in
      let kept : some ≡ map (values_of layout.table) (filter (passes params it.tests) db) =
      filter-map stands (values_of layout.table) db ∙ ap (map (values_of layout.table)) (filter_same (λ r. stands (values_of layout.table r)) (passes params it.tests) db (λ r here. sym (it.hits r ∙ tested (values_of layout.table r)))) in
      let outputs : map (λ row. output q (params ∷ row ∷ [])) (filter (passes params it.tests) db) ≡ map show some =
      ap (λ f. map f (filter (passes params it.tests) db)) (λ i r. it.shows r i) ∙ sym (map-map show (values_of layout.table) _) ∙ ap (map show) (sym kept) in
      let back = pull_back show _ found.ordered (subst (λ l. IsPermutation l found.ordered) outputs found.same) some refl in
      record {
        ordered = back.0;
        same = back.1;
        sorted = subst (λ (R : Row → Row → Ordering). IsSorted R back.0) (λ i r s. in_order r s i) (IsSorted-from_map (output_cmp q) show back.0 (subst (IsSorted (output_cmp q)) back.2 found.sorted));
        first = found.shown ∙ ap (take most) (ap (map (λ (o : Output). o.1)) back.2 ∙ map-map (λ (o : Output). o.1) show back.0 ∙ map_same (λ values. values) back.0 (all_from _ back.0 (λ x h. refl)));
      }

  -- so it is of the same rows in any order
  shows_first_again : (stored : List Row) → IsPermutation (rows_in layout.table old.now.trees) stored → AreFirstStored most cmp (filter stands stored) answer
  shows_first_again stored same =
      let first = shows_first in
      record { ordered = first.ordered; same = IsPermutation-trans _ _ _ (IsPermutation-sym _ _ (IsPermutation-filter stands _ _ same)) first.same; sorted = first.sorted; first = first.first }

-- from either end of a table
pub shows_front_again : {under : Schema} {K V : Type 0} (front : Front) (layout : Layout K V) (params : Row) (stands : Row → Bool) (keep : V → Bool) (text : List ℕ) → ReadsFrontStored under front layout params stands keep text → (old new : State) (answer : List Row)
    → old.now.schema ≡ under → Shown text params old new answer → (stored : List Row) → IsPermutation (rows_in layout.table old.now.trees) stored → IsFrontOf front layout.table (filter stands stored) answer
shows_front_again front layout params stands keep text it old new answer is shown stored same =
    let first = shows_first_again layout params stands keep front.most (keys_cmp layout front.backwards) text it.reads it.tested (stored_cmp layout.table front.backwards) it.in_order old new answer is shown stored same in
    record { ordered = first.ordered; same = first.same; sorted = first.sorted; first = first.first }

-- ---- what a query shows that asks for the row of a greatest value

-- nothing where none is stored; or a row that has the greatest
abbrev pub ShowsGreatest : ℕ → List Row → List Row → Type 0
ShowsGreatest place stored [] = stored ≡ []
ShowsGreatest place stored (shown ∷ more) = IsGreatestIn place stored shown × (more ≡ [])

none_from : (stored : List Row) → IsPermutation stored [] → stored ≡ []
none_from [] same = refl
none_from (r ∷ stored) same = let none = all-permutation (λ s. ⊥) [] (r ∷ stored) (IsPermutation-sym _ _ same) tt in absurd none.0

module _ (place : ℕ) where
  abbrev falling : Row → Row → Ordering
  falling r s = value_cmp (column s place) (column r place)

  first_has_greatest : (stored shown : List Row) → AreFirstStored 1 falling stored shown → ShowsGreatest place stored shown
  first_has_greatest stored shown answer = subst (ShowsGreatest place stored) (sym answer.first) (go answer.ordered answer.same answer.sorted)
    where
      go : (ordered : List Row) → IsPermutation stored ordered → IsSorted falling ordered → ShowsGreatest place stored (take 1 ordered)
      go [] same sorted = none_from stored same
      go (r ∷ ordered) same sorted =
          let up = ascending_from_sorted falling (on_total (λ s. column s place) (back_total value_cmp_total)) (r ∷ ordered) sorted in
          let back = IsPermutation-sym _ _ same in (
            record {
              among = has_again stored (r ∷ ordered) r same (inl refl);
              none_greater = all-permutation (λ s. is_gt (value_cmp (column s place) (column r place)) ≡ false) (r ∷ ordered) stored back (ap is_gt (tied_itself value_cmp_total (column r place)), up.0);
            },
            refl,
          )

pub shows_greatest : {under : Schema} {K V : Type 0} (place : ℕ) (layout : Layout K V) (params : Row) (stands : Row → Bool) (keep : V → Bool) (measure : V → ℕ) (text : List ℕ) → ReadsGreatestStored under place layout params stands keep measure text → (old new : State) (answer : List Row)
    → old.now.schema ≡ under → Shown text params old new answer → (stored : List Row) → IsPermutation (rows_in layout.table old.now.trees) stored → ShowsGreatest place (filter stands stored) answer
shows_greatest place layout params stands keep measure text it old new answer is shown stored same =
    first_has_greatest place (filter stands stored) answer (shows_first_again layout params stands keep 1 (λ v w. nat_cmp (measure w) (measure v)) text it.reads it.tested (falling place) it.in_order old new answer is shown stored same)

-- of records, the anchor of the row that is shown is the greatest
pub anchor_shown : (stored : List Row) (rows : List ChangeRow) → list_all row.change.is_valid rows ≡ true → ShowsGreatest anchor_column stored (map row.change.encode rows) → IsGreatestAnchor stored (unwrap_or (option_map (λ r. r.anchor) (slice_get rows 0)) 0)
anchor_shown stored [] valid shows = inl (shows, refl)
anchor_shown stored (r ∷ rows) valid shows = inr (r, (and_parts _ _ valid).0, shows.0, refl)

-- or that row is damaged
pub anchor_damaged : (stored answer : List Row) → ShowsGreatest anchor_column stored answer → HasDamage row.change answer → HasGreatestDamaged stored
anchor_damaged stored [] shows damage = absurd damage.1
anchor_damaged stored (shown ∷ more) shows (damaged, inl same, why) = (damaged, subst (IsGreatestIn anchor_column stored) (sym same) shows.0, why)
anchor_damaged stored (shown ∷ more) shows (damaged, inr later, why) = absurd (subst (λ rows. Has rows damaged) shows.1 later)
