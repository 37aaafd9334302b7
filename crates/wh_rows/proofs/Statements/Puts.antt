-- Putting one row over the row of its key, and changing the row of a key.
use Rattle.std.proofs.Common.{◌≡◌, ◌≢◌, ◌⊎◌, inl, inr, ℕ, List, [], ◌∷◌, ◌++◌, map, filter, Bool, true, false, not, ◌&&◌, Option, None, Some, Ok, refl, sym, ap, ap₂, subst, ◌∙◌, arith, Equal}
use Rattle.std.specs.Prelude.{IsTrue}
use Rattle.std.specs.Option.{option_to_list}
use Rattle.std.specs.Ordering.{is_eq, eq_by_cmp}
use Rattle.std.specs.Cmp.{IsTotalOrder}
use Rattle.std.specs.List.Sorted.{IsPermutation}
use Rattle.std.specs.FinMap.{FinMap, entries, values, get, insert, IsAntisymmetric}
use Rattle.std.proofs.lemmas.Bool.{not-true, cases_Bool}
use Rattle.std.proofs.lemmas.Cmp.{tied_itself}
use Rattle.std.proofs.lemmas.List.Sorted.{IsPermutation-sym, IsPermutation-trans, IsPermutation-map, IsPermutation-cons, length_permutation}
use Rattle.sqlite_value.specs.Order.{Row, value_cmp}
use Rattle.sqlite_value.proofs.OrderLemmas.{value_cmp_total}
use Rattle.sqlite_value.specs.declared.value.Value.TheVariants.{Int}
use Rattle.sqlite_value.specs.declared.keys.Collation.TheVariants.{Binary}
use Rattle.sqlite_schema.specs.Rules.{equal, agree, differ, clashes, guards}
use Rattle.sqlite_schema.specs.Rules as rules
use Rattle.sqlite_schema.specs.declared.schema.Constraint.TheVariants.{Unique}
use Rattle.sqlite_schema.specs.declared.command.Conflict.TheVariants.{Abort}
use Rattle.sqlite_schema.specs.declared.command.Upsert.{Upsert}
use Rattle.sqlite_rules.specs.Lists.{Has}
use Rattle.sqlite_rules.specs.Keys.{conflicts}
use Rattle.sqlite_rules.specs.Cast.{cast_row}
use Rattle.sqlite_rules.specs.Edit.{id_in, with_rowid}
use Rattle.sqlite_rules.specs.declared.error.Rowids.TheVariants.{Chosen}
use Rattle.sqlite_rules.proofs.ListLemmas.{all_has, all_from, test_has, has_filtered, has_kept}
use Rattle.sqlite_rules.proofs.TableLemmas.{int_is, has_put, put_all_keeps}
use Rattle.sqlite_rules.proofs.ProbeLemmas.{has_mapped, mapped_has}
use Rattle.sqlite_trees.proofs.ListLemmas.{all-slice_get, all-permutation}
use Rattle.sqlite_rules.proofs.PlaceLemmas.{tied_same}
use Rattle.sqlite_trees.specs.Tree.{Trees, rowid}
use Rattle.sqlite_trees.specs.declared.store.Shape.TheVariants.{Table}
use Rattle.sqlite_trees.proofs.TreeLemmas.{IsShaped-filter, IsShaped-put_row}
use Rattle.sqlite.specs.Source.TheVariants.{Values}
use Rattle.sqlite.specs.Command.TheVariants.{InsertOr, Update}
use Rattle.std.specs.List.{AllByRecursion}
use Rattle.sqlite.specs.Effect.{Database, IsDatabase}
use Rattle.sqlite.specs.Rows.{Written, Updates, shown}
use Rattle.sqlite.specs.Does.{Does}
use Rattle.sqlite_catalog.specs.Listing.{IsSound}
use Rattle.sqlite.specs.Listing.{understood}
use Rattle.sqlite.specs.State.{State, Executes, mode_of}
use Rattle.sqlite.proofs.Callers.{statement_of, runs_as, one_permutation}
use Rattle.sqlite.specs.Schema.{Schema}
use Rattle.wh_rows.specs.Holds.{Layout, values_of, HasRows, Holds, IsRising}
use Rattle.wh_rows.specs.OneTable.{LeavesOthers}
use Rattle.wh_rows.specs.Meaning.{passes, same_rowid, PutsOne, MovesOne, moved_at, KeepsApart}
use Rattle.wh_rows.proofs.Edits.{task_for}
use Rattle.wh_rows.proofs.Keys.{equal-tie, differ-tie, apart_is, and-true, equal_is, misses}
use Rattle.wh_rows.proofs.Typed.{holds_filtered, put_is_more}
use Rattle.wh_rows.proofs.Maps.{values-insert, other_rows, keyed-insert, all-insert, filter-get}
use Rattle.wh_rows.proofs.Over.{only_one, IsPutOver, IsUpserted, rewritten, updating, updates_one, updates_none, updated, upserted}

-- ---- the row of a key

nothing_shown : {A B C : Type 0} (f : A → B) (g : C → B) (xs : List A) → IsPermutation (map f xs) (map g []) → xs ≡ []
nothing_shown f g [] same = refl
nothing_shown f g (x ∷ xs) same = absurd (let e = length_permutation (map f (x ∷ xs)) (map g []) same in cc)

one_shown : {A B C : Type 0} (f : A → B) (g : C → B) (xs : List A) (c : C) → IsPermutation (map f xs) (map g (c ∷ [])) → (x : A) × (xs ≡ x ∷ []) × (f x ≡ g c)
one_shown f g [] c same = absurd (let e = length_permutation (map f []) (map g (c ∷ [])) same in cc)
one_shown f g (x ∷ []) c same = (x, refl, let e = one_permutation (g c) (f x ∷ []) (IsPermutation-sym _ _ same) in cc)
one_shown f g (x ∷ y ∷ more) c same = absurd (let e = length_permutation (map f (x ∷ y ∷ more)) (map g (c ∷ [])) same in omega (arith, e))

module _ {K V : Type 0} (layout : Layout K V) (total : IsTotalOrder layout.order) (same : IsAntisymmetric layout.order) (db : Trees) (rising : IsRising (db layout.table.tree))
    (m : FinMap layout.order V) (held : Holds layout db m) (k : K) (pass : Row → Bool) (test : Row → Bool) (hits : (r : Row) → pass r ≡ test (values_of layout.table r))
    (agree : (w : V) → test (layout.encode w) ≡ eq_by_cmp layout.order k (layout.key w)) where
  abbrev rows : List Row
  rows = db layout.table.tree

  bag : IsPermutation (map (values_of layout.table) (filter pass rows)) (map layout.encode (option_to_list (get m k)))
  bag = subst (λ l. IsPermutation (map (values_of layout.table) (filter pass rows)) (map layout.encode l)) (filter-get layout.order total layout.key m k held.keyed)
      (holds_filtered layout test (λ w. eq_by_cmp layout.order k (layout.key w)) pass rows (values m) (λ w here. agree w) (λ r here. hits r) held.rows_are)

  pub none_there : get m k ≡ None → filter pass rows ≡ []
  none_there none = nothing_shown (values_of layout.table) layout.encode _ (subst (λ o. IsPermutation (map (values_of layout.table) (filter pass rows)) (map layout.encode (option_to_list o))) none bag)

  pub one_there : (w : V) → get m k ≡ Some w → (r : Row) × (filter pass rows ≡ r ∷ []) × (values_of layout.table r ≡ layout.encode w)
  one_there w some = one_shown (values_of layout.table) layout.encode _ w (subst (λ o. IsPermutation (map (values_of layout.table) (filter pass rows)) (map layout.encode (option_to_list o))) some bag)

  -- a row that passes is the one of the key
  pub it_is : (r : Row) → Has rows r → pass r ≡ true → (filter pass rows ≡ r ∷ []) × (w : V) × (get m k ≡ Some w) × (values_of layout.table r ≡ layout.encode w) × (k ≡ layout.key w)
  it_is r here hit = go (get m k) refl
    where
      go : (o : Option V) → get m k ≡ o → (filter pass rows ≡ r ∷ []) × (w : V) × (get m k ≡ Some w) × (values_of layout.table r ≡ layout.encode w) × (k ≡ layout.key w)
      go None is = absurd (subst (λ l. Has l r) (none_there is) (has_kept pass rows r here hit))
      go (Some w) is =
          let one = one_there w is in
          let first : r ≡ one.0 = elim (subst (λ l. Has l r) one.1 (has_kept pass rows r here hit)) [ inl e ↦ e | inr later ↦ absurd later ] in
          let values : values_of layout.table r ≡ layout.encode w = ap (values_of layout.table) first ∙ one.2 in
          let tied : eq_by_cmp layout.order k (layout.key w) ≡ true = sym (agree w) ∙ ap test (sym values) ∙ sym (hits r) ∙ hit in
          (one.1 ∙ ap (λ x. x ∷ []) (sym first), w, is, values, same k (layout.key w) (equal_is _ tied))

  module _ (v : V) (key_is : k ≡ layout.key v) (schema : _) (trees : Trees) (new : Row) (is : values_of layout.table new ≡ layout.encode v) (put : IsPutOver layout.table schema db pass new trees) where
    -- the row stands in place of that of its key
    pub holds_over : IsTrue (layout.is_valid v) → Holds layout trees (insert m k v)
    holds_over valid =
        let keep : V → Bool = λ w. not (eq_by_cmp layout.order k (layout.key w)) in
        let left = holds_filtered layout (λ r. not (test r)) keep (λ r. not (pass r)) rows (values m) (λ w here. ap not (agree w)) (λ r here. ap not (hits r)) held.rows_are in
        let more : IsPermutation (trees layout.table.tree) (new ∷ filter (λ r. not (pass r)) rows) =
        subst (λ l. IsPermutation l (new ∷ filter (λ r. not (pass r)) rows)) (sym put.rows) (put_is_more new _ put.fresh) in
        let there : HasRows layout trees (v ∷ filter keep (values m)) =
        IsPermutation-trans _ _ _ (IsPermutation-map (values_of layout.table) _ _ more)
        (subst (λ first. IsPermutation (first ∷ map (values_of layout.table) (filter (λ r. not (pass r)) rows)) (map layout.encode (v ∷ filter keep (values m)))) (sym is) (IsPermutation-cons (layout.encode v) _ _ left)) in
        let others = other_rows layout.order same layout.key k (entries m) held.keyed in
        let all = IsPermutation-sym _ _ (values-insert layout.order total m k v) in
        record {
          rows_are = IsPermutation-trans _ _ _ (subst (λ l. HasRows layout trees (v ∷ l)) others there) (IsPermutation-map layout.encode _ _ all);
          keyed = rw key_is (keyed-insert layout.order same layout.key total m v held.keyed);
          valid = all-insert layout.order (λ w. IsTrue (layout.is_valid w)) total m k v valid held.valid;
        }

    pub rises_over : IsRising (trees layout.table.tree)
    rises_over = subst IsRising (sym put.rows) (IsShaped-put_row new _ put.keyed (IsShaped-filter Table _ rows rising))

-- the row that is there is the one of its rowid
rowid_finds : (rows : List Row) (r : Row) (tests : Row → Bool) → IsRising rows → Has rows r → ((x : Row) → tests x ≡ (equal Binary (rowid x) (rowid r) && true)) → filter tests rows ≡ r ∷ []
rowid_finds rows r tests rising here is = only_one tests rows r rising.0 here (is r ∙ and-true _ ∙ tie r here refl) (λ x there hit. tied_same rows x r rising.0 there here (untie x there (sym (and-true _) ∙ sym (is x) ∙ hit)))
  where
    number : (x : Row) → Has rows x → rowid x ≡ Int (id_in (rowid x))
    number x there = int_is (rowid x) (all_has _ rows x rising.1 there)

    eq : (x : Row) → Has rows x → equal Binary (rowid x) (rowid r) ≡ is_eq (value_cmp (rowid x) (rowid r))
    eq x there = rw (number x there, number r here) (equal-tie _ _)

    tie : (x : Row) → Has rows x → x ≡ r → equal Binary (rowid x) (rowid r) ≡ true
    tie x there same = eq x there ∙ rw same (ap is_eq (tied_itself value_cmp_total (rowid r)))

    untie : (x : Row) → Has rows x → equal Binary (rowid x) (rowid r) ≡ true → value_cmp (rowid x) (rowid r) ≡ Equal
    untie x there hit = equal_is _ (sym (eq x there) ∙ hit)

cc_some : {X : Type 0} {x y : X} → ◌≡◌ {A = Option X} (Some x) (Some y) → x ≡ y
cc_some e = cc

pub has_permuted : {X : Type 0} {xs ys : List X} → IsPermutation xs ys → (x : X) → Has xs x → Has ys x
has_permuted {X} {xs} {ys} same x here = all_has (λ y. Has ys y) xs x (all-permutation (λ y. Has ys y) ys xs (IsPermutation-sym _ _ same) (all_from (λ y. Has ys y) ys (λ y h. h))) here

-- ---- the upsert

module _ {under : Schema} {K V : Type 0} (layout : Layout K V) (total : IsTotalOrder layout.order) (same : IsAntisymmetric layout.order) (text : List ℕ) (it : PutsOne under layout text) (old new : State) (v : V) (count : ℕ)
    (is : old.now.schema ≡ under) (rising : IsRising (old.now.trees layout.table.tree)) (m : FinMap layout.order V) (held : Holds layout old.now.trees m)
    (ran : Executes text (layout.encode v) old new (Ok count)) where
  abbrev there : List Row
  there = old.now.trees layout.table.tree

  abbrev rowed : Row
  rowed = with_rowid Chosen there (it.source v)

  abbrev pass : Row → Bool
  pass = conflicts (Some it.target) under.indexes layout.table rowed

  key_row : (r : Row) → Has there r → pass r ≡ true → (filter pass there ≡ r ∷ []) × (w : V) × (get m (layout.key v) ≡ Some w) × (values_of layout.table r ≡ layout.encode w) × (layout.key v ≡ layout.key w)
  key_row = it_is layout total same old.now.trees rising m held (layout.key v) pass (it.test v) (it.hits v there) (it.agree v)

  pub is_upserted : IsUpserted layout.table under old.now.trees (layout.encode v) it.target (same_rowid it.here) it.cells rowed new.now.trees × (new.now.schema ≡ under)
  is_upserted =
      let w = runs_as text (layout.encode v) old new under is _ it.command it.plain count ran in
      let db : Database = record { schema = under; trees = old.now.trees } in
      let clause : Upsert = record { target = Some it.target; update = Some (updating layout.table.tree (same_rowid it.here) it.cells) } in
      let sql = statement_of text (understood under text) in
      let changed = subst (λ s. Does old.step_limit (mode_of old) (layout.encode v) (record old.now { schema = s }) sql None (InsertOr it.at Abort (Values it.terms it.width) (clause ∷ [])) (Ok (w.tally, new.now))) is w.changed in
      upserted old.step_limit (mode_of old) (layout.encode v) db it.at layout.table it.table it.target (same_rowid it.here) it.cells rising rowed (it.kept v there)
      (λ r here hit. (key_row r here hit).0) (λ r here. rowid_finds there r _ rising here (it.finds v there (rowid r)))
      sql it.terms it.width (it.source v) w.tally new.now (it.given v) (it.own v) refl changed

  row_shows : (row : Row) → (row ≡ rowed) ⊎ ((r : Row) × Has there r × (pass r ≡ true) × (row ≡ rewritten layout.table (same_rowid it.here) it.cells (layout.encode v ++ rowid r ∷ shown layout.table rowed) r))
      → values_of layout.table row ≡ layout.encode v
  row_shows row (inl first) = ap (values_of layout.table) first ∙ it.shows v there
  row_shows row (inr was) =
      let r = was.0 in
      let found = key_row r was.1 was.2 in
      let n = id_in (rowid r) in
      let number : rowid r ≡ Int n = int_is (rowid r) (all_has _ there r rising.1 was.1) in
      let made = it.remade v found.1 (sym found.4) r n number found.3 in
      let wrote = it.writes v there (rowid r) r ∙ ap (λ id. id ∷ it.over v (values_of layout.table r)) number ∙ ap (λ vs. Int n ∷ it.over v vs) found.3 in
      ap (values_of layout.table) (was.3 ∙ ap (cast_row layout.table) wrote ∙ made.0) ∙ made.1

  -- whatever else the table holds, the row is at its key then
  pub holds_put : IsTrue (layout.is_valid v) → Holds layout new.now.trees (insert m (layout.key v) v)
  holds_put valid =
      holds_over layout total same old.now.trees rising m held (layout.key v) pass (it.test v) (it.hits v there) (it.agree v) v refl under new.now.trees is_upserted.0.row (row_shows is_upserted.0.row is_upserted.0.from) is_upserted.0.over valid

  pub leaves : LeavesOthers under layout.table old.now new.now
  leaves = record {
    schema = is_upserted.1;
    sound = (runs_as text (layout.encode v) old new under is _ it.command it.plain count ran).sound;
    rising = rises_over layout total same old.now.trees rising m held (layout.key v) pass (it.test v) (it.hits v there) (it.agree v) v refl under new.now.trees is_upserted.0.row (row_shows is_upserted.0.row is_upserted.0.from) is_upserted.0.over;
    others = is_upserted.0.over.others;
  }

  -- ---- a second key

  module _ (clash : V → V → Bool) (second : KeepsApart under layout clash) where
    abbrev after : List Row
    after = new.now.trees layout.table.tree

    abbrev put : Row
    put = is_upserted.0.row

    -- no two rows of the table agree on it
    alone : (r : Row) → Has after r → is_eq (value_cmp (rowid r) (rowid put)) ≡ false → agree second.index.order second.index.columns r second.index.columns put ≡ false
    alone r here other =
        let sound = subst (λ s. IsSound s new.now.trees) is_upserted.1 (runs_as text (layout.encode v) old new under is _ it.command it.plain count ran).sound in
        let each = all-slice_get (λ t. AllByRecursion (λ row. rules.passes Unique under new.now.trees t row ≡ true) (new.now.trees t.tree)) under.tables it.at layout.table it.table.has (sound.obeys.rules Unique) in
        let placed : Has after put = subst (λ l. Has l put) (sym is_upserted.0.over.rows) (has_put put _) in
        let one = test_has (λ i. not (guards i layout.table && clashes i.order i.columns after put)) under.indexes second.index (all_has (λ row. rules.passes Unique under new.now.trees layout.table row ≡ true) after put each placed) second.among in
        let none : clashes second.index.order second.index.columns after put ≡ false = not-true (clashes second.index.order second.index.columns after put) (ap (λ b. not (b && clashes second.index.order second.index.columns after put)) (sym second.guards) ∙ one) in
        let both = misses (λ other. agree second.index.order second.index.columns other second.index.columns put && differ (rowid other) (rowid put)) after r none here in
        let rises : IsRising after = leaves.rising in
        let far : differ (rowid r) (rowid put) ≡ true =
        ap₂ differ (int_is (rowid r) (all_has _ after r rises.1 here)) (int_is (rowid put) is_upserted.0.over.keyed) ∙ differ-tie _ _
        ∙ apart_is _ (ap₂ (λ a b. is_eq (value_cmp a b)) (sym (int_is (rowid r) (all_has _ after r rises.1 here))) (sym (int_is (rowid put) is_upserted.0.over.keyed)) ∙ other) in
        sym (and-true _) ∙ ap (λ b. agree second.index.order second.index.columns r second.index.columns put && b) (sym far) ∙ both

    -- the row went in, so no row of another key had its second key
    pub was_free : (w : V) → Has (values m) w → layout.key w ≢ layout.key v → clash v w ≡ false
    was_free w here other =
        let shown = has_permuted (IsPermutation-sym _ _ held.rows_are) (layout.encode w) (mapped_has layout.encode (values m) w here) in
        let from = has_mapped (values_of layout.table) there (layout.encode w) shown in
        let r = from.0 in
        let missed : pass r ≡ false = it.hits v there r ∙ ap (it.test v) (sym from.2) ∙ it.agree v w ∙ elim (cases_Bool (eq_by_cmp layout.order (layout.key v) (layout.key w))) [
          | inl tied ↦ absurd (other (sym (same (layout.key v) (layout.key w) (equal_is _ tied))))
          | inr apart ↦ apart
        ] in
        let stays : Has (filter (λ r. not (pass r)) there) r = has_kept _ there r from.1 (rw missed refl) in
        let far : is_eq (value_cmp (rowid r) (rowid put)) ≡ false = misses (λ x. is_eq (value_cmp (rowid x) (rowid put))) _ r is_upserted.0.over.fresh stays in
        let late : Has after r = subst (λ l. Has l r) (sym is_upserted.0.over.rows) (put_all_keeps (put ∷ []) _ r (rw is_upserted.0.over.fresh refl) stays) in
        sym (second.same v w) ∙ ap₂ second.meets from.2 (sym (row_shows put is_upserted.0.from)) ∙ sym (second.agrees r put) ∙ alone r late far

-- ---- the UPDATE of one key

module _ {under : Schema} {K V P : Type 0} (layout : Layout K V) (total : IsTotalOrder layout.order) (same : IsAntisymmetric layout.order) (bind : P → Row) (key : P → K) (moved : P → V → V) (text : List ℕ)
    (it : MovesOne under layout bind key moved text) (old new : State) (p : P) (count : ℕ) (is : old.now.schema ≡ under) (rising : IsRising (old.now.trees layout.table.tree))
    (m : FinMap layout.order V) (held : Holds layout old.now.trees m) (ran : Executes text (bind p) old new (Ok count)) where
  abbrev before : List Row
  before = old.now.trees layout.table.tree

  abbrev found : Row → Bool
  found = passes (bind p) it.tests

  abbrev db : Database
  db = record { schema = under; trees = old.now.trees }

  ended : (w : Written) × Updates (task_for old.step_limit (mode_of old) (bind p) db layout.table) (updating layout.table.tree it.tests it.cells) (bind p) old.now.trees (Ok w) × (new.now ≡ record { schema = under; trees = w.trees })
  ended =
      let w = runs_as text (bind p) old new under is _ it.command it.plain count ran in
      let sql = statement_of text (understood under text) in
      let q = updating layout.table.tree it.tests it.cells in
      let changed = subst (λ s. Does old.step_limit (mode_of old) (bind p) (record old.now { schema = s }) sql None (Update it.at q) (Ok (w.tally, new.now))) is w.changed in
      updated old.step_limit (mode_of old) (bind p) db it.at layout.table it.table sql q w.tally new.now changed

  -- the map is as it was, or has the changed row at the key; nothing else differs
  pub record IsMoved : Type 0 where
    pub holds : ((w : V) → get m (key p) ≡ Some w → IsTrue (layout.is_valid (moved p w))) → Holds layout new.now.trees (moved_at m (key p) (moved p) (get m (key p)))
    pub leaves : LeavesOthers under layout.table old.now new.now

  pub is_moved : IsMoved
  is_moved = go (get m (key p)) refl
    where
      sound : IsDatabase new.now
      sound = (runs_as text (bind p) old new under is _ it.command it.plain count ran).sound

      trees_are : new.now.trees ≡ ended.0.trees
      trees_are = ap (λ (d : Database). d.trees) ended.2

      go : (o : Option V) → get m (key p) ≡ o → IsMoved
      go None none =
          let left = updates_none old.step_limit (mode_of old) (bind p) db it.at layout.table it.table it.tests it.cells (bind p) ended.0
          (none_there layout total same old.now.trees rising m held (key p) found (it.test p) (it.hits p) (it.agree p) none) ended.1 in
          let rows : new.now.trees layout.table.tree ≡ before = ap (λ (t : Trees). t layout.table.tree) trees_are ∙ left.rows in
          record {
            holds = λ valid. subst (λ o. Holds layout new.now.trees (moved_at m (key p) (moved p) o)) (sym none)
                (record { rows_are = subst (λ l. IsPermutation (map (values_of layout.table) l) (map layout.encode (values m))) (sym rows) held.rows_are; keyed = held.keyed; valid = held.valid });
            leaves = record {
              schema = ap (λ (d : Database). d.schema) ended.2;
              sound = sound;
              rising = subst IsRising (sym rows) rising;
              others = subst (λ (t : Trees). AllByRecursion (λ s. s.tree ≢ layout.table.tree → t s.tree ≡ old.now.trees s.tree) under.tables) (sym trees_are) left.others;
            };
          }
      go (Some w) some =
          let one = one_there layout total same old.now.trees rising m held (key p) found (it.test p) (it.hits p) (it.agree p) w some in
          let r = one.0 in
          let here : Has before r × (found r ≡ true) = has_filtered found before r (subst (λ l. Has l r) (sym one.1) (inl refl)) in
          let which = it_is layout total same old.now.trees rising m held (key p) found (it.test p) (it.hits p) (it.agree p) r here.0 here.1 in
          let same_row : which.1 ≡ w = cc_some (sym which.2 ∙ some) in
          let key_is : key p ≡ layout.key (moved p w) = which.4 ∙ ap layout.key same_row ∙ sym (it.same_key p w) in
          let put = updates_one old.step_limit (mode_of old) (bind p) db it.at layout.table it.table it.tests it.cells (bind p) ended.0 r found rising one.1 one.1 ended.1 in
          let put_now : IsPutOver layout.table under old.now.trees found (rewritten layout.table it.tests it.cells (bind p) r) new.now.trees =
          subst (IsPutOver layout.table under old.now.trees found (rewritten layout.table it.tests it.cells (bind p) r)) (sym trees_are) put in
          let n = id_in (rowid r) in
          let number : rowid r ≡ Int n = int_is (rowid r) (all_has _ before r rising.1 here.0) in
          let made = it.remade p w r n number one.2 in
          let wrote = it.writes p r ∙ ap (λ id. id ∷ it.over p (values_of layout.table r)) number ∙ ap (λ vs. Int n ∷ it.over p vs) one.2 in
          let shows : values_of layout.table (rewritten layout.table it.tests it.cells (bind p) r) ≡ layout.encode (moved p w) = ap (values_of layout.table) (ap (cast_row layout.table) wrote ∙ made.0) ∙ made.1 in
          record {
            holds = λ valid. subst (λ o. Holds layout new.now.trees (moved_at m (key p) (moved p) o)) (sym some)
                (holds_over layout total same old.now.trees rising m held (key p) found (it.test p) (it.hits p) (it.agree p) (moved p w) key_is under new.now.trees _ shows put_now (valid w some));
            leaves = record {
              schema = ap (λ (d : Database). d.schema) ended.2;
              sound = sound;
              rising = rises_over layout total same old.now.trees rising m held (key p) found (it.test p) (it.hits p) (it.agree p) (moved p w) key_is under new.now.trees _ shows put_now;
              others = put_now.others;
            };
          }
