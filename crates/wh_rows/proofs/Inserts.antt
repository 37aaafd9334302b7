-- Putting in rows by one plain INSERT.
use Rattle.std.proofs.Common.{◌≡◌, inl, inr, ℕ, zero, suc, ◌≤◌, ℤ, List, [], ◌∷◌, ◌++◌, map, filter, drop, length, ◌/◌, append-nil, Bool, true, not, None, Ok, Option, refl, sym, ap, ap₂, subst, subst₂, ◌∙◌, arith}
use Rattle.std.specs.Prelude.{IsTrue, flat_map}
use Rattle.std.specs.List.{AllByRecursion}
use Rattle.std.specs.List.Sorted.{IsPermutation}
use Rattle.std.specs.Ordering.{is_eq, eq_by_cmp}
use Rattle.std.specs.Cmp.{IsTotalOrder}
use Rattle.std.specs.FinMap.{FinMap, entries, values, insert, IsAntisymmetric}
use Rattle.std.proofs.lemmas.Bool.{and_parts, not-true, cases_Bool}
use Rattle.std.proofs.lemmas.Cmp.{tied_itself}
use Rattle.std.proofs.lemmas.List.{length-map, map-append}
use Rattle.std.proofs.lemmas.List.Sorted.{IsPermutation-refl, IsPermutation-sym, IsPermutation-trans, IsPermutation-map, IsPermutation-append, IsPermutation-middle, length_permutation}
use Rattle.sqlite_value.specs.Order.{Row}
use Rattle.sqlite_trees.specs.Tree.{Trees, put_row}
use Rattle.sqlite_trees.proofs.ListLemmas.{filter_all, filter-map, IsPermutation-filter}
use Rattle.sqlite_trees.proofs.TreeLemmas.{IsShaped-put_row}
use Rattle.sqlite_rules.specs.Lists.{Has}
use Rattle.sqlite_rules.specs.Cast.{cast_row}
use Rattle.sqlite_rules.specs.Edit.{Edit, Applies, edit_of, taken_by, numbered, with_rowid, put_all, are_fresh, have_rowids}
use Rattle.sqlite_rules.specs.declared.error.Rowids.{Rowids}
use Rattle.sqlite_rules.specs.declared.error.Rowids.TheVariants.{Chosen}
use Rattle.sqlite_rules.proofs.ListLemmas.{all_from, has_kept, has_right}
use Rattle.sqlite.specs.Term.{Term}
use Rattle.sqlite.specs.Table.{Table}
use Rattle.sqlite.specs.Source.TheVariants.{Values}
use Rattle.sqlite.specs.Command.TheVariants.{Insert}
use Rattle.sqlite.specs.declared.run.Mode.{Mode}
use Rattle.sqlite.specs.Effect.{Database, value_rows}
use Rattle.sqlite.specs.Rows.{Written, Task, Inserts, Counts, rowids_for, stamped, count_of}
use Rattle.sqlite.specs.Does.{Tally, Does, AtPlace, OnRows}
use Rattle.sqlite.specs.Listing.{understood}
use Rattle.sqlite.specs.State.{State, Executes, mode_of}
use Rattle.sqlite.proofs.Callers.{statement_of, runs_as, one_step}
use Rattle.sqlite.specs.Schema.{Schema}
use Rattle.wh_rows.specs.Holds.{Layout, values_of, HasRows, Holds, IsRising}
use Rattle.wh_rows.specs.OneTable.{LeavesOthers}
use Rattle.wh_rows.specs.Meaning.{IsPlainTable, InsertsEach}
use Rattle.wh_rows.proofs.Edits.{went, same_value, task_for, concluded}
use Rattle.wh_rows.proofs.Maps.{values-insert, other_rows, keyed-insert, all-insert}
use Rattle.wh_rows.proofs.Typed.{put_is_more}
use Rattle.wh_rows.specs.Steps.{with_rows}

-- ---- a list that is written out

abbrev pub OfEach : {X : Type 0} → ℕ → (List X → Type 0) → Type 0
OfEach zero P = P []
OfEach {X} (suc n) P = (x : X) → OfEach n (λ xs. P (x ∷ xs))

-- what holds of all lists that are written out with so many holds of each list of so many
pub written_out : {X : Type 0} (n : ℕ) (P : List X → Type 0) → OfEach n P → (xs : List X) → length xs ≡ n → P xs
written_out zero P each [] is = each
written_out zero P each (x ∷ xs) is = absurd (omega (arith, is))
written_out (suc n) P each [] is = absurd (omega (arith, is))
written_out (suc n) P each (x ∷ xs) is = written_out n (λ xs. P (x ∷ xs)) (each x) xs (omega (arith, is))

-- ---- rows that are put where their rowids are free

put_all_more : (news rows : List Row) → are_fresh rows news ≡ true → IsPermutation (put_all rows news) (news ++ rows)
put_all_more [] rows fresh = IsPermutation-refl rows
put_all_more (n ∷ news) rows fresh =
    let parts = and_parts _ _ fresh in
    IsPermutation-trans _ _ _ (put_all_more news (put_row n rows) parts.1)
    (IsPermutation-trans _ _ _ (IsPermutation-append news news _ _ (IsPermutation-refl news) (put_is_more n rows (not-true _ parts.0))) (IsPermutation-middle news n rows))

put_all_rises : (news rows : List Row) → have_rowids news ≡ true → IsRising rows → IsRising (put_all rows news)
put_all_rises [] rows keyed rising = rising
put_all_rises (n ∷ news) rows keyed rising = let parts = and_parts _ _ keyed in put_all_rises news (put_row n rows) parts.1 (IsShaped-put_row n rows parts.0 rising)

-- ---- the statement

module _ (limit : Option ℕ) (mode : Mode) (params : Row) (db : Database) (at : ℕ) (table : Table) (plain : IsPlainTable db.schema at table) where
  abbrev task : Task
  task = task_for limit mode params db table

  -- a table that is not counted chooses the next number
  pub uncounted_rowids : (top : ℤ) → rowids_for table top ≡ Chosen
  uncounted_rowids top = rw plain.uncounted

  -- and counts nothing
  pub uncounted : (mid : Trees) (counter : Option Row) (top : ℤ) (next : Trees) → Counts task mid counter top (Ok next) → next ≡ mid
  uncounted mid counter top next h = same_value (rw plain.uncounted at h)

  -- a table that is not stamped adds nothing to what is given
  pub unstamped : stamped table params ≡ params
  unstamped = rw plain.unstamped (append-nil params)

  abbrev edit : Rowids → List Row → Edit
  edit rowids rows = edit_of db.trees table [] rowids 0 rows

  inserts : (terms : List Term) (width : ℕ) (w : Written) → Inserts task (Values terms width) db.trees (Ok w)
      → Applies db.schema mode.keys db.trees (edit Chosen (value_rows params width (length terms / width) terms)) w.trees
  inserts terms width w h =
      let given = went h in
      let counter = went given.2 in
      let step = went counter.2 in
      let end = went step.2 in
      let it = edit (rowids_for table (count_of counter.0)) given.0 in
      let made : Applies db.schema mode.keys db.trees it step.0 = one_step db.schema mode.keys db.trees step.0 it (plain.idle mode.keys (taken_by db.trees it) it.news) step.1 in
      let rows : given.0 ≡ value_rows params width (length terms / width) terms = given.1.1 ∙ ap (λ p. value_rows p width (length terms / width) terms) unstamped in
      let is : w.trees ≡ step.0 = ap (λ (w : Written). w.trees) (same_value end.2) ∙ uncounted step.0 counter.0 _ end.0 end.1 in
      subst (λ trees. Applies db.schema mode.keys db.trees (edit Chosen (value_rows params width (length terms / width) terms)) trees) (sym is)
      (subst₂ (λ rowids rows. Applies db.schema mode.keys db.trees (edit rowids rows) step.0) (uncounted_rowids _) rows made)

  -- the statement is one step that puts its rows
  pub inserted : (text : List ℕ) (terms : List Term) (width : ℕ) (tally : Tally) (after : Database) → Does limit mode params db text None (Insert at (Values terms width)) (Ok (tally, after))
      → Applies db.schema mode.keys db.trees (edit Chosen (value_rows params width (length terms / width) terms)) after.trees × (after.schema ≡ db.schema)
  inserted text terms width tally after h =
      let command = Insert at (Values terms width) in
      let wrote = went (subst (λ place. AtPlace (λ table. OnRows (task_for limit mode params db table) mode None command db.trees) place (Ok (tally, after))) plain.has h) in
      let left = concluded task mode wrote.0 tally after wrote.2 in
      (subst (Applies db.schema mode.keys db.trees (edit Chosen (value_rows params width (length terms / width) terms))) (ap (λ (d : Database). d.trees) (sym left)) (inserts terms width wrote.0 wrote.1), ap (λ (d : Database). d.schema) left)

-- ---- rows at keys of their own

no_more : {X : Type 0} (x : X) (xs : List X) → length (x ∷ xs) ≤ 1 → xs ≡ []
no_more x [] short = refl
no_more x (y ∷ xs) short = absurd (omega (arith, short))

module _ {K V : Type 0} (layout : Layout K V) (total : IsTotalOrder layout.order) (same : IsAntisymmetric layout.order) where
  abbrev pub same_key : V → V → Bool
  same_key v w = eq_by_cmp layout.order (layout.key v) (layout.key w)

  abbrev AreKeyed : FinMap layout.order V → Type 0
  AreKeyed m = AllByRecursion (λ e. e.0 ≡ layout.key e.1) (entries m)

  -- at the key of a row at most one of these stands
  abbrev AreApart : List V → Type 0
  AreApart vs = (v : V) → length (filter (same_key v) vs) ≤ 1

  apart_permuted : (vs ws : List V) → IsPermutation vs ws → AreApart ws → AreApart vs
  apart_permuted vs ws bag apart v = subst (λ n. n ≤ 1) (length_permutation _ _ (IsPermutation-filter (same_key v) vs ws bag)) (apart v)

  own_key : (v : V) → same_key v v ≡ true
  own_key v = ap is_eq (tied_itself total (layout.key v))

  none_at_key : (v : V) (ws : List V) → AreApart (v ∷ ws) → filter (same_key v) ws ≡ []
  none_at_key v ws apart = let once = apart v in no_more v (filter (same_key v) ws) (rw (own_key v) at once)

  -- a row that no other stands at the key of is one more
  one_more : (v : V) (vs : List V) (m : FinMap layout.order V) → AreApart (v ∷ (vs ++ values m)) → AreKeyed m → IsPermutation (values (insert m (layout.key v) v)) (v ∷ values m)
  one_more v vs m apart keyed =
      let none = none_at_key v (vs ++ values m) apart in
      let others : filter (λ w. not (same_key v w)) (values m) ≡ values m =
      filter_all (λ w. not (same_key v w)) (values m) (all_from _ (values m) (λ w here. elim (cases_Bool (same_key v w)) [
        | inl tied ↦ absurd (subst (λ l. Has l w) none (has_kept (same_key v) (vs ++ values m) w (has_right vs (values m) w here) tied))
        | inr apart ↦ ap not apart
      ])) in
      subst (λ l. IsPermutation (values (insert m (layout.key v) v)) (v ∷ l)) (sym (other_rows layout.order same layout.key (layout.key v) (entries m) keyed) ∙ others) (values-insert layout.order total m (layout.key v) v)

  each_keyed : (vs : List V) (m : FinMap layout.order V) → AreKeyed m → AreKeyed (with_rows layout vs m)
  each_keyed [] m keyed = keyed
  each_keyed (v ∷ vs) m keyed = each_keyed vs (insert m (layout.key v) v) (keyed-insert layout.order same layout.key total m v keyed)

  each_valid : (vs : List V) (m : FinMap layout.order V) → AllByRecursion (λ v. IsTrue (layout.is_valid v)) vs → AllByRecursion (λ e. IsTrue (layout.is_valid e.1)) (entries m)
      → AllByRecursion (λ e. IsTrue (layout.is_valid e.1)) (entries (with_rows layout vs m))
  each_valid [] m new valid = valid
  each_valid (v ∷ vs) m new valid = each_valid vs (insert m (layout.key v) v) new.1 (all-insert layout.order (λ w. IsTrue (layout.is_valid w)) total m (layout.key v) v new.0 valid)

  -- where all keys differ, the rows are those that were there and the new ones
  each_put : (vs : List V) (m : FinMap layout.order V) → AreApart (vs ++ values m) → AreKeyed m → IsPermutation (values (with_rows layout vs m)) (vs ++ values m)
  each_put [] m apart keyed = IsPermutation-refl (values m)
  each_put (v ∷ vs) m apart keyed =
      let after = insert m (layout.key v) v in
      let more : IsPermutation (vs ++ values after) (v ∷ (vs ++ values m)) =
      IsPermutation-trans _ _ _ (IsPermutation-append vs vs _ _ (IsPermutation-refl vs) (one_more v vs m apart keyed)) (IsPermutation-middle vs v (values m)) in
      IsPermutation-trans _ _ _ (each_put vs after (apart_permuted _ _ more apart) (keyed-insert layout.order same layout.key total m v keyed)) more

  module _ {under : Schema} (many : ℕ) (text : List ℕ) (it : InsertsEach under layout many text) (old new : State) (vs : List V) (count : ℕ)
      (is : old.now.schema ≡ under) (rising : IsRising (old.now.trees layout.table.tree)) (m : FinMap layout.order V) (held : Holds layout old.now.trees m)
      (so_many : length vs ≡ many) (ran : Executes text (flat_map layout.encode vs) old new (Ok count)) where
    abbrev there : List Row
    there = old.now.trees layout.table.tree

    abbrev after : List Row
    after = new.now.trees layout.table.tree

    abbrev put : Edit
    put = edit_of old.now.trees layout.table [] Chosen 0 (map it.source vs)

    step : Applies under (mode_of old).keys old.now.trees put new.now.trees × (new.now.schema ≡ under)
    step =
        let w = runs_as text (flat_map layout.encode vs) old new under is _ it.command it.plain count ran in
        let db : Database = record { schema = under; trees = old.now.trees } in
        let sql = statement_of text (understood under text) in
        let changed = subst (λ s. Does old.step_limit (mode_of old) (flat_map layout.encode vs) (record old.now { schema = s }) sql None (Insert it.at (Values it.terms it.width)) (Ok (w.tally, new.now))) is w.changed in
        let made = inserted old.step_limit (mode_of old) (flat_map layout.encode vs) db it.at layout.table it.table sql it.terms it.width w.tally new.now changed in
        (subst (λ rows. Applies under (mode_of old).keys old.now.trees (edit_of old.now.trees layout.table [] Chosen 0 rows) new.now.trees) (it.given vs so_many) made.0, made.1)

    shows_each : (ws : List V) (rows : List Row) → map (values_of layout.table) (numbered Chosen rows (map (λ s. cast_row layout.table (drop 0 s)) (map it.source ws))) ≡ map layout.encode ws
    shows_each [] rows = refl
    shows_each (w ∷ ws) rows = ap₂ ◌∷◌ (ap (λ r. values_of layout.table (with_rowid Chosen rows r)) (it.own w) ∙ it.shows w rows) (shows_each ws _)

    -- the table has the rows that were there and the new ones
    bag : HasRows layout new.now.trees (vs ++ values m)
    bag =
        let rows : IsPermutation after (put.news ++ there) = subst (λ l. IsPermutation l (put.news ++ there)) (sym step.0.rows) (put_all_more put.news there step.0.fresh) in
        IsPermutation-trans _ _ _ (IsPermutation-map (values_of layout.table) _ _ rows)
        (subst₂ IsPermutation
        (ap (λ l. l ++ map (values_of layout.table) there) (sym (shows_each vs there)) ∙ sym (map-append (values_of layout.table) put.news there))
        (sym (map-append layout.encode vs (values m)))
        (IsPermutation-append (map layout.encode vs) (map layout.encode vs) _ _ (IsPermutation-refl _) held.rows_are))

    pub leaves : LeavesOthers under layout.table old.now new.now
    leaves = record {
      schema = step.1;
      sound = (runs_as text (flat_map layout.encode vs) old new under is _ it.command it.plain count ran).sound;
      rising = subst IsRising (sym step.0.rows) (put_all_rises put.news there step.0.keyed rising);
      others = step.0.tables;
    }

    module _ (stands : K → Row → Bool) (agree : (k : K) (w : V) → stands k (layout.encode w) ≡ eq_by_cmp layout.order k (layout.key w)) (once : (k : K) → length (filter (stands k) (map (values_of layout.table) after)) ≤ 1) where
      -- at the key of a row no other stands, since at most one row is stored there
      apart : AreApart (vs ++ values m)
      apart v =
          let k = layout.key v in
          let long : length (filter (stands k) (map layout.encode (vs ++ values m))) ≡ length (filter (same_key v) (vs ++ values m)) =
          ap length (filter-map (stands k) layout.encode (vs ++ values m)) ∙ length-map (filter (λ w. stands k (layout.encode w)) (vs ++ values m)) layout.encode ∙ ap (λ (p : V → Bool). length (filter p (vs ++ values m))) (λ i w. agree k w i) in
          subst (λ n. n ≤ 1) (sym (length_permutation _ _ (IsPermutation-filter (stands k) _ _ bag)) ∙ long) (once k)

      pub holds_inserted : AllByRecursion (λ v. IsTrue (layout.is_valid v)) vs → Holds layout new.now.trees (with_rows layout vs m)
      holds_inserted valid = record {
        rows_are = IsPermutation-trans _ _ _ bag (IsPermutation-map layout.encode _ _ (IsPermutation-sym _ _ (each_put vs m apart held.keyed)));
        keyed = each_keyed vs m held.keyed;
        valid = each_valid vs m valid held.valid;
      }
