-- Reading the first rows of an answer.
use Rattle.std.proofs.Common.{◌≡◌, inl, inr, ℕ, ◌≤◌, List, [], ◌∷◌, map, filter, take, Bool, true, false, Option, None, Some, unwrap_or, option_map, option_to_list, IfSome, refl, sym, ap, subst, ◌∙◌, arith, Ordering, Less}
use Rattle.std.specs.List.{AllByRecursion}
use Rattle.std.specs.List.Sorted.{IsPermutation, IsSorted}
use Rattle.std.specs.Cmp.{IsTotalOrder, on_total}
use Rattle.std.specs.Ordering.{is_gt, nat_cmp}
use Rattle.std.specs.FinMap.{FinMap, entries, values, entries_sorted}
use Rattle.std.proofs.lemmas.Cmp.{nat_cmp_total, back_total}
use Rattle.std.proofs.lemmas.List.Sorted.{IsPermutation-map, IsPermutation-trans, IsPermutation-sym, IsPermutation-refl, IsPermutation-reverse}
use Rattle.sqlite_value.specs.declared.value.Value.TheVariants.{Null}
use Rattle.sqlite_value.specs.declared.keys.Key.{Key}
use Rattle.sqlite_value.specs.Order.{Row}
use Rattle.sqlite_trees.specs.Tree.{Trees, IsAscending}
use Rattle.sqlite_trees.proofs.ListLemmas.{pull_back, all_weaker, all-permutation}
use Rattle.sqlite_keyed.proofs.SortLemmas.{sorted_unique}
use Rattle.sqlite_keyed.proofs.ListLemmas.{ascending-filter}
use Rattle.sqlite_exec.proofs.ScanLemmas.{ascending-reverse}
use Rattle.sqlite_exec.proofs.PartitionLemmas.{IsSorted-from_map, ascending_from_sorted}
use Rattle.sqlite_rules.specs.Lists.{Has}
use Rattle.sqlite_rules.proofs.ListLemmas.{all_has, all_from}
use Rattle.sqlite_sql.proofs.QueryLemmas.{output_cmp_total}
use Rattle.sqlite.specs.Term.{Term}
use Rattle.sqlite.specs.Query.{Output, output, output_cmp, IsAnswerAs}
use Rattle.sqlite.specs.Program.{overlay, IsProgramAnswer}
use Rattle.sqlite.specs.State.{State, Shown}
use Rattle.sqlite.proofs.Callers.{reads_as}
use Rattle.sqlite.specs.Schema.{Schema}
use Rattle.wh_rows.specs.Holds.{Layout, values_of, Holds}
use Rattle.wh_rows.specs.Meaning.{passes}
use Rattle.wh_rows.specs.Firsts.{reading_first, from_end, keys_cmp, greatest, ReadsSorted, ReadsFirst, ReadsGreatest}
use Rattle.wh_rows.proofs.Answers.{overlay_none, one_each, map-map}
use Rattle.wh_rows.proofs.Typed.{holds_filtered}
use Rattle.wh_rows.proofs.Statements.Selects.{rising}

pub record IsReadFirst (db : Trees) (params : Row) (most tree : ℕ) (tests project : List Term) (order : List (Term × Key)) (rows : List Row) : Type 0 where
  pub ordered : List Output
  pub same : IsPermutation (map (λ row. output (reading_first most tree tests project order) (params ∷ row ∷ [])) (filter (passes params tests) (db tree))) ordered
  pub sorted : IsSorted (output_cmp (reading_first most tree tests project order)) ordered
  pub shown : rows ≡ take most (map (λ (o : Output). o.1) ordered)

pub is_read_first : (db : Trees) (params : Row) (most tree : ℕ) (tests project : List Term) (order : List (Term × Key)) (rows : List Row)
    → IsProgramAnswer [] (reading_first most tree tests project order) db params rows → IsReadFirst db params most tree tests project order rows
is_read_first db params most tree tests project order rows h =
    let q = reading_first most tree tests project order in
    let a : IsAnswerAs Null q (overlay db []) params rows = h Null in
    let staged : a.staged ≡ map (λ row. params ∷ row ∷ []) (filter (passes params tests) (db tree)) =
    a.grouped ∙ rw overlay_none (one_each (passes params tests) (λ row. params ∷ row ∷ []) (db tree)) in
    let kept : a.kept ≡ map (λ row. output q (params ∷ row ∷ [])) (filter (passes params tests) (db tree)) =
    a.distinct ∙ ap (map (output q)) staged ∙ map-map (output q) (λ row. params ∷ row ∷ []) _ in
    record { ordered = a.ordered; same = subst (λ k. IsPermutation k a.ordered) kept a.same; sorted = a.sorted; shown = a.shown }

-- ---- the rows that are kept, sorted

-- what is shown is the first of these rows, in an order that the comparison allows
pub record AreFirstOf {V : Type 0} (encode : V → Row) (most : ℕ) (cmp : V → V → Ordering) (kept : List V) (rows : List Row) : Type 0 where
  pub ordered : List V
  pub same : IsPermutation kept ordered
  pub sorted : IsSorted cmp ordered
  pub shown : rows ≡ take most (map encode ordered)

module _ {under : Schema} {K V : Type 0} (layout : Layout K V) (params : Row) (keep : V → Bool) (most : ℕ) (cmp : V → V → Ordering) (text : List ℕ) (it : ReadsSorted under layout params keep most cmp text) where
  shown_as : V → Output
  shown_as v = (it.sorted_by (layout.encode v), layout.encode v)

  -- rows are compared by a total order, as the answer is
  pub compares : IsTotalOrder cmp
  unfolding shown_as
  compares = subst IsTotalOrder (λ i v w. it.in_order v w i) (on_total shown_as (output_cmp_total (reading_first most layout.table.tree it.tests it.project it.order)))

  module _ (old new : State) (rows : List Row) (is : old.now.schema ≡ under) (shown : Shown text params old new rows) (m : FinMap layout.order V) (held : Holds layout old.now.trees m) where
    pub reads_sorted : AreFirstOf layout.encode most cmp (filter keep (values m)) rows
    unfolding shown_as
    reads_sorted =
        let q = reading_first most layout.table.tree it.tests it.project it.order in
        let read = reads_as text params old new under is _ it.command it.plain it.unlisted rows shown in
        let answer = is_read_first old.now.trees params most layout.table.tree it.tests it.project it.order rows read.answer in
        let db = old.now.trees layout.table.tree in
        let show : Row → Output = λ vs. (it.sorted_by vs, vs) in
        let kept = filter keep (values m) in
        let bag = IsPermutation-map show _ _ (holds_filtered layout it.test keep (passes params it.tests) db (values m) (λ v here. it.agree v) (λ r here. it.hits r) held.rows_are) in
        let outputs : map (λ row. output q (params ∷ row ∷ [])) (filter (passes params it.tests) db) ≡ map show (map (values_of layout.table) (filter (passes params it.tests) db)) =
        ap (λ f. map f (filter (passes params it.tests) db)) (λ i r. it.shows r i) ∙ sym (map-map show (values_of layout.table) _) in
        let same : IsPermutation (map show (map layout.encode kept)) answer.ordered =
        IsPermutation-trans _ _ _ (IsPermutation-sym _ _ bag) (subst (λ l. IsPermutation l answer.ordered) outputs answer.same) in
        let back = pull_back shown_as _ answer.ordered same kept (map-map show layout.encode kept) in
        record {
          ordered = back.0;
          same = back.1;
          sorted = subst (λ (R : V → V → Ordering). IsSorted R back.0) (λ i v w. it.in_order v w i) (IsSorted-from_map (output_cmp q) shown_as back.0 (subst (IsSorted (output_cmp q)) back.2 answer.sorted));
          shown = answer.shown ∙ ap (take most) (ap (map (λ (o : Output). o.1)) back.2 ∙ map-map (λ (o : Output). o.1) shown_as back.0);
        }

-- ---- in the order of their keys, from either end

module _ {K V : Type 0} (layout : Layout K V) where
  turned : (backwards : Bool) (vs : List V) → IsAscending (λ v w. layout.order (layout.key v) (layout.key w) ≡ Less) vs → IsAscending (λ v w. keys_cmp layout backwards v w ≡ Less) (from_end backwards vs)
  turned true vs up = ascending-reverse (λ v w. layout.order (layout.key v) (layout.key w) ≡ Less) vs up
  turned false vs up = up

  turned_same : (backwards : Bool) (vs : List V) → IsPermutation vs (from_end backwards vs)
  turned_same true vs = IsPermutation-reverse vs
  turned_same false vs = IsPermutation-refl vs

module _ {under : Schema} {K V : Type 0} (layout : Layout K V) (params : Row) (keep : V → Bool) (most : ℕ) (backwards : Bool) (text : List ℕ) (it : ReadsFirst under layout params keep most backwards text) (old new : State) (rows : List Row)
    (is : old.now.schema ≡ under) (shown : Shown text params old new rows) (m : FinMap layout.order V) (held : Holds layout old.now.trees m) where
  -- the first of the rows that are kept, in order of their keys, from either end
  pub reads_first : rows ≡ take most (map layout.encode (from_end backwards (filter keep (values m))))
  reads_first =
      let cmp = keys_cmp layout backwards in
      let answer = reads_sorted layout params keep most cmp text it old new rows is shown m held in
      let kept = filter keep (values m) in
      let up = ascending-filter (λ v w. layout.order (layout.key v) (layout.key w) ≡ Less) keep (values m) (rising layout (entries m) held.keyed (entries_sorted m)) in
      let same = IsPermutation-trans _ _ _ (IsPermutation-sym _ _ (turned_same layout backwards kept)) answer.same in
      let ordered : answer.ordered ≡ from_end backwards kept =
      sorted_unique cmp (compares layout params keep most cmp text it) _ answer.ordered (turned layout backwards kept up) same answer.sorted in
      answer.shown ∙ ap (λ vs. take most (map layout.encode vs)) ordered

-- ---- one whose number is the greatest

-- what is shown is one of these rows, with the greatest of their numbers; or nothing, and then the greatest is 0
pub record IsGreatestOf {V : Type 0} (encode : V → Row) (measure : V → ℕ) (kept : List V) (rows : List Row) : Type 0 where
  pub found : Option V
  pub among : IfSome found (Has kept)
  pub shown : rows ≡ map encode (option_to_list found)
  pub greatest_is : greatest (map measure kept) ≡ unwrap_or (option_map measure found) 0

module _ {V : Type 0} (measure : V → ℕ) where
  reaches : (kept : List V) (v : V) → Has kept v → measure v ≤ greatest (map measure kept)
  reaches [] v here = absurd here
  reaches (w ∷ kept) v (inl same) = let is = ap measure same in omega arith
  reaches (w ∷ kept) v (inr later) = let more = reaches kept v later in omega arith

  bounded : (n : ℕ) (kept : List V) → AllByRecursion (λ w. measure w ≤ n) kept → greatest (map measure kept) ≤ n
  bounded n [] low = omega arith
  bounded n (w ∷ kept) low = let first = low.0 in let more = bounded n kept low.1 in omega arith

  abbrev falling : V → V → Ordering
  falling v w = nat_cmp (measure w) (measure v)

  not_above : (a b : ℕ) → is_gt (nat_cmp a b) ≡ false → a ≤ b
  not_above a b h = grind arith

  -- the first of the rows, where they are sorted from the greatest number down
  pub first_is_greatest : (encode : V → Row) (kept : List V) (rows : List Row) → AreFirstOf encode 1 falling kept rows → IsGreatestOf encode measure kept rows
  first_is_greatest encode kept rows answer = go answer.ordered answer.same answer.sorted answer.shown
    where
      go : (ordered : List V) → IsPermutation kept ordered → IsSorted falling ordered → rows ≡ take 1 (map encode ordered) → IsGreatestOf encode measure kept rows
      go [] same sorted shown =
          let none = bounded 0 kept (all-permutation (λ w. measure w ≤ 0) [] kept (IsPermutation-sym _ _ same) tt) in
          record { found = None; among = tt; shown = shown; greatest_is = omega arith }
      go (v ∷ ordered) same sorted shown =
          let up = ascending_from_sorted falling (on_total measure (back_total nat_cmp_total)) (v ∷ ordered) sorted in
          let later = all_weaker _ (λ w. measure w ≤ measure v) (λ w. not_above (measure w) (measure v)) ordered up.0 in
          let low = bounded (measure v) kept (all-permutation (λ w. measure w ≤ measure v) (v ∷ ordered) kept (IsPermutation-sym _ _ same) (omega arith, later)) in
          let here = all_has (Has kept) (v ∷ ordered) v (all-permutation (Has kept) kept (v ∷ ordered) same (all_from (Has kept) kept (λ w is. is))) (inl refl) in
          let high = reaches kept v here in
          record { found = Some v; among = here; shown = shown; greatest_is = omega arith }

module _ {under : Schema} {K V : Type 0} (layout : Layout K V) (params : Row) (keep : V → Bool) (measure : V → ℕ) (text : List ℕ) (it : ReadsGreatest under layout params keep measure text) (old new : State) (rows : List Row)
    (is : old.now.schema ≡ under) (shown : Shown text params old new rows) (m : FinMap layout.order V) (held : Holds layout old.now.trees m) where
  pub reads_greatest : IsGreatestOf layout.encode measure (filter keep (values m)) rows
  reads_greatest = first_is_greatest measure layout.encode (filter keep (values m)) rows (reads_sorted layout params keep 1 (falling measure) text it old new rows is shown m held)
