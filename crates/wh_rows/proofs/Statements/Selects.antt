-- Reading the rows of one table.
use Rattle.std.proofs.Common.{◌≡◌, ℕ, List, [], ◌∷◌, map, filter, Bool, T, sym, ap, subst, ◌∙◌, Ordering, Less}
use Rattle.std.specs.List.{AllByRecursion}
use Rattle.std.specs.List.Sorted.{IsPermutation}
use Rattle.std.specs.FinMap.{FinMap, entries, values, is_sorted, entries_sorted}
use Rattle.std.specs.FinMap.Entries.{below_all}
use Rattle.std.proofs.lemmas.List.Sorted.{IsPermutation-map, IsPermutation-trans, IsPermutation-sym}
use Rattle.sqlite_value.specs.Order.{Row}
use Rattle.sqlite_trees.specs.Tree.{IsAscending}
use Rattle.sqlite_keyed.proofs.SortLemmas.{sorted_unique}
use Rattle.sqlite_keyed.proofs.ListLemmas.{ascending-map, ascending-filter}
use Rattle.sqlite_sql.proofs.QueryLemmas.{output_cmp_total}
use Rattle.sqlite.specs.Query.{Output, output, output_cmp}
use Rattle.sqlite.specs.State.{State, Shown}
use Rattle.sqlite.proofs.Callers.{reads_as}
use Rattle.sqlite.specs.Schema.{Schema}
use Rattle.wh_rows.specs.Statements.{reading}
use Rattle.wh_rows.specs.Holds.{Layout, values_of, Holds}
use Rattle.wh_rows.proofs.Answers.{is_read, map-map}
use Rattle.wh_rows.specs.Meaning.{passes, ReadsSome}
use Rattle.wh_rows.proofs.Typed.{holds_filtered}
use Rattle.wh_rows.proofs.Maps.{both_true, less_is}

module _ {K V : Type 0} (layout : Layout K V) where
  abbrev Below : V → V → Type 0
  Below v w = layout.order (layout.key v) (layout.key w) ≡ Less

  below : (k : K) (es : List (K × V)) → AllByRecursion (λ e. e.0 ≡ layout.key e.1) es → T (below_all layout.order k es) → AllByRecursion (λ v. layout.order k (layout.key v) ≡ Less) (map (λ e. e.1) es)
  below k [] keyed low = tt
  below k (e ∷ es) keyed low =
      let parts = both_true _ _ low in (ap (layout.order k) (sym keyed.0) ∙ less_is _ parts.0, below k es keyed.1 parts.1)

  pub rising : (es : List (K × V)) → AllByRecursion (λ e. e.0 ≡ layout.key e.1) es → T (is_sorted layout.order es) → IsAscending Below (map (λ e. e.1) es)
  rising [] keyed sorted = tt
  rising (e ∷ es) keyed sorted =
      let parts = both_true _ _ sorted in
      (subst (λ k. AllByRecursion (λ v. layout.order k (layout.key v) ≡ Less) (map (λ (e : K × V). e.1) es)) keyed.0 (below e.0 es keyed.1 (subst T (sym parts.0) tt)), rising es keyed.1 parts.1)

module _ {under : Schema} {K V : Type 0} (layout : Layout K V) (params : Row) (keep : V → Bool) (text : List ℕ) (it : ReadsSome under layout params keep text) (old new : State) (rows : List Row)
    (is : old.now.schema ≡ under) (shown : Shown text params old new rows) (m : FinMap layout.order V) (held : Holds layout old.now.trees m) where
  pub reads_rows : rows ≡ map layout.encode (filter keep (values m))
  reads_rows =
      let q = reading layout.table.tree it.tests it.project it.order in
      let read = reads_as text params old new under is _ it.command it.plain it.unlisted rows shown in
      let answer = is_read old.now.trees params layout.table.tree it.tests it.project it.order rows read.answer in
      let db = old.now.trees layout.table.tree in
      let show : Row → Output = λ vs. (it.sorted_by vs, vs) in
      let kept = filter keep (values m) in
      let bag = IsPermutation-map show _ _ (holds_filtered layout it.test keep (passes params it.tests) db (values m) (λ v here. it.agree v) (λ r here. it.hits r) held.rows_are) in
      let outputs : map (λ row. output q (params ∷ row ∷ [])) (filter (passes params it.tests) db) ≡ map show (map (values_of layout.table) (filter (passes params it.tests) db)) =
      ap (λ f. map f (filter (passes params it.tests) db)) (λ i r. it.shows r i) ∙ sym (map-map show (values_of layout.table) _) in
      let same : IsPermutation (map show (map layout.encode kept)) answer.ordered =
      IsPermutation-trans _ _ _ (IsPermutation-sym _ _ bag) (subst (λ l. IsPermutation l answer.ordered) outputs answer.same) in
      let together = map-map show layout.encode kept in
      let strict : IsAscending (λ a b. output_cmp q a b ≡ Less) (map (λ v. show (layout.encode v)) kept) =
      ascending-map (λ a b. output_cmp q a b ≡ Less) (λ v. show (layout.encode v)) kept
      (subst (λ (R : V → V → Ordering). IsAscending (λ v w. R v w ≡ Less) kept) (λ i v w. sym (it.in_order v w) i)
      (ascending-filter (Below layout) keep (values m) (rising layout (entries m) held.keyed (entries_sorted m)))) in
      let ordered : answer.ordered ≡ map (λ v. show (layout.encode v)) kept =
      sorted_unique (output_cmp q) (output_cmp_total q) _ answer.ordered strict (subst (λ l. IsPermutation l answer.ordered) together same) answer.sorted in
      answer.shown ∙ ap (map (λ (o : Output). o.1)) ordered ∙ map-map (λ (o : Output). o.1) (λ v. show (layout.encode v)) kept
