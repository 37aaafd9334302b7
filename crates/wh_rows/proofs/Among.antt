-- Each row that a text shows is one of the table's.
use Rattle.std.proofs.Common.{◌≡◌, ℕ, zero, suc, List, [], ◌∷◌, map, filter, take, Bool, None, Some, Option, inl, inr, sym, ap, subst, ◌∙◌}
use Rattle.std.specs.List.Sorted.{IsPermutation}
use Rattle.std.specs.declared.cmp.Ordering.{Ordering}
use Rattle.sqlite_value.specs.Order.{Row}
use Rattle.sqlite.specs.Tree.{Trees}
use Rattle.sqlite.specs.Term.{Term}
use Rattle.sqlite.specs.Query.{Query, Output, output}
use Rattle.sqlite.specs.State.{State, Shown}
use Rattle.sqlite.proofs.Callers.{reads_as}
use Rattle.sqlite_rules.specs.Lists.{Has}
use Rattle.sqlite_rules.proofs.ListLemmas.{has_filtered}
use Rattle.sqlite_rules.proofs.ProbeLemmas.{has_mapped, mapped_has}
use Rattle.sqlite.specs.Schema.{Schema}
use Rattle.wh_rows.specs.Statements.{reading}
use Rattle.wh_rows.specs.Holds.{Layout, values_of}
use Rattle.wh_rows.specs.Meaning.{passes, ReadsSome}
use Rattle.wh_rows.specs.Firsts.{Front, reading_first, ReadsSorted, ReadsPart}
use Rattle.wh_rows.specs.Raw.{rows_in}
use Rattle.wh_rows.proofs.Raw.{has_again}
use Rattle.wh_rows.proofs.Answers.{is_read}
use Rattle.wh_rows.proofs.Firsts.{is_read_first}

-- what is among the first elements is among all
pub has_taken : {X : Type 0} (most : ℕ) (xs : List X) (x : X) → Has (take most xs) x → Has xs x
has_taken zero xs x here = absurd here
has_taken (suc most) [] x here = absurd here
has_taken (suc most) (y ∷ xs) x (inl same) = inl same
has_taken (suc most) (y ∷ xs) x (inr later) = inr (has_taken most xs x later)

module _ {K V : Type 0} (layout : Layout K V) (params : Row) (trees : Trees) where
  -- what is shown of outputs of the rows that pass is among the rows, where an output shows its row
  shown_among : (query : Query) (tests : List Term) (sorted_by : Row → Row) → ((r : Row) → ◌≡◌ {A = Output} (output query (params ∷ r ∷ [])) (sorted_by (values_of layout.table r), values_of layout.table r))
      → (ordered : List Output) → IsPermutation (map (λ row. output query (params ∷ row ∷ [])) (filter (passes params tests) (trees layout.table.tree))) ordered
      → (row : Row) → Has (map (λ (o : Output). o.1) ordered) row → Has (rows_in layout.table trees) row
  shown_among query tests sorted_by shows ordered same row here =
      let db = trees layout.table.tree in
      let out = has_mapped (λ (o : Output). o.1) ordered row here in
      let from = has_mapped (λ (r : Row). output query (params ∷ r ∷ [])) (filter (passes params tests) db) out.0 (has_again _ ordered out.0 same out.1) in
      let kept = has_filtered (passes params tests) db from.0 from.1 in
      let is : row ≡ values_of layout.table from.0 = out.2 ∙ ap (λ (o : Output). o.1) from.2 ∙ ap (λ (o : Output). o.1) (shows from.0) in
      subst (Has (rows_in layout.table trees)) (sym is) (mapped_has (values_of layout.table) db from.0 kept.0)

module _ {under : Schema} {K V : Type 0} (layout : Layout K V) (text : List ℕ) (params : Row) (keep : V → Bool) (old new : State) (answer : List Row) (is : old.now.schema ≡ under) (shown : Shown text params old new answer) where
  -- of a text that shows up to so many rows
  pub sorted_among : (most : ℕ) (cmp : V → V → Ordering) → ReadsSorted under layout params keep most cmp text → (row : Row) → Has answer row → Has (rows_in layout.table old.now.trees) row
  sorted_among most cmp it row here =
      let q = reading_first most layout.table.tree it.tests it.project it.order in
      let read = reads_as text params old new under is _ it.command it.plain it.unlisted answer shown in
      let found = is_read_first old.now.trees params most layout.table.tree it.tests it.project it.order answer read.answer in
      shown_among layout params old.now.trees q it.tests it.sorted_by it.shows found.ordered found.same row (has_taken most _ row (subst (λ l. Has l row) found.shown here))

  some_among : ReadsSome under layout params keep text → (row : Row) → Has answer row → Has (rows_in layout.table old.now.trees) row
  some_among it row here =
      let q = reading layout.table.tree it.tests it.project it.order in
      let read = reads_as text params old new under is _ it.command it.plain it.unlisted answer shown in
      let found = is_read old.now.trees params layout.table.tree it.tests it.project it.order answer read.answer in
      shown_among layout params old.now.trees q it.tests it.sorted_by it.shows found.ordered found.same row (subst (λ l. Has l row) found.shown here)

  -- of one that shows a part of the rows that pass a test, which may be all of it
  pub part_among : (front : Option Front) → ReadsPart under front layout params keep text → (row : Row) → Has answer row → Has (rows_in layout.table old.now.trees) row
  part_among None it row here = some_among it row here
  part_among (Some front) it row here = sorted_among front.most _ it row here
