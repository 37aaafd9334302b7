-- Counting the rows of one table.
use Rattle.std.proofs.Common.{◌≡◌, ℕ, List, [], ◌∷◌, map, filter, length, false, cond, Some, refl, sym, ap, subst, ◌∙◌}
use Rattle.std.specs.List.{AllZip, flat_map, list_all}
use Rattle.std.specs.List.Sorted.{IsPermutation}
use Rattle.std.specs.FinMap.{FinMap, entries, values, len, len-entries}
use Rattle.std.proofs.lemmas.List.Sorted.{length_permutation}
use Rattle.sqlite_value.specs.declared.value.Value.TheVariants.{Null}
use Rattle.sqlite_sql.specs.Aggregate.{count}
use Rattle.std.proofs.lemmas.List.{length-map}
use Rattle.sqlite_sql.specs.Group.{IsSummary, value_over}
use Rattle.sqlite.specs.Order.{Row}
use Rattle.sqlite.specs.Tree.{Trees}
use Rattle.sqlite.specs.Term.{Term, Env, eval, holds, lit}
use Rattle.sqlite.specs.Query.{Output, output, IsAnswerAs}
use Rattle.sqlite.specs.Program.{overlay, IsProgramAnswer}
use Rattle.sqlite.specs.Command.TheVariants.{Select}
use Rattle.sqlite.specs.Listing.{understood, reads_listing}
use Rattle.sqlite.specs.State.{State, Shown}
use Rattle.sqlite.proofs.Callers.{IsPlain, command_of, reads_as, one_permutation}
use Rattle.sqlite.specs.Schema.{Schema}
use Rattle.wh_rows.specs.Statements.{counted, grouping, counting}
use Rattle.wh_rows.specs.Holds.{Layout, values_of, Holds}
use Rattle.wh_rows.specs.Raw.{rows_in}
use Rattle.wh_rows.specs.Meaning.{passes}
use Rattle.wh_rows.proofs.Answers.{overlay_none, one_each}

abbrev order_of_all : Trees → Row → ℕ → List Term → List Env
order_of_all db params tree tests = flat_map (λ r. cond (passes params tests r) ((params ∷ r ∷ []) ∷ []) []) (overlay db [] tree)

one_group : (order : List Env) (rows : List Row) → AllZip (IsSummary grouping) (order ∷ []) rows → (row : Row) × (rows ≡ row ∷ []) × IsSummary grouping order row
one_group order [] all = absurd all
one_group order (row ∷ []) all = (row, refl, all.0)
one_group order (row ∷ more ∷ rows) all = absurd all.1

same_value : {A : Type 0} {a b : A} → Some a ≡ Some b → a ≡ b
same_value e = cc

count_is : (order : List Env) (row : Row) → IsSummary grouping order row → row ≡ count (length order) ∷ []
count_is order row h = go h.0 h.1 h.2
  where
    go : (values : Row) → AllZip (λ a v. value_over order a ≡ Some v) (counted ∷ []) values → row ≡ values → row ≡ count (length order) ∷ []
    go [] all is = absurd all
    go (v ∷ w ∷ values) all is = absurd all.1
    go (v ∷ []) all is =
        let value : count (length (map (eval (lit Null)) order)) ≡ v = same_value all.0 in
        is ∙ ap (λ w. w ∷ []) (sym value ∙ ap count (length-map order (eval (lit Null))))

pub is_count : (db : Trees) (params : Row) (tree : ℕ) (tests : List Term) (rows : List Row) → IsProgramAnswer [] (counting tree tests) db params rows
    → rows ≡ (count (length (filter (passes params tests) (db tree))) ∷ []) ∷ []
is_count db params tree tests rows h =
    let q = counting tree tests in
    let a : IsAnswerAs Null q (overlay db []) params rows = h Null in
    let g = a.grouped in
    let order = g.grouping.0 in
    let group = one_group order g.rows (subst (λ groups. AllZip (IsSummary grouping) groups g.rows) g.grouping.2 g.summaries) in
    let row = count_is order group.0 group.2 in
    let all : order_of_all db params tree tests ≡ map (λ row. params ∷ row ∷ []) (filter (passes params tests) (db tree)) = rw overlay_none (one_each (passes params tests) (λ row. params ∷ row ∷ []) (db tree)) in
    let many : length order ≡ length (filter (passes params tests) (db tree)) = length_permutation _ order g.grouping.1 ∙ ap length all ∙ length-map (filter (passes params tests) (db tree)) (λ row. params ∷ row ∷ []) in
    let staged : a.staged ≡ (params ∷ (count (length order) ∷ []) ∷ []) ∷ [] = g.having ∙ ap (λ rows. filter (λ env. list_all (holds env) []) (map (λ r. params ∷ r ∷ []) rows)) (group.1 ∙ ap (λ r. r ∷ []) row) in
    let o : Output = ([], count (length order) ∷ []) in
    let kept : a.kept ≡ o ∷ [] = a.distinct ∙ ap (map (output q)) staged in
    let ordered = one_permutation o a.ordered (subst (λ k. IsPermutation k a.ordered) kept a.same) in
    a.shown ∙ ap (map (λ (o : Output). o.1)) ordered ∙ ap (λ n. (count n ∷ []) ∷ []) many

all_pass : (params : Row) (rows : List Row) → filter (passes params []) rows ≡ rows
all_pass params [] = refl
all_pass params (r ∷ rows) = ap (λ l. r ∷ l) (all_pass params rows)

-- the number of all rows
pub counts_stored : {under : Schema} {K V : Type 0} (layout : Layout K V) (text : List ℕ) (names : List (List ℕ)) (old new : State) (rows : List Row)
    → command_of (understood under text) ≡ Select (record { lets = []; body = counting layout.table.tree [] }) names → IsPlain (understood under text) → reads_listing under text ≡ false
    → old.now.schema ≡ under → Shown text [] old new rows → (stored : List Row) → IsPermutation (rows_in layout.table old.now.trees) stored → rows ≡ (count (length stored) ∷ []) ∷ []
counts_stored {under = under} layout text names old new rows command plain unlisted is shown stored same =
    let read = reads_as text [] old new under is _ command plain unlisted rows shown in
    let db = old.now.trees layout.table.tree in
    let many : length db ≡ length stored = sym (length-map db (values_of layout.table)) ∙ sym (length_permutation _ _ same) in
    is_count old.now.trees [] layout.table.tree [] rows read.answer ∙ ap (λ n. (count n ∷ []) ∷ []) (ap length (all_pass [] db) ∙ many)

-- so of the rows of a map
pub counts_rows : {under : Schema} {K V : Type 0} (layout : Layout K V) (text : List ℕ) (names : List (List ℕ)) (old new : State) (rows : List Row)
    → command_of (understood under text) ≡ Select (record { lets = []; body = counting layout.table.tree [] }) names → IsPlain (understood under text) → reads_listing under text ≡ false
    → old.now.schema ≡ under → Shown text [] old new rows → (m : FinMap layout.order V) → Holds layout old.now.trees m → rows ≡ (count (len m) ∷ []) ∷ []
counts_rows layout text names old new rows command plain unlisted is shown m held =
    let many : length (map layout.encode (values m)) ≡ len m = length-map (values m) layout.encode ∙ length-map (entries m) (λ e. e.1) ∙ sym (len-entries m) in
    counts_stored layout text names old new rows command plain unlisted is shown (map layout.encode (values m)) held.rows_are ∙ ap (λ n. (count n ∷ []) ∷ []) many
