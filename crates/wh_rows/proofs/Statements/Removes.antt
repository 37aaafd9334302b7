-- Taking one key out of one table.
use Rattle.std.proofs.Common.{◌≡◌, ℕ, List, [], ◌∷◌, map, filter, not, None, Ok, sym, ap, subst, subst₂, ◌∙◌}
use Rattle.std.specs.List.Sorted.{IsPermutation}
use Rattle.std.specs.Prelude.{IsTrue}
use Rattle.std.specs.Ordering.{eq_by_cmp}
use Rattle.std.specs.Cmp.{IsTotalOrder}
use Rattle.std.specs.FinMap.{FinMap, entries, values, remove, IsAntisymmetric}
use Rattle.sqlite_value.specs.Order.{Row}
use Rattle.sqlite.specs.Term.{col}
use Rattle.sqlite.specs.Command.TheVariants.{Delete}
use Rattle.sqlite.specs.Effect.{Database}
use Rattle.sqlite.specs.Does.{Does}
use Rattle.sqlite.specs.Listing.{understood}
use Rattle.sqlite.specs.State.{State, Executes, mode_of}
use Rattle.sqlite.proofs.Callers.{statement_of, runs_as}
use Rattle.sqlite.specs.Schema.{Schema}
use Rattle.wh_rows.specs.Statements.{reading}
use Rattle.wh_rows.specs.Holds.{Layout, values_of, Holds, IsRising}
use Rattle.wh_rows.proofs.Edits.{ChangesOnly, deleted}
use Rattle.wh_rows.specs.OneTable.{LeavesOthers}
use Rattle.sqlite_trees.specs.declared.store.Shape.TheVariants.{Table}
use Rattle.sqlite_trees.proofs.TreeLemmas.{IsShaped-filter}
use Rattle.wh_rows.specs.Meaning.{passes, RemovesOne}
use Rattle.wh_rows.proofs.Typed.{holds_filtered}
use Rattle.wh_rows.proofs.Maps.{other_rows, keyed-remove, entries-remove, all-remove}

module _ {under : Schema} {K V : Type 0} (layout : Layout K V) (total : IsTotalOrder layout.order) (same : IsAntisymmetric layout.order) (bind : K → Row) (text : List ℕ) (it : RemovesOne under layout bind text)
    (old new : State) (k : K) (count : ℕ) (is : old.now.schema ≡ under) (rising : IsRising (old.now.trees layout.table.tree)) (ran : Executes text (bind k) old new (Ok count)) where
  pub is_removed : ChangesOnly layout.table (record { schema = under; trees = old.now.trees }) new.now
      × (new.now.trees layout.table.tree ≡ filter (λ r. not (passes (bind k) it.tests r)) (old.now.trees layout.table.tree))
  is_removed =
      let w = runs_as text (bind k) old new under is _ it.command it.plain count ran in
      let db : Database = record { schema = under; trees = old.now.trees } in
      let sql = statement_of text (understood under text) in
      let changed = subst (λ s. Does old.step_limit (mode_of old) (bind k) (record old.now { schema = s }) sql None (Delete it.at (record { lets = []; body = reading layout.table.tree it.tests (col 1 0 ∷ []) [] })) (Ok (w.tally, new.now))) is w.changed in
      deleted old.step_limit (mode_of old) (bind k) db sql it.at layout.table it.table.has (it.table.idle (mode_of old).keys) w.tally new.now it.tests rising changed

  pub holds_removed : (m : FinMap layout.order V) → Holds layout old.now.trees m → Holds layout new.now.trees (remove m k)
  holds_removed m held =
      let rows = old.now.trees layout.table.tree in
      let left = holds_filtered layout (λ r. not (it.test k r)) (λ w. not (eq_by_cmp layout.order k (layout.key w)))
      (λ r. not (passes (bind k) it.tests r)) rows (values m) (λ w here. ap not (it.agree k w)) (λ r here. ap not (it.hits k r)) held.rows_are in
      let those = other_rows layout.order same layout.key k (entries m) held.keyed ∙ ap (map (λ (e : K × V). e.1)) (sym (entries-remove layout.order total same m k)) in
      record {
        rows_are = subst₂ (λ trees l. IsPermutation (map (values_of layout.table) trees) (map layout.encode l)) (sym is_removed.1) those left;
        keyed = keyed-remove layout.order same layout.key total m k held.keyed;
        valid = all-remove layout.order (λ w. IsTrue (layout.is_valid w)) total same m k held.valid;
      }

  pub leaves : LeavesOthers under layout.table old.now new.now
  leaves = record {
    schema = is_removed.0.schema;
    sound = (runs_as text (bind k) old new under is _ it.command it.plain count ran).sound;
    rising = subst IsRising (sym is_removed.1) (IsShaped-filter Table _ (old.now.trees layout.table.tree) rising);
    others = is_removed.0.others;
  }
