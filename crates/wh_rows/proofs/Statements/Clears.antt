-- Taking all rows out of one table.
use Rattle.std.proofs.Common.{◌≡◌, ℕ, List, [], ◌∷◌, filter, length, not, Option, None, Ok, refl, sym, ap, subst, ◌∙◌}
use Rattle.std.specs.Prelude.{unwrap_or}
use Rattle.std.specs.FinMap.{FinMap, empty, entries, values, len, len-entries}
use Rattle.std.proofs.lemmas.List.{length-map}
use Rattle.std.proofs.lemmas.List.Sorted.{length_permutation}
use Rattle.sqlite_value.specs.Order.{Row}
use Rattle.sqlite.specs.Term.{col}
use Rattle.sqlite.specs.Command.TheVariants.{Delete}
use Rattle.sqlite.specs.Effect.{Database}
use Rattle.sqlite.specs.Does.{Does}
use Rattle.sqlite.specs.Listing.{understood}
use Rattle.sqlite.specs.State.{State, Executes, mode_of}
use Rattle.sqlite.proofs.Callers.{statement_of, runs_as}
use Rattle.sqlite.specs.Schema.{Schema}
use Rattle.wh_rows.specs.Statements.{reading}
use Rattle.wh_rows.specs.Holds.{Layout, values_of, Holds, IsRising}
use Rattle.wh_rows.specs.OneTable.{LeavesOthers}
use Rattle.wh_rows.specs.Meaning.{passes, RemovesAll}
use Rattle.wh_rows.proofs.Edits.{ChangesOnly, filter_all, deleted, deleted_many}
use Rattle.wh_rows.proofs.Making.{holds_none}

none_fail : (params : Row) (rows : List Row) → filter (λ r. not (passes params [] r)) rows ≡ []
none_fail params [] = refl
none_fail params (r ∷ rows) = none_fail params rows

module _ {under : Schema} {K V : Type 0} (layout : Layout K V) (text : List ℕ) (it : RemovesAll under layout text)
    (old new : State) (count : ℕ) (is : old.now.schema ≡ under) (rising : IsRising (old.now.trees layout.table.tree)) (ran : Executes text [] old new (Ok count)) where
  abbrev there : List Row
  there = old.now.trees layout.table.tree

  is_cleared : ChangesOnly layout.table (record { schema = under; trees = old.now.trees }) new.now × (new.now.trees layout.table.tree ≡ []) × (count ≡ length there)
  is_cleared =
      let w = runs_as text [] old new under is _ it.command it.plain count ran in
      let db : Database = record { schema = under; trees = old.now.trees } in
      let sql = statement_of text (understood under text) in
      let changed = subst (λ s. Does old.step_limit (mode_of old) [] (record old.now { schema = s }) sql None (Delete it.at (record { lets = []; body = reading layout.table.tree [] (col 1 0 ∷ []) [] })) (Ok (w.tally, new.now))) is w.changed in
      let left = deleted old.step_limit (mode_of old) [] db sql it.at layout.table it.table.has (it.table.idle (mode_of old).keys) w.tally new.now [] rising changed in
      let many = deleted_many old.step_limit (mode_of old) [] db sql it.at layout.table it.table.has (it.table.idle (mode_of old).keys) w.tally new.now [] changed in
      (left.0, left.1 ∙ none_fail [] there, w.counted ∙ ap (λ (n : Option ℕ). unwrap_or n 0) many ∙ ap length (filter_all there))

  -- it holds the map without keys
  pub holds_cleared : Holds layout new.now.trees empty
  holds_cleared = holds_none layout new.now.trees is_cleared.1

  -- it answers how many keys there were
  pub counts_cleared : (m : FinMap layout.order V) → Holds layout old.now.trees m → count ≡ len m
  counts_cleared m held =
      is_cleared.2 ∙ sym (length-map there (values_of layout.table)) ∙ sym (length_permutation _ _ held.rows_are) ∙ length-map (values m) layout.encode ∙ length-map (entries m) (λ e. e.1) ∙ sym (len-entries m)

  pub leaves : LeavesOthers under layout.table old.now new.now
  leaves = record {
    schema = is_cleared.0.schema;
    sound = (runs_as text [] old new under is _ it.command it.plain count ran).sound;
    rising = subst IsRising (sym is_cleared.1) (tt, tt);
    others = is_cleared.0.others;
  }
