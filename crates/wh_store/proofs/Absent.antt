-- What is there of a table that the format hasn't.
use Rattle.std.proofs.Common.{◌≡◌, length, ◌∷◌, List, [], map, false, Some, refl, ap, subst, ◌∙◌, arith}
use Rattle.std.specs.Prelude.{if◌then◌else◌}
use Rattle.std.specs.FinMap.{FinMap, values}
use Rattle.std.specs.List.Sorted.{IsPermutation}
use Rattle.std.proofs.lemmas.List.Sorted.{length_permutation}
use Rattle.sqlite.specs.Order.{Row}
use Rattle.sqlite.specs.State.{State}
use Rattle.wh_rows.specs.declared.table.Table.{Table}
use Rattle.wh_rows.specs.Names.{is_there}
use Rattle.wh_rows.specs.Holds.{Layout}
use Rattle.wh_rows.specs.Place.{IsPlaced}
use Rattle.wh_rows.specs.Tables.{Tables}
use Rattle.wh_rows.specs.AtRest.{IsAtRest}
use Rattle.wh_rows.specs.Raw.{Stored, RestsOn, rows_in, table_of}
use Rattle.wh_rows.proofs.Formats.{no_values}

-- tables have no row of it
pub none_typed : {K V : Type 0} (layout : Layout K V) (rows : Tables → FinMap layout.order V) (with_rows : FinMap layout.order V → Tables → Tables) (name : Table) → IsPlaced layout rows with_rows (is_there name)
    → (s : State) (t : Tables) → IsAtRest (Some t) s → is_there name t.format ≡ false → values (rows t) ≡ []
none_typed layout rows with_rows name placed s t at absent = ap values (placed.absent s.now t at.now.tables absent) ∙ ap (map (λ e. e.1)) (no_values layout.order)

-- whatever rows are stored, none is in it
pub none_there : (name : Table) (s : State) (stored : Stored) → RestsOn stored s → is_there name stored.format ≡ false → stored.rows name ≡ []
none_there name s stored at absent = no_rows (stored.rows name) (length_permutation _ _ (subst (λ is. IsPermutation (if is then rows_in (table_of name) s.now.trees else []) (stored.rows name)) absent (at.now.rows name)))
  where
    no_rows : (rows : List Row) → length rows ≡ 0 → rows ≡ []
    no_rows [] none = refl
    no_rows (r ∷ rows) none = absurd (omega (arith, none))
