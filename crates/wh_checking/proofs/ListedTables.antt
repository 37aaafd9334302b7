-- A table stores what a function gives exactly where it stores the rows that list it.
use Rattle.std.proofs.Common.{◌≡◌, T, Bool, true, false, List, [], ◌∷◌, map, Option, refl, sym, ap, subst, ◌∙◌, Less}
use Rattle.std.specs.Prelude.{IsTrue}
use Rattle.std.specs.Cmp.{IsTotalOrder}
use Rattle.std.specs.FinMap.{FinMap, values, get, find, is_sorted, from_sorted, entries-from_sorted, get-from_sorted, same_map, IsAntisymmetric}
use Rattle.std.specs.FinMap.Entries.{below_all}
use Rattle.std.specs.Ordering.{is_lt}
use Rattle.std.specs.List.{AllByRecursion, list_all}
use Rattle.std.specs.List.Sorted.{IsPermutation}
use Rattle.sqlite.specs.Order.{Row}
use Rattle.wh_rows.specs.Holds.{Layout}
use Rattle.wh_admission.specs.Checked.{AreRowsAt}
use Rattle.wh_checking.specs.Compared.{AreRowsOrNot}
use Rattle.wh_checking.proofs.Comparing.{DoKeysRise, IsCompared}
use Rattle.wh_rows.proofs.Maps.{both_hold}
use Rattle.wh_model.proofs.Listed.{is_true}

-- the rows are of their types, their keys rise, and each key has the row that the function gives it
pub record AreListed {K V : Type 0} (layout : Layout K V) (row_at : K → Option V) (rows : List V) : Type 0 where
  pub rise : DoKeysRise layout rows
  pub valid : IsTrue (list_all layout.is_valid rows)
  pub found : (key : K) → find layout.order key (map (λ v. (layout.key v, v)) rows) ≡ row_at key

module _ {K V : Type 0} (layout : Layout K V) where
  abbrev keyed : List V → List (K × V)
  keyed rows = map (λ v. (layout.key v, v)) rows

  below_keyed : (k : K) (rows : List V) → AllByRecursion (λ w. layout.order k (layout.key w) ≡ Less) rows → T (below_all layout.order k (keyed rows))
  below_keyed k [] below = tt
  below_keyed k (v ∷ rows) below = both_hold _ _ (ap is_lt below.0) (below_keyed k rows below.1)

  sorted_keyed : (rows : List V) → DoKeysRise layout rows → T (is_sorted layout.order (keyed rows))
  sorted_keyed [] rise = tt
  sorted_keyed (v ∷ rows) rise = both_hold _ _ (is_true _ (below_keyed (layout.key v) rows rise.0)) (sorted_keyed rows rise.1)

  rows_keyed : (rows : List V) → map (λ (e : K × V). e.1) (keyed rows) ≡ rows
  rows_keyed [] = refl
  rows_keyed (v ∷ rows) = ap (λ l. v ∷ l) (rows_keyed rows)

  module _ (total : IsTotalOrder layout.order) (exact : IsAntisymmetric layout.order) (row_at : K → Option V) (rows : List V) (rise : DoKeysRise layout rows) (found : (key : K) → find layout.order key (keyed rows) ≡ row_at key) (stored : List Row) where
    listed_map : FinMap layout.order V
    listed_map = from_sorted (keyed rows)

    sorted : T (is_sorted layout.order (keyed rows))
    sorted = sorted_keyed rows rise

    values_are : values listed_map ≡ rows
    unfolding listed_map
    values_are = ap (map (λ (e : K × V). e.1)) (entries-from_sorted layout.order (keyed rows) sorted) ∙ rows_keyed rows

    gets : (key : K) → get listed_map key ≡ row_at key
    unfolding listed_map
    gets key = get-from_sorted layout.order (keyed rows) key sorted ∙ found key

    pub listed_stored : IsTrue (list_all layout.is_valid rows) → IsPermutation stored (map layout.encode rows) → AreRowsAt layout row_at stored
    listed_stored valid same = record {
      rows = listed_map;
      are = gets;
      valid = subst (λ vs. IsTrue (list_all layout.is_valid vs)) (sym values_are) valid;
      same = subst (λ vs. IsPermutation stored (map layout.encode vs)) (sym values_are) same;
    }

    map_is : (are : AreRowsAt layout row_at stored) → values are.rows ≡ rows
    map_is are = ap values (same_map total exact are.rows listed_map (λ key. are.are key ∙ sym (gets key))) ∙ values_are

    pub stored_listed : AreRowsAt layout row_at stored → IsPermutation stored (map layout.encode rows)
    stored_listed are = subst (λ vs. IsPermutation stored (map layout.encode vs)) (map_is are) are.same

    pub listed_valid : AreRowsAt layout row_at stored → IsTrue (list_all layout.is_valid rows)
    listed_valid are = subst (λ vs. IsTrue (list_all layout.is_valid vs)) (map_is are) are.valid

-- What a comparison of stored rows with a listed table says: the table is what the function gives, or it isn't and none of its rows is damaged.
pub defined_or_not : {K V : Type 0} (layout : Layout K V) → IsTotalOrder layout.order → IsAntisymmetric layout.order → (row_at : K → Option V) (rows : List V) (stored : List Row) (same : Bool) → AreListed layout row_at rows → IsCompared layout stored rows same → AreRowsOrNot layout row_at stored same
defined_or_not layout total exact row_at rows stored true listed compared = listed_stored layout total exact row_at rows listed.rise listed.found stored listed.valid compared
defined_or_not layout total exact row_at rows stored false listed compared = (λ are. compared.0 (stored_listed layout total exact row_at rows listed.rise listed.found stored are), compared.1)
