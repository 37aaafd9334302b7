-- A change of a table's rows as a change of the rows of a type.
use Rattle.std.proofs.Common.{◌≡◌, List, [], ◌∷◌, map, filter, Bool, false, sym, ap, subst₂, ◌∙◌, Ordering, Less, Equal, Greater}
use Rattle.std.specs.List.Sorted.{IsPermutation}
use Rattle.std.specs.Ordering.{is_eq, match_ordering}
use Rattle.std.proofs.lemmas.Bool.{or_parts}
use Rattle.std.proofs.lemmas.List.Sorted.{IsPermutation-refl, IsPermutation-trans, IsPermutation-cons, IsPermutation-middle}
use Rattle.sqlite_value.specs.Order.{Row, value_cmp}
use Rattle.sqlite_trees.specs.Tree.{rowid, put_row}
use Rattle.sqlite_trees.proofs.ListLemmas.{IsPermutation-filter, filter-map}
use Rattle.sqlite_rules.specs.Lists.{Has}
use Rattle.sqlite_rules.specs.Edit.{is_taken}
use Rattle.wh_rows.specs.Holds.{Layout, values_of}
use Rattle.wh_rows.proofs.Edits.{filter_same}

-- a row that is put where its rowid is free is one more
pub put_is_more : (new : Row) (rows : List Row) → is_taken rows new ≡ false → IsPermutation (put_row new rows) (new ∷ rows)
put_is_more new [] free = IsPermutation-refl _
put_is_more new (r ∷ rows) free = go (value_cmp (rowid r) (rowid new)) (or_parts _ _ free).0 (put_is_more new rows (or_parts _ _ free).1)
  where
    go : (o : Ordering) → is_eq o ≡ false → IsPermutation (put_row new rows) (new ∷ rows) → IsPermutation (match_ordering o (r ∷ put_row new rows) (new ∷ rows) (new ∷ r ∷ rows)) (new ∷ r ∷ rows)
    go Less other later = IsPermutation-trans _ _ _ (IsPermutation-cons r _ _ later) (IsPermutation-middle (r ∷ []) new rows)
    go Equal other later = absurd (cc)
    go Greater other later = IsPermutation-refl _

module _ {K V : Type 0} (layout : Layout K V) (test : Row → Bool) (keep : V → Bool) where
  -- the rows of a table that pass a test of their values are those of the type that pass it
  pub holds_filtered : (pass : Row → Bool) (rows : List Row) (all : List V) → ((v : V) → Has all v → test (layout.encode v) ≡ keep v) → ((r : Row) → Has rows r → pass r ≡ test (values_of layout.table r))
      → IsPermutation (map (values_of layout.table) rows) (map layout.encode all)
      → IsPermutation (map (values_of layout.table) (filter pass rows)) (map layout.encode (filter keep all))
  holds_filtered pass rows all agree is held =
      subst₂ IsPermutation
      (filter-map test (values_of layout.table) rows ∙ ap (map (values_of layout.table)) (sym (filter_same pass (λ r. test (values_of layout.table r)) rows is)))
      (filter-map test layout.encode all ∙ ap (map layout.encode) (filter_same (λ v. test (layout.encode v)) keep all agree))
      (IsPermutation-filter test _ _ held)
