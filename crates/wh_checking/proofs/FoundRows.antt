-- What is found at a key of a table that stores what a function gives.
use Rattle.std.proofs.Common.{◌≡◌, Bool, true, List, [], ◌∷◌, ◌++◌, map, filter, length, Option, Some, None, refl, sym, ap, subst, ◌∙◌, arith}
use Rattle.std.specs.Prelude.{IsTrue}
use Rattle.std.specs.Cmp.{IsTotalOrder}
use Rattle.std.specs.FinMap.{entries, values, find, entries_sorted, get-entries}
use Rattle.std.specs.List.{AllByRecursion, list_all}
use Rattle.std.specs.List.Sorted.{IsPermutation}
use Rattle.std.specs.Option.{option_to_list}
use Rattle.std.specs.Ordering.{eq_by_cmp}
use Rattle.std.proofs.lemmas.List.{length-append, length-map}
use Rattle.std.proofs.lemmas.List.Sorted.{IsPermutation-sym, IsPermutation-trans, length_permutation}
use Rattle.sqlite.specs.Order.{Row}
use Rattle.sqlite_sql.proofs.AggregateLemmas.{only_one}
use Rattle.sqlite_trees.proofs.ListLemmas.{filter-map, IsPermutation-filter}
use Rattle.wh_rows.specs.Holds.{Layout}
use Rattle.wh_rows.specs.Raw.{IsLastOf}
use Rattle.wh_rows.proofs.Maps.{filter-get}
use Rattle.wh_admission.specs.Checked.{AreRowsAt}
use Rattle.wh_admission.proofs.StoredMaps.{each_found, valid_at}
use Rattle.wh_rows.proofs.BehindStored.{all_mapped}
use Rattle.wh_admission.proofs.KeptRows.{last_valid}

module _ {K V : Type 0} (layout : Layout K V) (total : IsTotalOrder layout.order) (one : (v w : V) → IsTrue (layout.is_valid v) → IsTrue (layout.is_valid w) → layout.encode v ≡ layout.encode w → v ≡ w)
    (stands_at : K → Row → Bool) (agree : (k : K) (v : V) → stands_at k (layout.encode v) ≡ eq_by_cmp layout.order k (layout.key v)) (row_at : K → Option V) (keyed : (k : K) (v : V) → row_at k ≡ Some v → layout.key v ≡ k)
    (stored : List Row) (are : AreRowsAt layout row_at stored) (key : K) where
  own_keys : AllByRecursion (λ e. e.0 ≡ layout.key e.1) (entries are.rows)
  own_keys =
      all_mapped (λ (e : K × V). find layout.order e.0 (entries are.rows) ≡ Some e.1) (λ e. e.0 ≡ layout.key e.1) (entries are.rows)
      (λ e found. sym (keyed e.0 e.1 (sym (are.are e.0) ∙ get-entries are.rows e.0 ∙ found))) (each_found layout.order total (entries are.rows) (entries_sorted are.rows))

  stands : IsPermutation (filter (stands_at key) stored) (map layout.encode (option_to_list (row_at key)))
  stands =
      let kept = IsPermutation-filter (stands_at key) stored (map layout.encode (values are.rows)) are.same in
      let shown : filter (stands_at key) (map layout.encode (values are.rows)) ≡ map layout.encode (option_to_list (row_at key)) =
      filter-map (stands_at key) layout.encode (values are.rows) ∙ ap (λ (p : V → Bool). map layout.encode (filter p (values are.rows))) (λ i v. agree key v i)
      ∙ ap (map layout.encode) (filter-get layout.order total layout.key are.rows key own_keys ∙ ap option_to_list (are.are key)) in
      subst (IsPermutation (filter (stands_at key) stored)) shown kept

  pub found_at : (found : Option V) → IsLastOf layout (filter (stands_at key) stored) found → found ≡ row_at key
  found_at found last = go found (row_at key) refl last
    where
      alone : (before : List V) (r v : V) → list_all layout.is_valid (before ++ r ∷ []) ≡ true → IsTrue (layout.is_valid v) → map layout.encode (before ++ r ∷ []) ≡ layout.encode v ∷ [] → r ≡ v
      alone [] r v valid good same = one r v (last_valid layout.is_valid [] r valid) good (heads (layout.encode r) (layout.encode v) [] [] same)
        where
          heads : (x y : Row) (xs ys : List Row) → x ∷ xs ≡ y ∷ ys → x ≡ y
          heads x y xs ys same = cc
      alone (b ∷ before) r v valid good same =
          absurd (let long = length-map (b ∷ (before ++ r ∷ [])) layout.encode in let more = length-append before (r ∷ []) in let short : length (map layout.encode (b ∷ (before ++ r ∷ []))) ≡ 1 = ap length same in omega (arith, long, more, short))

      go : (found told : Option V) → row_at key ≡ told → IsLastOf layout (filter (stands_at key) stored) found → found ≡ told
      go None None is last = refl
      go None (Some v) is last =
          absurd (let none = length_permutation _ _ last.same in let some = length_permutation _ _ (subst (λ o. IsPermutation (filter (stands_at key) stored) (map layout.encode (option_to_list o))) is stands) in omega (arith, none, some))
      go (Some r) None is last =
          absurd (let none = length_permutation _ _ (subst (λ o. IsPermutation (filter (stands_at key) stored) (map layout.encode (option_to_list o))) is stands) in let some = length_permutation _ _ last.1.same in
          let long = length-map (last.0 ++ r ∷ []) layout.encode in let more = length-append last.0 (r ∷ []) in omega (arith, none, some, long, more))
      go (Some r) (Some v) is last =
          let here = subst (λ o. IsPermutation (filter (stands_at key) stored) (map layout.encode (option_to_list o))) is stands in
          let same : map layout.encode (last.0 ++ r ∷ []) ≡ layout.encode v ∷ [] = only_one (layout.encode v) (map layout.encode (last.0 ++ r ∷ [])) (IsPermutation-trans _ _ _ (IsPermutation-sym _ _ here) last.1.same) in
          ap Some (alone last.0 r v last.1.valid (valid_at layout total stored row_at are key v is) same)
