-- What is stored in a table is what one function gives its keys at most.
use Rattle.std.proofs.Common.{◌≡◌, T, true, false, cond, List, [], ◌∷◌, map, Option, Some, None, refl, sym, ap, subst, ◌∙◌, inl, inr, Ordering}
use Rattle.std.specs.Prelude.{IsTrue}
use Rattle.std.specs.Cmp.{IsTotalOrder, eq_by_cmp_equiv}
use Rattle.std.specs.FinMap.{FinMap, entries, values, get, find, is_sorted, entries_sorted, get-entries}
use Rattle.std.specs.FinMap.Entries.{below_all}
use Rattle.std.specs.List.{AllByRecursion}
use Rattle.std.specs.Ordering.{eq_by_cmp, is_eq}
use Rattle.std.proofs.lemmas.List.Sorted.{IsPermutation-sym}
use Rattle.sqlite.specs.Order.{Row}
use Rattle.sqlite_rules.specs.Lists.{Has}
use Rattle.sqlite_rules.proofs.ListLemmas.{all_has, test_has}
use Rattle.sqlite_rules.proofs.ProbeLemmas.{has_mapped}
use Rattle.wh_history.proofs.Basics.{some_is}
use Rattle.wh_rows.specs.Holds.{Layout}
use Rattle.wh_rows.specs.Raw.{HasDamage}
use Rattle.wh_rows.proofs.Maps.{both_true, less_is}
use Rattle.wh_rows.proofs.Raw.{has_again, no_damage}
use Rattle.wh_admission.specs.Checked.{AreRowsAt}

-- ---- the rows of a map are those that it has under keys

module _ {K V : Type 0} (R : K → K → Ordering) (total : IsTotalOrder R) where
  still_found : (e : K × V) (ds es : List (K × V)) → T (below_all R e.0 ds) → AllByRecursion (λ d. find R d.0 es ≡ Some d.1) ds → AllByRecursion (λ d. find R d.0 (e ∷ es) ≡ Some d.1) ds
  still_found e [] es below all = tt
  still_found e (d ∷ ds) es below all =
      let parts = both_true _ _ below in
      let apart : eq_by_cmp R d.0 e.0 ≡ false = (eq_by_cmp_equiv total).symm d.0 e.0 ∙ ap is_eq (less_is (R e.0 d.0) parts.0) in
      (ap (λ b. cond b (Some e.1) (find R d.0 es)) apart ∙ all.0, still_found e ds es parts.1 all.1)

  pub each_found : (es : List (K × V)) → T (is_sorted R es) → AllByRecursion (λ d. find R d.0 es ≡ Some d.1) es
  each_found [] sorted = tt
  each_found (e ∷ es) sorted =
      let parts = both_true _ _ sorted in
      (ap (λ b. cond b (Some e.1) (find R e.0 es)) ((eq_by_cmp_equiv total).refl e.0), still_found e es es (subst T (sym parts.0) tt) (each_found es parts.1))

  among : (k : K) (v : V) (es : List (K × V)) → find R k es ≡ Some v → Has (map (λ (e : K × V). e.1) es) v
  among k v [] is = absurd cc
  among k v (e ∷ es) is =
      elim (eq_by_cmp R k e.0) as (λ b. cond b (Some e.1) (find R k es) ≡ Some v → Has (e.1 ∷ map (λ (e : K × V). e.1) es) v) [
        | true ↦ λ here. inl (sym (some_is e.1 v here))
        | false ↦ λ later. inr (among k v es later)
      ] is

  -- what is under a key is one of the rows
  pub held_among : (m : FinMap R V) (k : K) (v : V) → get m k ≡ Some v → Has (values m) v
  held_among m k v is = among k v (entries m) (sym (get-entries m k) ∙ is)

  -- and each of them is under a key
  pub has_key : (m : FinMap R V) (v : V) → Has (values m) v → (k : K) × (get m k ≡ Some v)
  has_key m v h =
      let e = has_mapped (λ (d : K × V). d.1) (entries m) v h in
      let found = all_has (λ d. find R d.0 (entries m) ≡ Some d.1) (entries m) e.0 (each_found (entries m) (entries_sorted m)) e.1 in
      (e.0.0, get-entries m e.0.0 ∙ found ∙ ap Some (sym e.2))

mapped_has : {X Y : Type 0} (f : X → Y) (xs : List X) (x : X) → Has xs x → Has (map f xs) (f x)
mapped_has f [] x h = absurd h
mapped_has f (y ∷ xs) x (inl same) = inl (ap f same)
mapped_has f (y ∷ xs) x (inr later) = inr (mapped_has f xs x later)

-- ---- stored rows that a function gives

module _ {K V : Type 0} (layout : Layout K V) (total : IsTotalOrder layout.order) (stored : List Row) where
  module _ (f : K → Option V) (are : AreRowsAt layout f stored) where
    pub undamaged : ¬ HasDamage layout stored
    undamaged = no_damage layout stored (values are.rows) are.valid are.same

    pub is_stored : (k : K) (v : V) → f k ≡ Some v → Has stored (layout.encode v)
    is_stored k v is =
        has_again stored (map layout.encode (values are.rows)) (layout.encode v) are.same (mapped_has layout.encode (values are.rows) v (held_among layout.order total are.rows k v (are.are k ∙ is)))

    -- each stored row is that of a key
    pub record IsGiven (r : Row) : Type 0 where
      pub key : K
      pub row : V
      pub is : f key ≡ Some row
      pub valid : IsTrue (layout.is_valid row)
      pub columns : r ≡ layout.encode row

    pub given : (r : Row) → Has stored r → IsGiven r
    given r h =
        let found = has_mapped layout.encode (values are.rows) r (has_again (map layout.encode (values are.rows)) stored r (IsPermutation-sym _ _ are.same) h) in
        let under = has_key layout.order total are.rows found.0 found.1 in
        record { key = under.0; row = found.0; is = sym (are.are under.0) ∙ under.1; valid = test_has layout.is_valid (values are.rows) found.0 are.valid found.1; columns = found.2 }

    pub valid_at : (k : K) (v : V) → f k ≡ Some v → IsTrue (layout.is_valid v)
    valid_at k v is = test_has layout.is_valid (values are.rows) v are.valid (held_among layout.order total are.rows k v (are.are k ∙ is))

  module _ (one : (v w : V) → IsTrue (layout.is_valid v) → IsTrue (layout.is_valid w) → layout.encode v ≡ layout.encode w → v ≡ w) where
    one_way : (f g : K → Option V) → AreRowsAt layout f stored → AreRowsAt layout g stored → ((k : K) (v : V) → f k ≡ Some v → layout.key v ≡ k) → ((k : K) (v : V) → g k ≡ Some v → layout.key v ≡ k) → (k : K) (v : V) → f k ≡ Some v → g k ≡ Some v
    one_way f g first second keyed again k v is =
        let it = given g second (layout.encode v) (is_stored f first k v is) in
        let same : v ≡ it.row = one v it.row (valid_at f first k v is) it.valid it.columns in
        let at : it.key ≡ k = sym (again it.key it.row it.is) ∙ ap layout.key (sym same) ∙ keyed k v is in
        ap g (sym at) ∙ it.is ∙ ap Some (sym same)

    pub same_function : (f g : K → Option V) → AreRowsAt layout f stored → AreRowsAt layout g stored → ((k : K) (v : V) → f k ≡ Some v → layout.key v ≡ k) → ((k : K) (v : V) → g k ≡ Some v → layout.key v ≡ k) → (k : K) → f k ≡ g k
    same_function f g first second keyed again k = go (f k) (g k) refl refl
      where
        go : (mine theirs : Option V) → f k ≡ mine → g k ≡ theirs → f k ≡ g k
        go (Some v) theirs is held = is ∙ sym (one_way f g first second keyed again k v is)
        go None None is held = is ∙ sym held
        go None (Some w) is held = one_way g f second first again keyed k w held ∙ sym held
