-- A finite map that gains or loses a key, as a list of its rows.
use Rattle.std.proofs.Common.{◌≡◌, List, [], ◌∷◌, map, filter, Bool, true, false, not, cond, ◌&&◌, T, Option, None, Some, refl, sym, ap, subst, ◌∙◌, Ordering, Less, Equal, Greater}
use Rattle.std.specs.List.{AllByRecursion}
use Rattle.std.specs.List.Sorted.{IsPermutation}
use Rattle.std.specs.Ordering.{is_eq, is_lt, eq_by_cmp}
use Rattle.std.specs.Option.{option_to_list}
use Rattle.std.specs.Cmp.{IsTotalOrder, alike_right, eq_by_cmp_equiv}
use Rattle.std.specs.FinMap.{FinMap, entries, values, insert, remove, get, put, find, is_sorted, from_sorted, IsAntisymmetric, same_map, get-remove, get-from_sorted, get-entries, entries-insert, entries-from_sorted, entries_sorted}
use Rattle.std.specs.FinMap.Entries.{by_order, where_key, below_all, is_sorted-where_key, find-where_key}
use Rattle.std.proofs.lemmas.List.Sorted.{IsPermutation-refl, IsPermutation-trans, IsPermutation-cons, IsPermutation-middle}

pub both_true : (a b : Bool) → T (a && b) → (a ≡ true) × T b
both_true true b h = (refl, h)
both_true false b h = absurd h

pub both_hold : (a b : Bool) → a ≡ true → T b → T (a && b)
both_hold true b p q = q
both_hold false b p q = absurd (cc)

pub less_is : (o : Ordering) → is_lt o ≡ true → o ≡ Less
less_is Less h = refl
less_is Equal h = absurd (cc)
less_is Greater h = absurd (cc)

module _ {K V : Type 0} (R : K → K → Ordering) (total : IsTotalOrder R) where
  abbrev rows : List (K × V) → List V
  rows es = map (λ e. e.1) es

  abbrev others : K → List (K × V) → List (K × V)
  others k es = where_key R (λ x. not (eq_by_cmp R k x)) es

  -- the key is below all others, so none ties with it
  all_stay : (k : K) (es : List (K × V)) → T (below_all R k es) → others k es ≡ es
  all_stay k [] below = refl
  all_stay k (e ∷ es) below =
      let parts = both_true _ _ below in
      let less = less_is (R k e.0) parts.0 in rw less (ap (λ l. e ∷ l) (all_stay k es parts.1))

  lower : (k x : K) (es : List (K × V)) → R k x ≡ Less → T (below_all R x es) → T (below_all R k es)
  lower k x [] less below = tt
  lower k x (e ∷ es) less below =
      let parts = both_true _ _ below in both_hold _ _ (ap is_lt (total.trans k x e.0 less (less_is _ parts.0))) (lower k x es less parts.1)

  as_low : (k x : K) (es : List (K × V)) → R k x ≡ Equal → T (below_all R x es) → T (below_all R k es)
  as_low k x [] same below = tt
  as_low k x (e ∷ es) same below =
      let parts = both_true _ _ below in both_hold _ _ (ap is_lt (total.congr k x e.0 same) ∙ parts.0) (as_low k x es same parts.1)

  -- the row stands in place of the one that its key had
  pub put_adds : (k : K) (v : V) (es : List (K × V)) → T (is_sorted R es) → IsPermutation (rows (put R k v es)) (v ∷ rows (others k es))
  put_adds k v [] sorted = IsPermutation-refl _
  put_adds k v (e ∷ es) sorted = go (R k e.0) refl (put_adds k v es parts.1)
    where
      parts : (below_all R e.0 es ≡ true) × T (is_sorted R es)
      parts = both_true _ _ sorted

      below : T (below_all R e.0 es)
      below = subst T (sym parts.0) tt

      go : (o : Ordering) → R k e.0 ≡ o → IsPermutation (rows (put R k v es)) (v ∷ rows (others k es))
          → IsPermutation (rows (by_order o ((k, v) ∷ e ∷ es) ((e.0, v) ∷ es) (e ∷ put R k v es))) (v ∷ rows (cond (not (is_eq o)) (e ∷ others k es) (others k es)))
      go Less is later = rw (all_stay k es (lower k e.0 es is below)) (IsPermutation-refl _)
      go Equal is later = rw (all_stay k es (as_low k e.0 es is below)) (IsPermutation-refl _)
      go Greater is later = IsPermutation-trans _ _ _ (IsPermutation-cons e.1 _ _ later) (IsPermutation-middle (e.1 ∷ []) v (rows (others k es)))

  pub values-insert : (m : FinMap R V) (k : K) (v : V) → IsPermutation (values (insert m k v)) (v ∷ rows (others k (entries m)))
  values-insert m k v = subst (λ es. IsPermutation (rows es) (v ∷ rows (others k (entries m)))) (sym (entries-insert total m k v)) (put_adds k v (entries m) (entries_sorted m))

  pub entries-remove : IsAntisymmetric R → (m : FinMap R V) (k : K) → entries (remove m k) ≡ others k (entries m)
  entries-remove same m k =
      let sorted = is_sorted-where_key R (λ x. not (eq_by_cmp R k x)) (entries m) (entries_sorted m) in
      let left : FinMap R V = from_sorted (others k (entries m)) in
      let is : remove m k ≡ left = same_map total same (remove m k) left (λ q. get-remove total m k q ∙ sym (found q sorted)) in
      ap entries is ∙ entries-from_sorted R (others k (entries m)) sorted
    where
      turned : (b : Bool) (x y : Option V) → cond (not b) x y ≡ cond b y x
      turned true x y = refl
      turned false x y = refl

      found : (q : K) → T (is_sorted R (others k (entries m))) → get (from_sorted {R = R} (others k (entries m))) q ≡ cond (eq_by_cmp R q k) None (get m q)
      found q sorted =
          get-from_sorted R (others k (entries m)) q sorted
          ∙ find-where_key R (λ x. not (eq_by_cmp R k x)) q (λ x t. ap (λ r. not (is_eq r)) (sym (alike_right total q x k t))) (entries m)
          ∙ turned (eq_by_cmp R k q) _ _ ∙ ap (λ b. cond b None (find R q (entries m))) ((eq_by_cmp_equiv total).symm k q)
          ∙ ap (cond (eq_by_cmp R q k) None) (sym (get-entries m q))

module _ {K V : Type 0} (R : K → K → Ordering) (same : IsAntisymmetric R) (key : V → K) where
  -- the rows of the other keys
  pub other_rows : (k : K) (es : List (K × V)) → AllByRecursion (λ e. e.0 ≡ key e.1) es
      → filter (λ v. not (eq_by_cmp R k (key v))) (map (λ e. e.1) es) ≡ map (λ e. e.1) (where_key R (λ x. not (eq_by_cmp R k x)) es)
  other_rows k [] keyed = refl
  other_rows k (e ∷ es) keyed = rw (← keyed.0) (go (not (eq_by_cmp R k e.0)) (other_rows k es keyed.1))
    where
      go : (b : Bool) → filter (λ v. not (eq_by_cmp R k (key v))) (map (λ e. e.1) es) ≡ map (λ e. e.1) (where_key R (λ x. not (eq_by_cmp R k x)) es)
          → cond b (e.1 ∷ filter (λ v. not (eq_by_cmp R k (key v))) (map (λ e. e.1) es)) (filter (λ v. not (eq_by_cmp R k (key v))) (map (λ e. e.1) es))
          ≡ map (λ e. e.1) (cond b (e ∷ where_key R (λ x. not (eq_by_cmp R k x)) es) (where_key R (λ x. not (eq_by_cmp R k x)) es))
      go true rest = ap (λ l. e.1 ∷ l) rest
      go false rest = rest

  put_keyed : (v : V) (es : List (K × V)) → AllByRecursion (λ e. e.0 ≡ key e.1) es → AllByRecursion (λ e. e.0 ≡ key e.1) (put R (key v) v es)
  put_keyed v [] keyed = (refl, tt)
  put_keyed v (e ∷ es) keyed = go (R (key v) e.0) refl (put_keyed v es keyed.1)
    where
      go : (o : Ordering) → R (key v) e.0 ≡ o → AllByRecursion (λ e. e.0 ≡ key e.1) (put R (key v) v es)
          → AllByRecursion (λ e. e.0 ≡ key e.1) (by_order o ((key v, v) ∷ e ∷ es) ((e.0, v) ∷ es) (e ∷ put R (key v) v es))
      go Less is rest = (refl, (keyed.0, keyed.1))
      go Equal is rest = (sym (same (key v) e.0 is), keyed.1)
      go Greater is rest = (keyed.0, rest)

  pub keyed-insert : IsTotalOrder R → (m : FinMap R V) (v : V) → AllByRecursion (λ e. e.0 ≡ key e.1) (entries m) → AllByRecursion (λ e. e.0 ≡ key e.1) (entries (insert m (key v) v))
  keyed-insert total m v keyed = subst (AllByRecursion (λ (e : K × V). e.0 ≡ key e.1)) (sym (entries-insert total m (key v) v)) (put_keyed v (entries m) keyed)

  where_keyed : (p : K → Bool) (es : List (K × V)) → AllByRecursion (λ e. e.0 ≡ key e.1) es → AllByRecursion (λ e. e.0 ≡ key e.1) (where_key R p es)
  where_keyed p [] keyed = tt
  where_keyed p (e ∷ es) keyed =
      elim (p e.0) as (λ b. AllByRecursion (λ (e : K × V). e.0 ≡ key e.1) (cond b (e ∷ where_key R p es) (where_key R p es))) [ true ↦ (keyed.0, where_keyed p es keyed.1) | false ↦ where_keyed p es keyed.1 ]

  pub keyed-remove : IsTotalOrder R → (m : FinMap R V) (k : K) → AllByRecursion (λ e. e.0 ≡ key e.1) (entries m) → AllByRecursion (λ e. e.0 ≡ key e.1) (entries (remove m k))
  keyed-remove total m k keyed = subst (AllByRecursion (λ (e : K × V). e.0 ≡ key e.1)) (sym (entries-remove R total same m k)) (where_keyed _ (entries m) keyed)

-- ---- what holds of every row

module _ {K V : Type 0} (R : K → K → Ordering) (P : V → Type 0) where
  put_all : (k : K) (v : V) (es : List (K × V)) → P v → AllByRecursion (λ e. P e.1) es → AllByRecursion (λ e. P e.1) (put R k v es)
  put_all k v [] new all = (new, tt)
  put_all k v (e ∷ es) new all = go (R k e.0) (put_all k v es new all.1)
    where
      go : (o : Ordering) → AllByRecursion (λ e. P e.1) (put R k v es) → AllByRecursion (λ e. P e.1) (by_order o ((k, v) ∷ e ∷ es) ((e.0, v) ∷ es) (e ∷ put R k v es))
      go Less rest = (new, (all.0, all.1))
      go Equal rest = (new, all.1)
      go Greater rest = (all.0, rest)

  pub all-insert : IsTotalOrder R → (m : FinMap R V) (k : K) (v : V) → P v → AllByRecursion (λ e. P e.1) (entries m) → AllByRecursion (λ e. P e.1) (entries (insert m k v))
  all-insert total m k v new all = subst (AllByRecursion (λ (e : K × V). P e.1)) (sym (entries-insert total m k v)) (put_all k v (entries m) new all)

  where_all : (p : K → Bool) (es : List (K × V)) → AllByRecursion (λ e. P e.1) es → AllByRecursion (λ e. P e.1) (where_key R p es)
  where_all p [] all = tt
  where_all p (e ∷ es) all =
      elim (p e.0) as (λ b. AllByRecursion (λ (e : K × V). P e.1) (cond b (e ∷ where_key R p es) (where_key R p es))) [ true ↦ (all.0, where_all p es all.1) | false ↦ where_all p es all.1 ]

  pub all-remove : IsTotalOrder R → IsAntisymmetric R → (m : FinMap R V) (k : K) → AllByRecursion (λ e. P e.1) (entries m) → AllByRecursion (λ e. P e.1) (entries (remove m k))
  all-remove total same m k all = subst (AllByRecursion (λ (e : K × V). P e.1)) (sym (entries-remove R total same m k)) (where_all _ (entries m) all)

-- ---- the row of one key

module _ {K V : Type 0} (R : K → K → Ordering) (total : IsTotalOrder R) (key : V → K) where
  none_at : (k : K) (es : List (K × V)) → T (below_all R k es) → AllByRecursion (λ e. e.0 ≡ key e.1) es → filter (λ v. eq_by_cmp R k (key v)) (map (λ e. e.1) es) ≡ []
  none_at k [] below keyed = refl
  none_at k (e ∷ es) below keyed =
      let parts = both_true _ _ below in
      let less : R k (key e.1) ≡ Less = ap (R k) (sym keyed.0) ∙ less_is (R k e.0) parts.0 in
      rw less (none_at k es parts.1 keyed.1)

  one_at : (k : K) (es : List (K × V)) → T (is_sorted R es) → AllByRecursion (λ e. e.0 ≡ key e.1) es
      → filter (λ v. eq_by_cmp R k (key v)) (map (λ e. e.1) es) ≡ option_to_list (find R k es)
  one_at k [] sorted keyed = refl
  one_at k (e ∷ es) sorted keyed = rw (← keyed.0) (go (R k e.0) refl (one_at k es parts.1 keyed.1))
    where
      parts : (below_all R e.0 es ≡ true) × T (is_sorted R es)
      parts = both_true _ _ sorted

      go : (o : Ordering) → R k e.0 ≡ o → filter (λ v. eq_by_cmp R k (key v)) (map (λ e. e.1) es) ≡ option_to_list (find R k es)
          → cond (is_eq o) (e.1 ∷ filter (λ v. eq_by_cmp R k (key v)) (map (λ e. e.1) es)) (filter (λ v. eq_by_cmp R k (key v)) (map (λ e. e.1) es)) ≡ option_to_list (cond (is_eq o) (Some e.1) (find R k es))
      go Less is rest = rest
      go Equal is rest = ap (λ l. e.1 ∷ l) (none_at k es (as_low R total k e.0 es is (subst T (sym parts.0) tt)) keyed.1)
      go Greater is rest = rest

  -- a search by the key finds what `get` does
  pub filter-get : (m : FinMap R V) (k : K) → AllByRecursion (λ e. e.0 ≡ key e.1) (entries m) → filter (λ v. eq_by_cmp R k (key v)) (values m) ≡ option_to_list (get m k)
  filter-get m k keyed = one_at k (entries m) (entries_sorted m) keyed ∙ ap option_to_list (sym (get-entries m k))
