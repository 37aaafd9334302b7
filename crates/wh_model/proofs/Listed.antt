-- The rows of a finite map that pass a test, in the order of their keys.
use Rattle.std.proofs.Common.{◌≡◌, T, Bool, true, false, cond, ◌||◌, List, [], ◌∷◌, ◌++◌, map, filter, length, take, reverse, Option, None, Some, refl, sym, ◌∙◌, ap, subst, arith, inl, inr, Ordering, Less, Equal, ℕ, zero, suc, ◌+◌, ◌<◌, ◌≤◌}
use Rattle.std.specs.Prelude.{filter_map}
use Rattle.std.specs.List.{AllByRecursion, list_any, range_with_len, cons_option}
use Rattle.std.specs.Ordering.{is_lt, is_eq, eq_by_cmp, nat_cmp}
use Rattle.std.proofs.lemmas.Bool.{cases_lt, lt-ltb}
use Rattle.std.proofs.lemmas.Cmp.{nat_cmp_total}
use Rattle.std.proofs.lemmas.List.{reverse-append}
use Rattle.wh_history.proofs.Basics.{or_true}
use Rattle.std.specs.Option.{option_to_list}
use Rattle.std.specs.Cmp.{IsTotalOrder, eq_by_cmp_equiv}
use Rattle.std.specs.FinMap.{FinMap, entries, values, get, len, find, is_sorted, IsAntisymmetric, nat_cmp-IsAntisymmetric, entries_sorted, get-entries, len-entries}
use Rattle.std.specs.FinMap.Entries.{below_all, same_entries}
use Rattle.wh_rows.proofs.Maps.{both_hold, both_true, less_is}
use Rattle.wh_rows.proofs.Edits.{filter_all}

pub equal_is : (o : Ordering) → is_eq o ≡ true → o ≡ Equal
equal_is Ordering.Less h = absurd (cc)
equal_is Ordering.Equal h = refl
equal_is Ordering.Greater h = absurd (cc)

pub is_true : (b : Bool) → T b → b ≡ true
is_true true h = refl
is_true false h = absurd h

-- a row if it passes
abbrev pub kept : {V : Type 0} → (V → Bool) → Option V → Option V
kept keep None = None
kept keep (Some v) = cond (keep v) (Some v) None

-- rows with their keys
abbrev pub keyed : {K V : Type 0} → (V → K) → List V → List (K × V)
keyed key rows = map (λ v. (key v, v)) rows

-- a key is below those of rows, and the keys of rows rise
abbrev pub Below : {K V : Type 0} → (K → K → Ordering) → (V → K) → K → List V → Type 0
Below R key k rows = AllByRecursion (λ v. R k (key v) ≡ Less) rows

abbrev pub Ascends : {K V : Type 0} → (K → K → Ordering) → (V → K) → List V → Type 0
Ascends R key [] = Unit {0}
Ascends R key (v ∷ rows) = Below R key (key v) rows × Ascends R key rows

module _ {K V : Type 0} (R : K → K → Ordering) (key : V → K) where
  below_keyed : (k : K) (rows : List V) → Below R key k rows → T (below_all R k (keyed key rows))
  below_keyed k [] below = tt
  below_keyed k (v ∷ rows) below = both_hold _ _ (ap is_lt below.0) (below_keyed k rows below.1)

  sorted_keyed : (rows : List V) → Ascends R key rows → T (is_sorted R (keyed key rows))
  sorted_keyed [] up = tt
  sorted_keyed (v ∷ rows) up = both_hold _ _ (is_true _ (below_keyed (key v) rows up.0)) (sorted_keyed rows up.1)

  rows_keyed : (rows : List V) → map (λ (e : K × V). e.1) (keyed key rows) ≡ rows
  rows_keyed [] = refl
  rows_keyed (v ∷ rows) = ap (λ l. v ∷ l) (rows_keyed rows)

-- ---- the entries whose rows pass

module _ {K V : Type 0} (R : K → K → Ordering) (keep : V → Bool) where
  abbrev passing : List (K × V) → List (K × V)
  passing es = filter (λ (e : K × V). keep e.1) es

  below_passing : (k : K) (es : List (K × V)) → T (below_all R k es) → T (below_all R k (passing es))
  below_passing k [] below = tt
  below_passing k (e ∷ es) below =
      let parts = both_true _ _ below in
      let rest = below_passing k es parts.1 in
      elim (keep e.1) as (λ b. T (below_all R k (cond b (e ∷ passing es) (passing es)))) [ true ↦ both_hold _ _ parts.0 rest | false ↦ rest ]

  sorted_passing : (es : List (K × V)) → T (is_sorted R es) → T (is_sorted R (passing es))
  sorted_passing [] sorted = tt
  sorted_passing (e ∷ es) sorted =
      let parts = both_true _ _ sorted in
      let rest = sorted_passing es parts.1 in
      let below = is_true _ (below_passing e.0 es (subst T (sym parts.0) tt)) in
      elim (keep e.1) as (λ b. T (is_sorted R (cond b (e ∷ passing es) (passing es)))) [ true ↦ both_hold _ _ below rest | false ↦ rest ]

  rows_passing : (es : List (K × V)) → map (λ (e : K × V). e.1) (passing es) ≡ filter keep (map (λ (e : K × V). e.1) es)
  rows_passing [] = refl
  rows_passing (e ∷ es) =
      let rest = rows_passing es in
      elim (keep e.1) as (λ b. map (λ (e : K × V). e.1) (cond b (e ∷ passing es) (passing es)) ≡ cond b (e.1 ∷ filter keep (map (λ (e : K × V). e.1) es)) (filter keep (map (λ (e : K × V). e.1) es))) [
        | true ↦ ap (λ l. e.1 ∷ l) rest
        | false ↦ rest
      ]

  module _ (total : IsTotalOrder R) where
    none_tied : (k x : K) (es : List (K × V)) → R k x ≡ Equal → T (below_all R x es) → find R k es ≡ None
    none_tied k x [] tie below = refl
    none_tied k x (e ∷ es) tie below =
        let parts = both_true _ _ below in
        let less : R k e.0 ≡ Less = total.congr k x e.0 tie ∙ less_is _ parts.0 in
        rw less (none_tied k x es tie parts.1)

    abbrev first_found : Bool → V → Option V → Option V
    first_found b v other = cond b (Some v) other

    find_passing : (k : K) (es : List (K × V)) → T (is_sorted R es) → find R k (passing es) ≡ kept keep (find R k es)
    find_passing k [] sorted = refl
    find_passing k (e ∷ es) sorted =
        let parts = both_true _ _ sorted in
        let rest = find_passing k es parts.1 in
        elim (eq_by_cmp R k e.0) as (λ t. eq_by_cmp R k e.0 ≡ t → find R k (cond (keep e.1) (e ∷ passing es) (passing es)) ≡ kept keep (first_found t e.1 (find R k es))) [
          | true ↦ λ t.
              let none = none_tied k e.0 es (equal_is _ t) (subst T (sym parts.0) tt) in
              elim (keep e.1) as (λ b. find R k (cond b (e ∷ passing es) (passing es)) ≡ cond b (Some e.1) None) [
                | true ↦ ap (λ b. first_found b e.1 (find R k (passing es))) t
                | false ↦ rest ∙ ap (kept keep) none
              ]
          | false ↦ λ t.
              elim (keep e.1) as (λ b. find R k (cond b (e ∷ passing es) (passing es)) ≡ kept keep (find R k es)) [
                | true ↦ ap (λ b. first_found b e.1 (find R k (passing es))) t ∙ rest
                | false ↦ rest
              ]
        ] refl

-- ---- a list whose rows are those that pass

module _ {K V : Type 0} (R : K → K → Ordering) (total : IsTotalOrder R) (same : IsAntisymmetric R) (key : V → K) where
  itself : (k : K) → eq_by_cmp R k k ≡ true
  itself k = (eq_by_cmp_equiv total).refl k

  -- what is found under a key among rows has the key, and what holds of each row
  found_has : (P : V → Type 0) (k : K) (v : V) (rows : List V) → AllByRecursion P rows → find R k (keyed key rows) ≡ Some v → (k ≡ key v) × P v
  found_has P k v [] all is = absurd (cc)
  found_has P k v (w ∷ rows) all is =
      elim (eq_by_cmp R k (key w)) as (λ b. eq_by_cmp R k (key w) ≡ b → cond b (Some w) (find R k (keyed key rows)) ≡ Some v → (k ≡ key v) × P v) [
        | true ↦ λ t here.
            let one : w ≡ v = cc in
            (same k (key w) (equal_is _ t) ∙ ap key one, subst P one all.0)
        | false ↦ λ t later. found_has P k v rows all.1 later
      ] refl is

  -- a list in order, of rows that are in the map and pass, among them each that does, is what a search in the map gives
  module _ (keep : V → Bool) (m : FinMap R V) (rows : List V) where
    pub filter-values_find : T (is_sorted R (keyed key rows)) → ((k : K) → find R k (keyed key rows) ≡ kept keep (get m k)) → filter keep (values m) ≡ rows
    filter-values_find sorted is =
        let es = entries m in
        let agrees : (k : K) → find R k (passing R keep es) ≡ find R k (keyed key rows) = λ k. find_passing R keep total k es (entries_sorted m) ∙ ap (kept keep) (sym (get-entries m k)) ∙ sym (is k) in
        let same_list : passing R keep es ≡ keyed key rows = same_entries R total same (passing R keep es) (keyed key rows) (sorted_passing R keep es (entries_sorted m)) sorted agrees in
        sym (rows_passing R keep es) ∙ ap (map (λ (e : K × V). e.1)) same_list ∙ rows_keyed R key rows

    there : (k : K) (vs : List V) → list_any (λ v. eq_by_cmp R k (key v)) vs ≡ true → find R k (keyed key vs) ≡ None → ⊥
    there k [] among is = cc
    there k (v ∷ vs) among is =
        elim (eq_by_cmp R k (key v)) as (λ b. (b || list_any (λ v. eq_by_cmp R k (key v)) vs) ≡ true → cond b (Some v) (find R k (keyed key vs)) ≡ None → ⊥) [
          | true ↦ λ _ none. cc
          | false ↦ λ later none. there k vs later none
        ] among is

    module _ (listed : AllByRecursion (λ v. (get m (key v) ≡ Some v) × (keep v ≡ true)) rows) (all : (k : K) (v : V) → get m k ≡ Some v → keep v ≡ true → list_any (λ w. eq_by_cmp R k (key w)) rows ≡ true) where
      agrees : (k : K) (mine theirs : Option V) → find R k (keyed key rows) ≡ mine → get m k ≡ theirs → mine ≡ kept keep theirs
      agrees k (Some v) theirs is held =
          let has = found_has (λ v. (get m (key v) ≡ Some v) × (keep v ≡ true)) k v rows listed is in
          let here : theirs ≡ Some v = sym held ∙ ap (get m) has.0 ∙ has.1.0 in
          sym (ap (kept keep) here ∙ ap (λ b. cond b (Some v) None) has.1.1)
      agrees k None None is held = refl
      agrees k None (Some v) is held =
          elim (keep v) as (λ b. keep v ≡ b → None ≡ cond b (Some v) None) [
            | true ↦ λ passes. absurd (there k rows (all k v held passes) is)
            | false ↦ λ _. refl
          ] refl

      pub filter-values : Ascends R key rows → filter keep (values m) ≡ rows
      filter-values up = filter-values_find (sorted_keyed R key rows up) (λ k. agrees k (find R k (keyed key rows)) (get m k) refl refl)

length_rows : {K V : Type 0} (es : List (K × V)) → length es ≡ length (map (λ (e : K × V). e.1) es)
length_rows [] = refl
length_rows (e ∷ es) = ap suc (length_rows es)

pub len-values : {K V : Type 0} (R : K → K → Ordering) (m : FinMap R V) → len m ≡ length (values m)
len-values R m = len-entries m ∙ length_rows (entries m)

-- the rows of a map are those of a list in order, where each row of the list is in the map, and each key of the map is in the list
module _ {K V : Type 0} (R : K → K → Ordering) (total : IsTotalOrder R) (same : IsAntisymmetric R) (key : V → K) (m : FinMap R V) (rows : List V) where
  pub values-listed : AllByRecursion (λ v. get m (key v) ≡ Some v) rows → ((k : K) (v : V) → get m k ≡ Some v → list_any (λ w. eq_by_cmp R k (key w)) rows ≡ true) → Ascends R key rows → values m ≡ rows
  values-listed listed all up = sym (filter_all (values m)) ∙ filter-values R total same key (λ _. true) m rows (both rows listed) (λ k v held _. all k v held) up
    where
      both : (vs : List V) → AllByRecursion (λ v. get m (key v) ≡ Some v) vs → AllByRecursion (λ v. (get m (key v) ≡ Some v) × (true ≡ true)) vs
      both [] each = tt
      both (v ∷ vs) each = ((each.0, refl), both vs each.1)

-- ---- one row or none

module _ {K V : Type 0} (R : K → K → Ordering) (total : IsTotalOrder R) (same : IsAntisymmetric R) (key : V → K) (keep : V → Bool) (m : FinMap R V) where
  pub one_passes : (v : V) → get m (key v) ≡ Some v → keep v ≡ true → ((k : K) (w : V) → get m k ≡ Some w → keep w ≡ true → k ≡ key v) → filter keep (values m) ≡ v ∷ []
  one_passes v held passes only =
      filter-values R total same key keep m (v ∷ []) ((held, passes), tt)
      (λ k w here kept. let is = only k w here kept in rw (is, (eq_by_cmp_equiv total).refl (key v)) refl) (tt, tt)

  pub none_passes : ((k : K) (w : V) → get m k ≡ Some w → keep w ≡ true → ⊥) → filter keep (values m) ≡ []
  none_passes none = filter-values R total same key keep m [] tt (λ k w here kept. absurd (none k w here kept)) tt

  -- where the test passes at no key but one
  pub passes_at : (k : K) → ((w : V) → get m k ≡ Some w → (key w ≡ k) × (keep w ≡ true)) → ((j : K) (w : V) → get m j ≡ Some w → keep w ≡ true → j ≡ k) → filter keep (values m) ≡ option_to_list (get m k)
  passes_at k has only = by_row (get m k) refl
    where
      by_row : (o : Option V) → get m k ≡ o → filter keep (values m) ≡ option_to_list o
      by_row (Some v) is = let own = has v is in one_passes v (ap (get m) own.0 ∙ is) own.1 (λ j w here passes. only j w here passes ∙ sym own.0)
      by_row None is = none_passes (λ j w here passes. let there : get m k ≡ Some w = ap (get m) (sym (only j w here passes)) ∙ here in cc)

-- ---- the rows of a range of numbers, each with its own key

module _ {K V : Type 0} (R : K → K → Ordering) (key : V → K) (key_of : ℕ → K) (rises : (i j : ℕ) → i < j → R (key_of i) (key_of j) ≡ Less) (row : ℕ → Option V) (at : (n : ℕ) (v : V) → row n ≡ Some v → key v ≡ key_of n) where
  abbrev numbered : ℕ → ℕ → List V
  numbered from count = filter_map row (range_with_len from count)

  pub below_numbered : (x from count : ℕ) → x < from → Below R key (key_of x) (filter_map row (range_with_len from count))
  below_numbered x from zero less = tt
  below_numbered x from (suc count) less =
      let rest = below_numbered x (from + 1) count (omega arith) in
      elim (row from) as (λ o. row from ≡ o → Below R key (key_of x) (cons_option o (numbered (from + 1) count))) [
        | None ↦ λ _. rest
        | Some v ↦ λ is. (ap (R (key_of x)) (at from v is) ∙ rises x from less, rest)
      ] refl

  pub ascends_numbered : (from count : ℕ) → Ascends R key (filter_map row (range_with_len from count))
  ascends_numbered from zero = tt
  ascends_numbered from (suc count) =
      let rest = ascends_numbered (from + 1) count in
      elim (row from) as (λ o. row from ≡ o → Ascends R key (cons_option o (numbered (from + 1) count))) [
        | None ↦ λ _. rest
        | Some v ↦ λ is. (subst (λ k. Below R key k (numbered (from + 1) count)) (sym (at from v is)) (below_numbered from (from + 1) count (omega arith)), rest)
      ] refl

module _ {V : Type 0} (row : ℕ → Option V) where
  pub all_numbered : (P : V → Type 0) → ((n : ℕ) (v : V) → row n ≡ Some v → P v) → (from count : ℕ) → AllByRecursion P (filter_map row (range_with_len from count))
  all_numbered P holds from zero = tt
  all_numbered P holds from (suc count) =
      let rest = all_numbered P holds (from + 1) count in
      elim (row from) as (λ o. row from ≡ o → AllByRecursion P (cons_option o (filter_map row (range_with_len (from + 1) count)))) [
        | None ↦ λ _. rest
        | Some v ↦ λ is. (holds from v is, rest)
      ] refl

  pub among_numbered : (p : V → Bool) (n : ℕ) (v : V) → row n ≡ Some v → p v ≡ true → (from count : ℕ) → from ≤ n → n < from + count → list_any p (filter_map row (range_with_len from count)) ≡ true
  among_numbered p n v is passes from zero low high = absurd (omega arith)
  among_numbered p n v is passes from (suc count) low high =
      elim (cases_lt from n) [
        | inl below ↦
            let rest = among_numbered p n v is passes (from + 1) count (omega arith) (omega arith) in
            elim (row from) as (λ o. list_any p (cons_option o (filter_map row (range_with_len (from + 1) count))) ≡ true) [
              | None ↦ rest
              | Some w ↦ rw rest (or_true (p w))
            ]
        | inr up ↦
            let here : from ≡ n = omega arith in
            let first : row from ≡ Some v = ap row here ∙ is in
            rw (first, passes) refl
      ]

  pub length_numbered : (from count : ℕ) → ((n : ℕ) → from ≤ n → n < from + count → (v : V) × (row n ≡ Some v)) → length (filter_map row (range_with_len from count)) ≡ count
  length_numbered from zero there = refl
  length_numbered from (suc count) there =
      let here = there from (omega arith) (omega arith) in
      let rest = length_numbered (from + 1) count (λ n low high. there n (omega arith) (omega arith)) in
      rw here.1 (ap suc rest)

  -- the last of them
  ends_with : (from count : ℕ) (v : V) → row (from + count) ≡ Some v → (front : List V) × (filter_map row (range_with_len from (suc count)) ≡ front ++ v ∷ [])
  ends_with from zero v is = let here : row from ≡ Some v = ap row (omega arith) ∙ is in ([], ap (λ o. cons_option o []) here)
  ends_with from (suc count) v is =
      let rest = ends_with (from + 1) count v (ap row (omega arith) ∙ is) in
      (cons_option (row from) rest.0, ap (cons_option (row from)) rest.1 ∙ before (row from) rest.0)
    where
      before : (o : Option V) (front : List V) → cons_option o (front ++ v ∷ []) ≡ cons_option o front ++ v ∷ []
      before None front = refl
      before (Some w) front = refl

  pub last_numbered : (from count : ℕ) (v : V) → row (from + count) ≡ Some v → take 1 (reverse (filter_map row (range_with_len from (suc count)))) ≡ v ∷ []
  last_numbered from count v is = let end = ends_with from count v is in ap (λ l. take 1 (reverse l)) end.1 ∙ ap (take 1) (reverse-append end.0 (v ∷ []))

-- ---- a map from numbers

abbrev pub upto : {V : Type 0} → (ℕ → Option V) → ℕ → List V
upto row top = filter_map row (range_with_len 0 (suc top))

pub number_rises : (i j : ℕ) → i < j → nat_cmp i j ≡ Less
number_rises i j less = rw (lt-ltb i j less) refl

-- its rows are those of the numbers up to one that no key is above
module _ {V : Type 0} (key : V → ℕ) (m : FinMap nat_cmp V) (row : ℕ → Option V) (held : (n : ℕ) → get m n ≡ row n) (at : (n : ℕ) (v : V) → row n ≡ Some v → key v ≡ n) (top : ℕ) (past : (n : ℕ) → top < n → row n ≡ None) where
  pub values-numbered : values m ≡ filter_map row (range_with_len 0 (suc top))
  values-numbered =
      values-listed nat_cmp nat_cmp_total nat_cmp-IsAntisymmetric key m (upto row top)
      (all_numbered row (λ v. get m (key v) ≡ Some v) (λ n v is. ap (get m) (at n v is) ∙ held n ∙ is) 0 (suc top))
      (λ n v here. let is = sym (held n) ∙ here in
      elim (cases_lt top n) [
        | inl above ↦ let none = past n above in absurd (cc)
        | inr within ↦ among_numbered row (λ w. eq_by_cmp nat_cmp n (key w)) n v is (ap (eq_by_cmp nat_cmp n) (at n v is) ∙ (eq_by_cmp_equiv nat_cmp_total).refl n) 0 (suc top) (omega arith) (omega arith)
      ])
      (ascends_numbered nat_cmp key (λ n. n) number_rises row at 0 (suc top))
