-- Lines by labels of any kind: with one sale more, in any order, with several of one label, and that they add up.
use Rattle.std.proofs.Common.{◌≡◌, ℕ, zero, suc, ◌+◌, ◌<◌, ◌≤◌, Bool, true, false, cond, ◌||◌, List, [], ◌∷◌, ◌++◌, map, length, Some, None, unwrap_or, refl, sym, ◌∙◌, ap, ap₂, subst, arith, ◌⊎◌, inl, inr, pos, ◌+ℤ◌}
use Rattle.std.specs.Prelude.{filter, slice_index_or, slice_set}
use Rattle.std.specs.List.{list_any, AllByRecursion, swap}
use Rattle.std.specs.List.Sorted.{IsPermutation, IsStrictlySortedBy}
use Rattle.std.specs.Map.{lookup, set_value}
use Rattle.std.specs.Cmp.{IsTotalOrder}
use Rattle.std.specs.Ordering.{match_ordering, is_eq, ordering_reverse, eq_by_cmp}
use Rattle.std.specs.declared.cmp.Ordering.{Ordering}
use Rattle.std.specs.declared.cmp.Ordering.TheVariants.{Less, Equal, Greater}
use Rattle.std.specs.BTreeMap.{is_at, insert_entry}
use Rattle.std.specs.BTreeSet.{insert_key}
use Rattle.std.proofs.lemmas.Int.{ints}
use Rattle.std.proofs.lemmas.Cmp.{tied_itself, tied_back}
use Rattle.std.proofs.lemmas.List.{append-nil, map-append}
use Rattle.std.proofs.lemmas.List.Elements.{filter-append}
use Rattle.std.proofs.lemmas.List.Sorted.{IsPermutation-keeps}
use Rattle.wh_report.specs.Sums.{Measured, Figures, nothing, plus, with_line}
use Rattle.wh_report.specs.Lines.{Labelled, sum_of, figures, sold_as, labels, lines, added}

-- ---- figures

pub figures-cons : (m : Measured) (ms : List Measured) → figures (m ∷ ms) ≡ with_line m (figures ms)
figures-cons m ms =
    let n : suc (length ms) ≡ length ms + 1 = omega arith in
    let q : m.quantity +ℤ sum_of (λ m. m.quantity) ms ≡ sum_of (λ m. m.quantity) ms +ℤ m.quantity = omega (arith, ints) in
    let a : m.amount +ℤ sum_of (λ m. m.amount) ms ≡ sum_of (λ m. m.amount) ms +ℤ m.amount = omega (arith, ints) in
    let k : m.cost +ℤ sum_of (λ m. m.cost) ms ≡ sum_of (λ m. m.cost) ms +ℤ m.cost = omega (arith, ints) in
    rw (n, q, a, k) refl

lines_swap : (m n : Measured) (t : Figures) → with_line m (with_line n t) ≡ with_line n (with_line m t)
lines_swap m n t =
    let q : (t.quantity +ℤ n.quantity) +ℤ m.quantity ≡ (t.quantity +ℤ m.quantity) +ℤ n.quantity = omega (arith, ints) in
    let a : (t.amount +ℤ n.amount) +ℤ m.amount ≡ (t.amount +ℤ m.amount) +ℤ n.amount = omega (arith, ints) in
    let k : (t.cost +ℤ n.cost) +ℤ m.cost ≡ (t.cost +ℤ m.cost) +ℤ n.cost = omega (arith, ints) in
    rw (q, a, k) refl

figures-swap : (m n : Measured) (ms : List Measured) → figures (m ∷ n ∷ ms) ≡ figures (n ∷ m ∷ ms)
figures-swap m n ms =
    figures-cons m (n ∷ ms) ∙ ap (with_line m) (figures-cons n ms) ∙ lines_swap m n (figures ms) ∙ ap (with_line n) (sym (figures-cons m ms)) ∙ sym (figures-cons n (m ∷ ms))

-- one more behind the others
pub figures-push : (ms : List Measured) (m : Measured) → figures (ms ++ m ∷ []) ≡ with_line m (figures ms)
figures-push [] m = figures-cons m []
figures-push (n ∷ ms) m =
    figures-cons n (ms ++ m ∷ []) ∙ ap (with_line n) (figures-push ms m) ∙ lines_swap n m (figures ms) ∙ ap (with_line m) (sym (figures-cons n ms))

plus_first : (m : Measured) (t u : Figures) → plus (with_line m t) u ≡ with_line m (plus t u)
plus_first m t u =
    let n : (t.lines + 1) + u.lines ≡ (t.lines + u.lines) + 1 = omega arith in
    let q : (t.quantity +ℤ m.quantity) +ℤ u.quantity ≡ (t.quantity +ℤ u.quantity) +ℤ m.quantity = omega (arith, ints) in
    let a : (t.amount +ℤ m.amount) +ℤ u.amount ≡ (t.amount +ℤ u.amount) +ℤ m.amount = omega (arith, ints) in
    let k : (t.cost +ℤ m.cost) +ℤ u.cost ≡ (t.cost +ℤ u.cost) +ℤ m.cost = omega (arith, ints) in
    rw (n, q, a, k) refl

plus_second : (m : Measured) (t u : Figures) → plus t (with_line m u) ≡ with_line m (plus t u)
plus_second m t u =
    let n : t.lines + (u.lines + 1) ≡ (t.lines + u.lines) + 1 = omega arith in
    let q : t.quantity +ℤ (u.quantity +ℤ m.quantity) ≡ (t.quantity +ℤ u.quantity) +ℤ m.quantity = omega (arith, ints) in
    let a : t.amount +ℤ (u.amount +ℤ m.amount) ≡ (t.amount +ℤ u.amount) +ℤ m.amount = omega (arith, ints) in
    let k : t.cost +ℤ (u.cost +ℤ m.cost) ≡ (t.cost +ℤ u.cost) +ℤ m.cost = omega (arith, ints) in
    rw (n, q, a, k) refl

pub nothing_first : (t : Figures) → plus nothing t ≡ t
nothing_first t =
    let n : 0 + t.lines ≡ t.lines = omega arith in
    let q : pos 0 +ℤ t.quantity ≡ t.quantity = omega (arith, ints) in
    let a : pos 0 +ℤ t.amount ≡ t.amount = omega (arith, ints) in
    let k : pos 0 +ℤ t.cost ≡ t.cost = omega (arith, ints) in
    rw (n, q, a, k) refl

-- the figures of both
pub figures-append : (ms ns : List Measured) → figures (ms ++ ns) ≡ plus (figures ms) (figures ns)
figures-append [] ns = sym (nothing_first (figures ns))
figures-append (m ∷ ms) ns =
    figures-cons m (ms ++ ns) ∙ ap (with_line m) (figures-append ms ns) ∙ sym (plus_first m (figures ms) (figures ns)) ∙ ap (λ t. plus t (figures ns)) (sym (figures-cons m ms))

module _ {L : Type 0} (cmp : L → L → Ordering) where
  -- what lines come to with one sale more
  abbrev pub with_sale : Labelled L → List (L × Figures) → List (L × Figures)
  with_sale s es = insert_entry cmp es s.label (with_line s.measures (unwrap_or (lookup (is_at (cmp s.label)) es) nothing))

  -- all are above one
  abbrev pub Above : L → List L → Type 0
  Above low ls = AllByRecursion (λ l. cmp low l ≡ Less) ls

  -- each is below all after it
  abbrev pub Up : List L → Type 0
  Up [] = Unit {0}
  Up (l ∷ ls) = Above l ls × Up ls

  -- the figures of a label
  abbrev pub of_label : List (Labelled L) → L → Figures
  of_label sales label = figures (sold_as cmp label sales)

abbrev pub lines_by : {L : Type 0} → (L → Figures) → List L → List (L × Figures)
lines_by of = map (λ label. (label, of label))

module _ {L : Type 0} (cmp : L → L → Ordering) (total : IsTotalOrder cmp) (exact : (x y : L) → cmp x y ≡ Equal → x ≡ y) where
  -- ---- the order of labels

  pub turned : (x y : L) → cmp x y ≡ Greater → cmp y x ≡ Less
  turned x y e = total.antisymm y x ∙ ap ordering_reverse e

  pub above_too : (k l : L) (ls : List L) → cmp k l ≡ Less → Above cmp l ls → Above cmp k ls
  above_too k l [] less up = tt
  above_too k l (m ∷ ls) less up = (total.trans k l m less up.0, above_too k l ls less up.1)

  above-insert : (low k : L) (ls : List L) → cmp low k ≡ Less → Above cmp low ls → Above cmp low (insert_key cmp ls k)
  above-insert low k [] before up = (before, tt)
  above-insert low k (l ∷ ls) before up =
      elim (cmp k l) as (λ o. Above cmp low (match_ordering o (k ∷ l ∷ ls) (l ∷ ls) (l ∷ insert_key cmp ls k))) [
        | Less ↦ (before, up)
        | Equal ↦ up
        | Greater ↦ (up.0, above-insert low k ls before up.1)
      ]

  up-insert : (k : L) (ls : List L) → Up cmp ls → Up cmp (insert_key cmp ls k)
  up-insert k [] up = (tt, tt)
  up-insert k (l ∷ ls) up =
      elim (cmp k l) as (λ o. (cmp k l ≡ o) → Up cmp (match_ordering o (k ∷ l ∷ ls) (l ∷ ls) (l ∷ insert_key cmp ls k))) [
        | Less ↦ λ e. ((e, above_too k l ls e up.0), up)
        | Equal ↦ λ e. up
        | Greater ↦ λ e. (above-insert l k ls (turned k l e) up.0, up-insert k ls up.1)
      ] refl

  pub up-labels : (sales : List (Labelled L)) → Up cmp (labels cmp sales)
  up-labels [] = tt
  up-labels (s ∷ sales) = up-insert s.label (labels cmp sales) (up-labels sales)

  -- ---- the lines, by what there is to each label

  above_same : (old new : L → Figures) (k : L) (ls : List L) → ((l : L) → eq_by_cmp cmp k l ≡ false → new l ≡ old l) → Above cmp k ls → lines_by old ls ≡ lines_by new ls
  above_same old new k [] same up = refl
  above_same old new k (l ∷ ls) same up =
      let here = same l (ap is_eq up.0) in
      let rest = above_same old new k ls same up.1 in
      cc

  lines-insert : (old new : L → Figures) (k : L) (ls : List L) → ((l : L) → eq_by_cmp cmp k l ≡ false → new l ≡ old l) → Up cmp ls → insert_entry cmp (lines_by old ls) k (new k) ≡ lines_by new (insert_key cmp ls k)
  lines-insert old new k [] same up = refl
  lines-insert old new k (l ∷ ls) same up =
      elim (cmp k l) as (λ o. (cmp k l ≡ o) → match_ordering o ((k, new k) ∷ (l, old l) ∷ lines_by old ls) ((l, new k) ∷ lines_by old ls) ((l, old l) ∷ insert_entry cmp (lines_by old ls) k (new k)) ≡ lines_by new (match_ordering o (k ∷ l ∷ ls) (l ∷ ls) (l ∷ insert_key cmp ls k))) [
        | Less ↦ λ e.
            let here = same l (ap is_eq e) in
            let rest = above_same old new k ls same (above_too k l ls e up.0) in
            cc
        | Equal ↦ λ e.
            let is = exact k l e in
            let rest = above_same old new k ls same (subst (λ x. Above cmp x ls) (sym is) up.0) in
            cc
        | Greater ↦ λ e.
            let here = same l (ap is_eq e) in
            let rest = lines-insert old new k ls same up.1 in
            cc
      ] refl

  -- ---- what is looked up

  lookup_found : (of : L → Figures) (k : L) (ls : List L) → (list_any (is_at (cmp k)) ls ≡ false → of k ≡ nothing) → unwrap_or (lookup (is_at (cmp k)) (lines_by of ls)) nothing ≡ of k
  lookup_found of k [] absent = sym (absent refl)
  lookup_found of k (l ∷ ls) absent =
      elim (cmp k l) as (λ o. (cmp k l ≡ o) → ((is_eq o || list_any (is_at (cmp k)) ls) ≡ false → of k ≡ nothing) → unwrap_or (cond (is_eq o) (Some (of l)) (lookup (is_at (cmp k)) (lines_by of ls))) nothing ≡ of k) [
        | Less ↦ λ e h. lookup_found of k ls h
        | Equal ↦ λ e h. ap of (sym (exact k l e))
        | Greater ↦ λ e h. lookup_found of k ls h
      ] refl absent

  or_false : (a b : Bool) → (a || b) ≡ false → (a ≡ false) × (b ≡ false)
  or_false true b e = absurd (cc)
  or_false false b e = (refl, e)

  both_false : (a b : Bool) → a ≡ false → b ≡ false → (a || b) ≡ false
  both_false a b e f = rw (e, f) refl

  any_insert : (k x : L) (ls : List L) → list_any (is_at (cmp k)) (insert_key cmp ls x) ≡ false → (is_eq (cmp k x) ≡ false) × (list_any (is_at (cmp k)) ls ≡ false)
  any_insert k x [] h = or_false _ _ h
  any_insert k x (l ∷ ls) h =
      elim (cmp x l) as (λ o. (cmp x l ≡ o) → list_any (is_at (cmp k)) (match_ordering o (x ∷ l ∷ ls) (l ∷ ls) (l ∷ insert_key cmp ls x)) ≡ false → (is_eq (cmp k x) ≡ false) × ((is_eq (cmp k l) || list_any (is_at (cmp k)) ls) ≡ false)) [
        | Less ↦ λ e g. or_false _ _ g
        | Equal ↦ λ e g. (ap (λ y. is_eq (cmp k y)) (exact x l e) ∙ (or_false _ _ g).0, g)
        | Greater ↦ λ e g.
            let parts = or_false _ _ g in
            let rest = any_insert k x ls parts.1 in
            (rest.0, both_false _ _ parts.0 rest.1)
      ] refl h

  -- two labels that differ do so the other way round
  other_way : (x y : L) → is_eq (cmp x y) ≡ false → is_eq (cmp y x) ≡ false
  other_way x y differs =
      elim (cmp y x) as (λ o. (cmp y x ≡ o) → is_eq o ≡ false) [
        | Less ↦ λ e. refl
        | Equal ↦ λ e. sym (ap is_eq (tied_back total y x e)) ∙ differs
        | Greater ↦ λ e. refl
      ] refl

  none_labelled : (k : L) (sales : List (Labelled L)) → list_any (is_at (cmp k)) (labels cmp sales) ≡ false → sold_as cmp k sales ≡ []
  none_labelled k [] h = refl
  none_labelled k (s ∷ sales) h =
      let parts = any_insert k s.label (labels cmp sales) h in
      ap (λ b. map (λ (t : Labelled L). t.measures) (cond b (s ∷ filter (λ (t : Labelled L). eq_by_cmp cmp t.label k) sales) (filter (λ (t : Labelled L). eq_by_cmp cmp t.label k) sales))) (other_way k s.label parts.0)
      ∙ none_labelled k sales parts.1

  label_figures : (k : L) (sales : List (Labelled L)) → unwrap_or (lookup (is_at (cmp k)) (lines_by (of_label cmp sales) (labels cmp sales))) nothing ≡ of_label cmp sales k
  label_figures k sales = lookup_found (of_label cmp sales) k (labels cmp sales) (λ h. ap figures (none_labelled k sales h))

  pub lines_figures : (k : L) (sales : List (Labelled L)) → unwrap_or (lookup (is_at (cmp k)) (lines cmp sales)) nothing ≡ of_label cmp sales k
  unfolding lines
  lines_figures k sales = label_figures k sales

  -- ---- one sale before the others

  sold_here : (s : Labelled L) (sales : List (Labelled L)) → sold_as cmp s.label (s ∷ sales) ≡ s.measures ∷ sold_as cmp s.label sales
  sold_here s sales =
      ap (λ o. map (λ (t : Labelled L). t.measures) (cond (is_eq o) (s ∷ filter (λ (t : Labelled L). eq_by_cmp cmp t.label s.label) sales) (filter (λ (t : Labelled L). eq_by_cmp cmp t.label s.label) sales))) (tied_itself total s.label)

  sold_elsewhere : (l : L) (s : Labelled L) (sales : List (Labelled L)) → eq_by_cmp cmp s.label l ≡ false → sold_as cmp l (s ∷ sales) ≡ sold_as cmp l sales
  sold_elsewhere l s sales differs =
      ap (λ b. map (λ (t : Labelled L). t.measures) (cond b (s ∷ filter (λ (t : Labelled L). eq_by_cmp cmp t.label l) sales) (filter (λ (t : Labelled L). eq_by_cmp cmp t.label l) sales))) differs

  pub one_before : (s : Labelled L) (sales : List (Labelled L)) → with_sale cmp s (lines cmp sales) ≡ lines cmp (s ∷ sales)
  unfolding lines
  one_before s sales =
      let before : List (L × Figures) = lines_by (of_label cmp sales) (labels cmp sales) in
      let here : with_line s.measures (unwrap_or (lookup (is_at (cmp s.label)) before) nothing) ≡ of_label cmp (s ∷ sales) s.label =
      ap (with_line s.measures) (label_figures s.label sales) ∙ sym (figures-cons s.measures (sold_as cmp s.label sales)) ∙ ap figures (sym (sold_here s sales)) in
      ap (insert_entry cmp before s.label) here
      ∙ lines-insert (of_label cmp sales) (of_label cmp (s ∷ sales)) s.label (labels cmp sales) (λ l differs. ap figures (sold_elsewhere l s sales differs)) (up-labels sales)

  -- ---- the labels are those of the sales

  pub as_sorted : (ls : List L) → Up cmp ls → IsStrictlySortedBy cmp ls
  unfolding IsStrictlySortedBy
  as_sorted [] up = tt
  as_sorted (l ∷ ls) up = (up.0, as_sorted ls up.1)

  or_swap : (a b c : Bool) → (a || (b || c)) ≡ (b || (a || c))
  or_swap true true c = refl
  or_swap true false c = refl
  or_swap false b c = refl

  or_same : (a c : Bool) → (a || c) ≡ (a || (a || c))
  or_same true c = refl
  or_same false c = refl

  any_inserted : (p : L → Bool) (x : L) (ks : List L) → list_any p (insert_key cmp ks x) ≡ (p x || list_any p ks)
  any_inserted p x [] = refl
  any_inserted p x (k ∷ ks) =
      elim (cmp x k) as (λ o. (cmp x k ≡ o) → list_any p (match_ordering o (x ∷ k ∷ ks) (k ∷ ks) (k ∷ insert_key cmp ks x)) ≡ (p x || (p k || list_any p ks))) [
        | Less ↦ λ e. refl
        | Equal ↦ λ e. or_same (p k) (list_any p ks) ∙ ap (λ y. p y || (p k || list_any p ks)) (sym (exact x k e))
        | Greater ↦ λ e. ap (λ b. p k || b) (any_inserted p x ks) ∙ or_swap (p k) (p x) (list_any p ks)
      ] refl

  pub members : (p : L → Bool) (sales : List (Labelled L)) → list_any p (labels cmp sales) ≡ list_any (λ s. p s.label) sales
  members p [] = refl
  members p (s ∷ sales) = any_inserted p s.label (labels cmp sales) ∙ ap (λ b. p s.label || b) (members p sales)

  pub few_sold : (label : L) (sales : List (Labelled L)) → length (sold_as cmp label sales) ≤ length sales
  few_sold label [] = omega arith
  few_sold label (s ∷ sales) =
      let rest = few_sold label sales in
      elim (eq_by_cmp cmp s.label label) as (λ b. length (map (λ (t : Labelled L). t.measures) (cond b (s ∷ filter (λ (t : Labelled L). eq_by_cmp cmp t.label label) sales) (filter (λ (t : Labelled L). eq_by_cmp cmp t.label label) sales))) ≤ suc (length sales)) [
        | true ↦ omega (arith, rest)
        | false ↦ omega (arith, rest)
      ]

  -- ---- the order of the sales doesn't matter

  order_of : (x y : L) → (cmp x y ≡ Less) ⊎ ((cmp x y ≡ Equal) ⊎ (cmp x y ≡ Greater))
  order_of x y = elim (cmp x y) as (λ o. (o ≡ Less) ⊎ ((o ≡ Equal) ⊎ (o ≡ Greater))) [ Less ↦ inl refl | Equal ↦ inr (inl refl) | Greater ↦ inr (inr refl) ]

  commute_less : (a b : L) (ks : List L) → cmp a b ≡ Less → insert_key cmp (insert_key cmp ks a) b ≡ insert_key cmp (insert_key cmp ks b) a
  commute_less a b [] less =
      let more : cmp b a ≡ Greater = total.antisymm b a ∙ ap ordering_reverse less in
      rw (less, more) refl
  commute_less a b (l ∷ ks) less =
      let more : cmp b a ≡ Greater = total.antisymm b a ∙ ap ordering_reverse less in
      elim (order_of b l) [
        | inl eb ↦ let ea = total.trans a b l less eb in simp (ea, eb, more, less) refl
        | inr (inl eb) ↦ let ea : cmp a l ≡ Less = subst (λ (x : L). cmp a x ≡ Less) (exact b l eb) less in simp (ea, eb, more) refl
        | inr (inr eb) ↦ elim (order_of a l) [
          | inl ea ↦ simp (ea, eb, more) refl
          | inr (inl ea) ↦ simp (ea, eb) refl
          | inr (inr ea) ↦ let rest = commute_less a b ks less in simp (ea, eb) (ap (λ ys. l ∷ ys) rest)
        ]
      ]

  commute : (a b : L) (ks : List L) → insert_key cmp (insert_key cmp ks a) b ≡ insert_key cmp (insert_key cmp ks b) a
  commute a b ks = elim (order_of a b) [
    | inl e ↦ commute_less a b ks e
    | inr (inl e) ↦ rw (exact a b e) refl
    | inr (inr e) ↦ sym (commute_less b a ks (turned a b e))
  ]

  figures_swapped : (l : L) (s t : Labelled L) (sales : List (Labelled L)) → of_label cmp (s ∷ t ∷ sales) l ≡ of_label cmp (t ∷ s ∷ sales) l
  figures_swapped l s t sales =
      let others = filter (λ (u : Labelled L). eq_by_cmp cmp u.label l) sales in
      elim (eq_by_cmp cmp s.label l) as (λ b. figures (map (λ (u : Labelled L). u.measures) (cond b (s ∷ cond (eq_by_cmp cmp t.label l) (t ∷ others) others) (cond (eq_by_cmp cmp t.label l) (t ∷ others) others)))
      ≡ figures (map (λ (u : Labelled L). u.measures) (cond (eq_by_cmp cmp t.label l) (t ∷ cond b (s ∷ others) others) (cond b (s ∷ others) others)))) [
        | true ↦ elim (eq_by_cmp cmp t.label l) as (λ c. figures (map (λ (u : Labelled L). u.measures) (s ∷ cond c (t ∷ others) others)) ≡ figures (map (λ (u : Labelled L). u.measures) (cond c (t ∷ s ∷ others) (s ∷ others)))) [
          | true ↦ figures-swap s.measures t.measures (map (λ (u : Labelled L). u.measures) others)
          | false ↦ refl
        ]
        | false ↦ refl
      ]

  lines_same : (old new : L → Figures) (ls : List L) → ((l : L) → old l ≡ new l) → lines_by old ls ≡ lines_by new ls
  lines_same old new [] same = refl
  lines_same old new (l ∷ ls) same = let here = same l in let rest = lines_same old new ls same in cc

  swapped : (s t : Labelled L) (sales : List (Labelled L)) → lines cmp (s ∷ t ∷ sales) ≡ lines cmp (t ∷ s ∷ sales)
  unfolding lines
  swapped s t sales =
      lines_same (of_label cmp (s ∷ t ∷ sales)) (of_label cmp (t ∷ s ∷ sales)) (labels cmp (s ∷ t ∷ sales)) (λ l. figures_swapped l s t sales)
      ∙ ap (lines_by (of_label cmp (t ∷ s ∷ sales))) (commute t.label s.label (labels cmp sales))

  -- what comes to the same does so with one sale more
  pub after_one : (s : Labelled L) (xs ys : List (Labelled L)) → lines cmp xs ≡ lines cmp ys → lines cmp (s ∷ xs) ≡ lines cmp (s ∷ ys)
  after_one s xs ys same = sym (one_before s xs) ∙ ap (with_sale cmp s) same ∙ one_before s ys

  pub moved : (before after : List (Labelled L)) (s : Labelled L) → lines cmp (before ++ s ∷ after) ≡ lines cmp (s ∷ before ++ after)
  moved [] after s = refl
  moved (t ∷ before) after s = after_one t (before ++ s ∷ after) (s ∷ before ++ after) (moved before after s) ∙ swapped t s (before ++ after)

  -- one sale behind the others
  pub one_behind : (sales : List (Labelled L)) (s : Labelled L) → lines cmp (sales ++ s ∷ []) ≡ with_sale cmp s (lines cmp sales)
  one_behind sales s = moved sales [] s ∙ ap (λ xs. lines cmp (s ∷ xs)) (append-nil sales) ∙ sym (one_before s sales)

  -- ---- some sales of one label behind the others

  labels_behind : (k : L) (sales more : List (Labelled L)) → 0 < length more → AllByRecursion (λ s. s.label ≡ k) more → labels cmp (sales ++ more) ≡ insert_key cmp (labels cmp sales) k
  labels_behind k [] [] some all = absurd (omega arith)
  labels_behind k [] (s ∷ []) some all = ap (insert_key cmp []) all.0
  labels_behind k [] (s ∷ t ∷ more) some all =
      ap₂ (insert_key cmp) (labels_behind k [] (t ∷ more) (omega arith) all.1) all.0 ∙ ap (λ o. match_ordering o (k ∷ k ∷ []) (k ∷ []) (k ∷ k ∷ [])) (tied_itself total k)
  labels_behind k (t ∷ sales) more some all = ap (λ ls. insert_key cmp ls t.label) (labels_behind k sales more some all) ∙ commute k t.label (labels cmp sales)

  sold-append : (l : L) (sales more : List (Labelled L)) → sold_as cmp l (sales ++ more) ≡ sold_as cmp l sales ++ sold_as cmp l more
  sold-append l sales more =
      ap (map (λ (t : Labelled L). t.measures)) (filter-append (λ (t : Labelled L). eq_by_cmp cmp t.label l) sales more)
      ∙ map-append (λ (t : Labelled L). t.measures) (filter (λ (t : Labelled L). eq_by_cmp cmp t.label l) sales) (filter (λ (t : Labelled L). eq_by_cmp cmp t.label l) more)

  all_sold : (k : L) (more : List (Labelled L)) → AllByRecursion (λ s. s.label ≡ k) more → sold_as cmp k more ≡ map (λ (t : Labelled L). t.measures) more
  all_sold k [] all = refl
  all_sold k (s ∷ more) all =
      ap (λ o. map (λ (t : Labelled L). t.measures) (cond (is_eq o) (s ∷ filter (λ (t : Labelled L). eq_by_cmp cmp t.label k) more) (filter (λ (t : Labelled L). eq_by_cmp cmp t.label k) more))) (ap (λ l. cmp l k) all.0 ∙ tied_itself total k)
      ∙ ap (λ ms. s.measures ∷ ms) (all_sold k more all.1)

  none_sold : (k l : L) (more : List (Labelled L)) → eq_by_cmp cmp k l ≡ false → AllByRecursion (λ s. s.label ≡ k) more → sold_as cmp l more ≡ []
  none_sold k l [] differs all = refl
  none_sold k l (s ∷ more) differs all = sold_elsewhere l s more (ap (λ x. eq_by_cmp cmp x l) all.0 ∙ differs) ∙ none_sold k l more differs all.1

  pub some_behind : (k : L) (sales more : List (Labelled L)) → 0 < length more → AllByRecursion (λ s. s.label ≡ k) more
      → lines cmp (sales ++ more) ≡ insert_entry cmp (lines cmp sales) k (plus (unwrap_or (lookup (is_at (cmp k)) (lines cmp sales)) nothing) (figures (map (λ s. s.measures) more)))
  unfolding lines
  some_behind k sales more some all =
      let before : List (L × Figures) = lines_by (of_label cmp sales) (labels cmp sales) in
      let put : Figures = figures (map (λ (s : Labelled L). s.measures) more) in
      let here : plus (unwrap_or (lookup (is_at (cmp k)) before) nothing) put ≡ of_label cmp (sales ++ more) k =
      ap (λ t. plus t put) (label_figures k sales) ∙ sym (figures-append (sold_as cmp k sales) (map (λ (s : Labelled L). s.measures) more))
      ∙ ap (λ ms. figures (sold_as cmp k sales ++ ms)) (sym (all_sold k more all)) ∙ ap figures (sym (sold-append k sales more)) in
      let elsewhere : (l : L) → eq_by_cmp cmp k l ≡ false → of_label cmp (sales ++ more) l ≡ of_label cmp sales l =
      λ l differs. ap figures (sold-append l sales more ∙ ap (λ ms. sold_as cmp l sales ++ ms) (none_sold k l more differs all) ∙ append-nil (sold_as cmp l sales)) in
      sym
      (ap (insert_entry cmp before k) here
      ∙ lines-insert (of_label cmp sales) (of_label cmp (sales ++ more)) k (labels cmp sales) elsewhere (up-labels sales)
      ∙ ap (lines_by (of_label cmp (sales ++ more))) (sym (labels_behind k sales more some all)))

  -- ---- any order

  -- the element at a place, between those before it and those after
  record Split {X : Type 0} (xs : List X) (k : ℕ) (other : X) : Type 0 where
    before : List X
    x : X
    after : List X
    whole : xs ≡ before ++ x ∷ after
    got : slice_index_or xs k other ≡ x
    set : slice_set xs k other ≡ before ++ other ∷ after

  split : {X : Type 0} (xs : List X) (k : ℕ) (other : X) → k < length xs → Split xs k other
  split [] k other within = absurd (omega arith)
  split (y ∷ xs) zero other within = record { before = []; x = y; after = xs; whole = refl; got = refl; set = refl }
  split (y ∷ xs) (suc k) other within =
      let rest = split xs k other (omega arith) in
      record { before = y ∷ rest.before; x = rest.x; after = rest.after; whole = ap (λ l. y ∷ l) rest.whole; got = rest.got; set = ap (λ l. y ∷ l) rest.set }

  same_got : {X : Type 0} (xs : List X) (k : ℕ) (d e : X) → k < length xs → slice_index_or xs k d ≡ slice_index_or xs k e
  same_got [] k d e within = absurd (omega arith)
  same_got (y ∷ xs) zero d e within = refl
  same_got (y ∷ xs) (suc k) d e within = same_got xs k d e (omega arith)

  front : (x : Labelled L) (xs : List (Labelled L)) (k : ℕ) (d : Labelled L) → k < length xs → lines cmp (slice_index_or xs k d ∷ slice_set xs k x) ≡ lines cmp (x ∷ xs)
  front x xs k d within =
      let parts = split xs k x within in
      let b : List (Labelled L) = parts.before in
      let a : List (Labelled L) = parts.after in
      let y : Labelled L = parts.x in
      ap (λ z. lines cmp (z ∷ slice_set xs k x)) (same_got xs k d x within ∙ parts.got)
      ∙ ap (λ l. lines cmp (y ∷ l)) parts.set
      ∙ moved (y ∷ b) a x
      ∙ moved (x ∷ []) (b ++ a) y
      ∙ sym (moved (x ∷ b) a y)
      ∙ ap (λ l. lines cmp (x ∷ l)) (sym parts.whole)

  abbrev exchanged : Labelled L → List (Labelled L) → ℕ → ℕ → List (Labelled L)
  exchanged d xs i j = slice_set (slice_set xs i (slice_index_or xs j d)) j (slice_index_or xs i d)

  exchange : (d : Labelled L) (xs : List (Labelled L)) (i j : ℕ) → i < length xs → j < length xs → lines cmp (exchanged d xs i j) ≡ lines cmp xs
  exchange d [] i j first second = refl
  exchange d (x ∷ xs) zero zero first second = refl
  exchange d (x ∷ xs) zero (suc j) first second = front x xs j d (omega arith)
  exchange d (x ∷ xs) (suc i) zero first second = front x xs i d (omega arith)
  exchange d (x ∷ xs) (suc i) (suc j) first second = after_one x (exchanged d xs i j) xs (exchange d xs i j (omega arith) (omega arith))

  step : (xs : List (Labelled L)) (i j : ℕ) → i < length xs → j < length xs → lines cmp (swap xs i j) ≡ lines cmp xs
  step [] i j first second = refl
  step (x ∷ xs) i j first second = exchange x (x ∷ xs) i j first second

  pub any_order : (xs ys : List (Labelled L)) → IsPermutation xs ys → lines cmp ys ≡ lines cmp xs
  any_order xs ys = IsPermutation-keeps xs (λ l. lines cmp l ≡ lines cmp xs) refl (λ l i j first second h. step l i j first second ∙ h) ys

  -- ---- lines add up

  lookup_above : {X : Type 0} (k : L) (es : List (L × X)) → Above cmp k (map (λ e. e.0) es) → lookup (is_at (cmp k)) es ≡ None
  lookup_above k [] up = refl
  lookup_above k (e ∷ es) up = ap (λ o. cond (is_eq o) (Some e.1) (lookup (is_at (cmp k)) es)) up.0 ∙ lookup_above k es up.1

  -- to set the value of a key that is there is to put it
  pub set_is_insert : {X : Type 0} (k : L) (v w : X) (es : List (L × X)) → Up cmp (map (λ e. e.0) es) → lookup (is_at (cmp k)) es ≡ Some w → set_value (is_at (cmp k)) es v ≡ insert_entry cmp es k v
  set_is_insert k v w [] up there = absurd cc
  set_is_insert k v w (e ∷ es) up there =
      elim (cmp k e.0) as (λ o. (cmp k e.0 ≡ o) → cond (is_eq o) (Some e.1) (lookup (is_at (cmp k)) es) ≡ Some w → cond (is_eq o) ((e.0, v) ∷ es) (e ∷ set_value (is_at (cmp k)) es v) ≡ match_ordering o ((k, v) ∷ e ∷ es) ((e.0, v) ∷ es) (e ∷ insert_entry cmp es k v)) [
        | Less ↦ λ is found. let none = lookup_above k es (above_too k e.0 (map (λ (e : L × _). e.0) es) is up.0) in absurd cc
        | Equal ↦ λ is found. refl
        | Greater ↦ λ is found. ap (λ ys. e ∷ ys) (set_is_insert k v w es up.1 found)
      ] refl there

  added-with : (s : Labelled L) (es : List (L × Figures)) → Up cmp (map (λ e. e.0) es) → added (with_sale cmp s es) ≡ with_line s.measures (added es)
  added-with s [] up = plus_first s.measures nothing nothing
  added-with s (e ∷ es) up =
      elim (cmp s.label e.0) as (λ o. (cmp s.label e.0 ≡ o)
      → added (match_ordering o ((s.label, with_line s.measures (unwrap_or (cond (is_eq o) (Some e.1) (lookup (is_at (cmp s.label)) es)) nothing)) ∷ e ∷ es)
      ((e.0, with_line s.measures (unwrap_or (cond (is_eq o) (Some e.1) (lookup (is_at (cmp s.label)) es)) nothing)) ∷ es)
      (e ∷ insert_entry cmp es s.label (with_line s.measures (unwrap_or (cond (is_eq o) (Some e.1) (lookup (is_at (cmp s.label)) es)) nothing)))) ≡ with_line s.measures (plus e.1 (added es))) [
        | Less ↦ λ is.
            let none = lookup_above s.label es (above_too s.label e.0 (map (λ (e : L × Figures). e.0) es) is up.0) in
            ap (λ o. plus (with_line s.measures (unwrap_or o nothing)) (plus e.1 (added es))) none
            ∙ plus_first s.measures nothing (plus e.1 (added es)) ∙ ap (with_line s.measures) (nothing_first (plus e.1 (added es)))
        | Equal ↦ λ is. plus_first s.measures e.1 (added es)
        | Greater ↦ λ is. ap (plus e.1) (added-with s es up.1) ∙ plus_second s.measures e.1 (added es)
      ] refl

  keys_by : (of : L → Figures) (ls : List L) → map (λ (e : L × Figures). e.0) (lines_by of ls) ≡ ls
  keys_by of [] = refl
  keys_by of (l ∷ ls) = ap (λ ks. l ∷ ks) (keys_by of ls)

  pub up-lines : (sales : List (Labelled L)) → Up cmp (map (λ e. e.0) (lines cmp sales))
  unfolding lines
  up-lines sales = subst (Up cmp) (sym (keys_by (of_label cmp sales) (labels cmp sales))) (up-labels sales)

  none_added : added (lines cmp []) ≡ nothing
  unfolding lines
  none_added = refl

  -- the lines add up to what all sales come to
  pub lines_add_up : (sales : List (Labelled L)) → added (lines cmp sales) ≡ figures (map (λ s. s.measures) sales)
  lines_add_up [] = none_added
  lines_add_up (s ∷ sales) =
      ap added (sym (one_before s sales)) ∙ added-with s (lines cmp sales) (up-lines sales) ∙ ap (with_line s.measures) (lines_add_up sales)
      ∙ sym (figures-cons s.measures (map (λ (t : Labelled L). t.measures) sales))

  -- so what has the same lines comes to the same in all
  pub same_figures : (sales others : List (Labelled L)) → lines cmp sales ≡ lines cmp others → figures (map (λ s. s.measures) sales) ≡ figures (map (λ s. s.measures) others)
  same_figures sales others same = sym (lines_add_up sales) ∙ ap added same ∙ lines_add_up others
