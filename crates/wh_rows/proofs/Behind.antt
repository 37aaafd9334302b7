-- The rows after a key, and those after the last row of a part of them.
use Rattle.std.proofs.Common.{◌≡◌, ℕ, zero, suc, ◌-◌, ◌<◌, ◌≤◌, List, [], ◌∷◌, ◌++◌, filter, take, drop, length, slice_get, Bool, true, false, cond, if◌then◌else◌, Option, None, Some, option_map, refl, sym, ap, subst, ◌∙◌, arith, append_assoc, Ordering, Less, Equal, Greater}
use Rattle.std.proofs.lemmas.List.{take-append-drop}
use Rattle.std.specs.List.{AllByRecursion}
use Rattle.std.specs.Ordering.{is_gt, ordering_reverse}
use Rattle.std.specs.Cmp.{IsTotalOrder}
use Rattle.std.specs.FinMap.{FinMap, entries, values, entries_sorted}
use Rattle.sqlite_trees.specs.Tree.{IsAscending}
use Rattle.sqlite_keyed.proofs.ListLemmas.{ascending-filter}
use Rattle.wh_rows.specs.Holds.{Layout}
use Rattle.wh_rows.specs.Parts.{is_behind}
use Rattle.wh_rows.proofs.Statements.Selects.{rising}

-- ---- lists

pub all_at : {X : Type 0} (P : X → Type 0) (before : List X) (x : X) (later : List X) → AllByRecursion P (before ++ x ∷ later) → P x
all_at P [] x later all = all.0
all_at P (y ∷ before) x later all = all_at P before x later all.1

pub kept_all : {X : Type 0} (p : X → Bool) (xs : List X) → AllByRecursion (λ x. p x ≡ true) (filter p xs)
kept_all p [] = tt
kept_all p (x ∷ xs) = go (p x) refl (kept_all p xs)
  where
    go : (b : Bool) → p x ≡ b → AllByRecursion (λ y. p y ≡ true) (filter p xs) → AllByRecursion (λ y. p y ≡ true) (cond b (x ∷ filter p xs) (filter p xs))
    go true is rest = (is, rest)
    go false is rest = rest

-- of the elements that pass a test, those that pass a narrower one
pub narrower : {X : Type 0} (p q : X → Bool) (xs : List X) → ((x : X) → q x ≡ true → p x ≡ true) → filter q (filter p xs) ≡ filter q xs
narrower p q [] inside = refl
narrower p q (x ∷ xs) inside = go (p x) refl (narrower p q xs inside)
  where
    out : (b : Bool) → q x ≡ b → p x ≡ false → filter q (filter p xs) ≡ filter q xs → filter q (filter p xs) ≡ cond b (x ∷ filter q xs) (filter q xs)
    out true is not rest = let here : p x ≡ true = inside x is in absurd (cc)
    out false is not rest = rest

    go : (b : Bool) → p x ≡ b → filter q (filter p xs) ≡ filter q xs → filter q (cond b (x ∷ filter p xs) (filter p xs)) ≡ cond (q x) (x ∷ filter q xs) (filter q xs)
    go true is rest = ap (λ l. cond (q x) (x ∷ l) l) rest
    go false is rest = out (q x) refl is rest

pub few_taken : {X : Type 0} (n : ℕ) (xs : List X) → length (take n xs) < n → drop n xs ≡ []
few_taken zero xs few = absurd (omega (arith, few))
few_taken (suc n) [] few = refl
few_taken (suc n) (x ∷ xs) few = few_taken n xs (omega (arith, few))

-- the last of some elements
pub record EndsIn {X : Type 0} (xs : List X) : Type 0 where
  pub before : List X
  pub last : X
  pub is : xs ≡ before ++ last ∷ []
  pub found : slice_get xs (length xs - 1) ≡ Some last

pub ends_in : {X : Type 0} (x : X) (xs : List X) → EndsIn (x ∷ xs)
ends_in x [] = record { before = []; last = x; is = refl; found = refl }
ends_in x (y ∷ xs) =
    let end = ends_in y xs in
    record {
      before = x ∷ end.before;
      last = end.last;
      is = ap (λ l. x ∷ l) end.is;
      found = let at : length (x ∷ y ∷ xs) - 1 ≡ suc (length (y ∷ xs) - 1) = omega arith in ap (slice_get (x ∷ y ∷ xs)) at ∙ end.found;
    }

-- ---- keys

pub gt_is : (o : Ordering) → is_gt o ≡ true → o ≡ Greater
gt_is Less h = absurd (cc)
gt_is Equal h = absurd (cc)
gt_is Greater h = refl

pub tie_is : (o : Ordering) → o ≡ ordering_reverse o → is_gt o ≡ false
tie_is Less h = refl
tie_is Equal h = refl
tie_is Greater h = absurd (cc)

module _ {K V : Type 0} (layout : Layout K V) (total : IsTotalOrder layout.order) where
  abbrev Below : V → V → Type 0
  Below v w = layout.order (layout.key v) (layout.key w) ≡ Less

  not_behind_itself : (k : K) → is_gt (layout.order k k) ≡ false
  not_behind_itself k = tie_is _ (total.antisymm k k)

  turned : (j k : K) → layout.order j k ≡ Less → layout.order k j ≡ Greater
  turned j k less = total.antisymm k j ∙ ap ordering_reverse less

  turned_back : (j k : K) → layout.order j k ≡ Greater → layout.order k j ≡ Less
  turned_back j k greater = total.antisymm k j ∙ ap ordering_reverse greater

  -- a row after a row that is after a key is after the key
  further : (after : Option K) (v w : V) → is_behind layout after v ≡ true → is_behind layout (Some (layout.key v)) w ≡ true → is_behind layout after w ≡ true
  further None v w first second = refl
  further (Some k) v w first second =
      let one = turned_back (layout.key v) k (gt_is _ first) in
      let two = turned_back (layout.key w) (layout.key v) (gt_is _ second) in
      ap is_gt (turned k (layout.key w) (total.trans k (layout.key v) (layout.key w) one two))

  all_behind : (k : K) (vs : List V) → AllByRecursion (λ w. layout.order k (layout.key w) ≡ Less) vs → filter (is_behind layout (Some k)) vs ≡ vs
  all_behind k [] all = refl
  all_behind k (v ∷ vs) all = rw (turned k (layout.key v) all.0) (ap (λ l. v ∷ l) (all_behind k vs all.1))

  -- of rows in the order of their keys, those after the key of one are those after it
  behind_one : (before : List V) (v : V) (later : List V) → IsAscending Below (before ++ v ∷ later) → filter (is_behind layout (Some (layout.key v))) (before ++ v ∷ later) ≡ later
  behind_one [] v later up = rw (not_behind_itself (layout.key v)) (all_behind (layout.key v) later up.0)
  behind_one (x ∷ before) v later up =
      let less : layout.order (layout.key x) (layout.key v) ≡ Less = all_at (Below x) before v later up.0 in
      rw less (behind_one before v later up.1)

  module _ (m : FinMap layout.order V) (keyed : AllByRecursion (λ e. e.0 ≡ layout.key e.1) (entries m)) (after : Option K) where
    abbrev left : List V
    left = filter (is_behind layout after) (values m)

    -- what is after a row of what is left is what comes after it there
    pub behind_row : (before : List V) (v : V) (later : List V) → left ≡ before ++ v ∷ later → filter (is_behind layout (Some (layout.key v))) (values m) ≡ later
    behind_row before v later is =
        let up = ascending-filter Below (is_behind layout after) (values m) (rising layout (entries m) keyed (entries_sorted m)) in
        let here : is_behind layout after v ≡ true = all_at (λ w. is_behind layout after w ≡ true) before v later (subst (AllByRecursion (λ w. is_behind layout after w ≡ true)) is (kept_all (is_behind layout after) (values m))) in
        sym (narrower (is_behind layout after) (is_behind layout (Some (layout.key v))) (values m) (λ w past. further after v w here past))
        ∙ ap (filter (is_behind layout (Some (layout.key v)))) is
        ∙ behind_one before v later (subst (IsAscending Below) is up)

    -- a part of what is left, and what is after its last row, are what is left
    pub part_and_rest : (most : ℕ) → 0 < most → (rows : List V) → rows ≡ take most left → (is_short : Bool) → (is_short ≡ true → length rows < most) → (is_short ≡ false → most ≤ length rows)
        → rows ++ (if is_short then [] else filter (is_behind layout (option_map layout.key (slice_get rows (length rows - 1)))) (values m)) ≡ left
    part_and_rest most some rows are true short full =
        let few = short refl in
        let none : drop most left ≡ [] = few_taken most left (subst (λ l. length l < most) are few) in
        ap (λ l. rows ++ l) (sym none) ∙ ap (λ l. l ++ drop most left) are ∙ take-append-drop most left
    part_and_rest most some [] are false short full = absurd (let many = full refl in omega arith)
    part_and_rest most some (r ∷ rows) are false short full =
        let end = ends_in r rows in
        let whole : left ≡ (end.before ++ end.last ∷ []) ++ drop most left = sym (take-append-drop most left) ∙ ap (λ l. l ++ drop most left) (sym are ∙ end.is) in
        let parted : left ≡ end.before ++ end.last ∷ drop most left = whole ∙ append_assoc end.before (end.last ∷ []) (drop most left) in
        let behind = behind_row end.before end.last (drop most left) parted in
        ap (λ (k : Option K). (r ∷ rows) ++ filter (is_behind layout k) (values m)) (ap (option_map layout.key) end.found) ∙ ap (λ l. (r ∷ rows) ++ l) behind ∙ ap (λ l. l ++ drop most left) are ∙ take-append-drop most left
