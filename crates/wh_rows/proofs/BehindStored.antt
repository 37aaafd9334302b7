-- The stored rows after a key, and those after the last row of a part of them.
use Rattle.std.proofs.Common.{ℕ, ◌≡◌, ◌≢◌, ◌+◌, ◌<◌, ◌≤◌, List, [], ◌∷◌, ◌++◌, map, filter, drop, length, Bool, true, false, cond, Option, None, Some, refl, sym, ap, subst, ◌∙◌, arith, Ordering, Less, Equal, Greater}
use Rattle.std.proofs.lemmas.List.{take-append-drop, length-map}
use Rattle.std.proofs.lemmas.List.Sorted.{length_permutation, IsPermutation-sym, IsPermutation-trans, IsPermutation-append_right}
use Rattle.std.specs.List.{AllByRecursion}
use Rattle.std.specs.List.Sorted.{IsPermutation}
use Rattle.std.specs.Ordering.{is_gt, ordering_reverse}
use Rattle.std.specs.Cmp.{IsTotalOrder}
use Rattle.sqlite_trees.specs.Tree.{IsAscending}
use Rattle.sqlite_trees.proofs.ListLemmas.{all-permutation, IsPermutation-filter}
use Rattle.sqlite_exec.proofs.PartitionLemmas.{ascending_from_sorted}
use Rattle.sqlite_sql.proofs.QueryLemmas.{key_cmp_total}
use Rattle.sqlite.specs.Order.{Row}
use Rattle.wh_rows.specs.Holds.{Layout}
use Rattle.wh_rows.specs.Raw.{stored_cmp, IsFrontOf}
use Rattle.wh_rows.specs.Parts.{forward, stands_behind, IsKeyed, IsArranged}
use Rattle.wh_rows.proofs.Behind.{all_at, kept_all, narrower, few_taken, gt_is, tie_is}
use Rattle.wh_policy.proofs.WrittenLemmas.{reverse_tied}
use Rattle.wh_history.proofs.Joins.{all_append}
use Rattle.wh_history.proofs.Lists.{all_front}

-- ---- lists

pub all_mapped : {X : Type 0} (P Q : X → Type 0) (xs : List X) → ((x : X) → P x → Q x) → AllByRecursion P xs → AllByRecursion Q xs
all_mapped P Q [] to all = tt
all_mapped P Q (x ∷ xs) to all = (to x all.0, all_mapped P Q xs to all.1)

pub all_two : {X : Type 0} (P Q S : X → Type 0) (xs : List X) → ((x : X) → P x → Q x → S x) → AllByRecursion P xs → AllByRecursion Q xs → AllByRecursion S xs
all_two P Q S [] to first second = tt
all_two P Q S (x ∷ xs) to first second = (to x first.0 second.0, all_two P Q S xs to first.1 second.1)

ascending_front : {X : Type 0} (R : X → X → Type 0) (xs ys : List X) → IsAscending R (xs ++ ys) → IsAscending R xs
ascending_front R [] ys up = tt
ascending_front R (x ∷ xs) ys up = (all_front (R x) xs ys up.0, ascending_front R xs ys up.1)

ascending_append : {X : Type 0} (R : X → X → Type 0) (xs ys : List X) → IsAscending R xs → IsAscending R ys → AllByRecursion (λ x. AllByRecursion (R x) ys) xs → IsAscending R (xs ++ ys)
ascending_append R [] ys first second across = second
ascending_append R (x ∷ xs) ys first second across = (all_append (R x) xs ys first.0 across.0, ascending_append R xs ys first.1 second across.1)

-- what comes after an element, and what comes before it
after_at : {X : Type 0} (R : X → X → Type 0) (before : List X) (x : X) (later : List X) → IsAscending R (before ++ x ∷ later) → AllByRecursion (R x) later
after_at R [] x later up = up.0
after_at R (y ∷ before) x later up = after_at R before x later up.1

before_at : {X : Type 0} (R : X → X → Type 0) (before : List X) (x : X) (later : List X) → IsAscending R (before ++ x ∷ later) → AllByRecursion (λ y. R y x) before
before_at R [] x later up = tt
before_at R (y ∷ before) x later up = (all_at (R y) before x later up.0, before_at R before x later up.1)

-- of so many that pass one test, no more pass another too
fewer : {X : Type 0} (p q : X → Bool) (xs : List X) → length (filter p (filter q xs)) ≤ length (filter p xs)
fewer p q [] = omega arith
fewer {X = X} p q (x ∷ xs) = go (q x) (fewer p q xs)
  where
    both_sides : (c : Bool) (us bs : List X) → length us ≤ length bs → length (cond c (x ∷ us) us) ≤ length (cond c (x ∷ bs) bs)
    both_sides true us bs less = omega (arith, less)
    both_sides false us bs less = less

    one_side : (c : Bool) (us bs : List X) → length us ≤ length bs → length us ≤ length (cond c (x ∷ bs) bs)
    one_side true us bs less = omega (arith, less)
    one_side false us bs less = less

    go : (b : Bool) → length (filter p (filter q xs)) ≤ length (filter p xs) → length (filter p (cond b (x ∷ filter q xs) (filter q xs))) ≤ length (cond (p x) (x ∷ filter p xs) (filter p xs))
    go true less = both_sides (p x) (filter p (filter q xs)) (filter p xs) less
    go false less = one_side (p x) (filter p (filter q xs)) (filter p xs) less

pub none_kept : {X : Type 0} (p : X → Bool) (xs : List X) → length (filter p xs) ≤ 0 → AllByRecursion (λ x. p x ≡ false) xs
none_kept p [] none = tt
none_kept p (x ∷ xs) none = go (p x) refl none (none_kept p xs)
  where
    go : (b : Bool) → p x ≡ b → length (cond b (x ∷ filter p xs) (filter p xs)) ≤ 0 → (length (filter p xs) ≤ 0 → AllByRecursion (λ y. p y ≡ false) xs) → AllByRecursion (λ y. p y ≡ false) (x ∷ xs)
    go true is none rest = absurd (omega (arith, none))
    go false is none rest = (is, rest none)

-- where at most one passes, none after one that does
alone : {X : Type 0} (p : X → Bool) (before : List X) (x : X) (later : List X) → length (filter p (before ++ x ∷ later)) ≤ 1 → p x ≡ true → AllByRecursion (λ y. p y ≡ false) later
alone p [] x later one here = none_kept p later (let more : length (filter p (x ∷ later)) ≡ length (filter p later) + 1 = ap (λ b. length (cond b (x ∷ filter p later) (filter p later))) here ∙ omega arith in omega (arith, one, more))
alone p (y ∷ before) x later one here = alone p before x later (go (p y) one) here
  where
    go : (b : Bool) → length (cond b (y ∷ filter p (before ++ x ∷ later)) (filter p (before ++ x ∷ later))) ≤ 1 → length (filter p (before ++ x ∷ later)) ≤ 1
    go true one = omega (arith, one)
    go false one = one

pub nil_after : {X : Type 0} (xs : List X) → xs ++ [] ≡ xs
nil_after [] = refl
nil_after (x ∷ xs) = ap (λ l. x ∷ l) (nil_after xs)

mapped_last : {X Y : Type 0} (f : X → Y) (xs : List X) (x : X) (ys : List Y) → map f (xs ++ x ∷ []) ++ ys ≡ map f xs ++ f x ∷ ys
mapped_last f [] x ys = refl
mapped_last f (y ∷ xs) x ys = ap (λ l. f y ∷ l) (mapped_last f xs x ys)

-- ---- orders

-- what is not above, and no tie, is below
pub less_not_equal : (o : Ordering) → is_gt o ≡ false → o ≢ Equal → o ≡ Less
less_not_equal Less h not = refl
less_not_equal Equal h not = absurd (not refl)
less_not_equal Greater h not = absurd (cc)

all_pass : {X : Type 0} (p : X → Bool) (xs : List X) → AllByRecursion (λ x. p x ≡ true) xs → filter p xs ≡ xs
all_pass p [] all = refl
all_pass p (x ∷ xs) all = rw all.0 (ap (λ l. x ∷ l) (all_pass p xs all.1))

-- those before an element that don't pass, and the element itself, are left out
passed_over : {X : Type 0} (p : X → Bool) (before : List X) (x : X) (later : List X) → AllByRecursion (λ y. p y ≡ false) before → p x ≡ false → AllByRecursion (λ y. p y ≡ true) later → filter p (before ++ x ∷ later) ≡ later
passed_over p [] x later none not all = rw not (all_pass p later all)
passed_over p (y ∷ before) x later none not all = rw none.0 (passed_over p before x later none.1 not all)

module _ {K V : Type 0} (layout : Layout K V) (bind : K → Row) (stands_at : K → Row → Bool) (keyed : IsKeyed layout bind stands_at) (stored : List Row) (once : (k : K) → length (filter (stands_at k) stored) ≤ 1) where
  abbrev cmp : Row → Row → Ordering
  cmp = stored_cmp layout.table false

  abbrev NotBelow : Row → Row → Type 0
  NotBelow r s = is_gt (cmp r s) ≡ false

  total : IsTotalOrder cmp
  total = key_cmp_total _ 0

  abbrev past : V → Row → Bool
  past v r = is_gt (cmp r (bind (layout.key v)))

  abbrev behind_key : Option K → Row → Bool
  behind_key after = stands_behind layout bind after

  module _ (most : ℕ) (after : Option K) (read : List V) (front : IsFrontOf (forward most) layout.table (filter (behind_key after) stored) (map layout.encode read)) where
    abbrev later : List Row
    later = drop most front.ordered

    whole : front.ordered ≡ map layout.encode read ++ later
    whole = sym (take-append-drop most front.ordered) ∙ ap (λ l. l ++ later) (sym front.first)

    up : IsAscending NotBelow front.ordered
    up = ascending_from_sorted cmp total front.ordered front.sorted

    -- a part that isn't full is all that is after the key
    pub short_part : length read < most → IsArranged layout.table (filter (behind_key after) stored) (map layout.encode read)
    short_part few =
        let long : length (map layout.encode read) ≡ length read = length-map read layout.encode in
        let none : later ≡ [] = few_taken most front.ordered (subst (λ l. length l < most) front.first (omega (arith, few, long))) in
        let all : front.ordered ≡ map layout.encode read = whole ∙ ap (λ l. map layout.encode read ++ l) none ∙ nil_after (map layout.encode read) in
        record { same = subst (IsPermutation (filter (behind_key after) stored)) all front.same; in_order = subst (IsAscending NotBelow) all up }

    module _ (before : List V) (v : V) (read_is : read ≡ before ++ v ∷ []) where
      abbrev last : Row
      last = layout.encode v

      parted : front.ordered ≡ map layout.encode before ++ last ∷ later
      parted = whole ∙ ap (λ vs. map layout.encode vs ++ later) read_is ∙ mapped_last layout.encode before v later

      up_here : IsAscending NotBelow (map layout.encode before ++ last ∷ later)
      up_here = subst (IsAscending NotBelow) parted up

      not_past_itself : past v last ≡ false
      not_past_itself = ap is_gt (sym (keyed.led last v)) ∙ tie_is _ (total.antisymm last last)

      -- the last row is after the key
      is_behind_key : behind_key after last ≡ true
      is_behind_key =
          let all = all-permutation (λ r. behind_key after r ≡ true) (filter (behind_key after) stored) front.ordered front.same (kept_all (behind_key after) stored) in
          all_at (λ r. behind_key after r ≡ true) (map layout.encode before) last later (subst (AllByRecursion (λ r. behind_key after r ≡ true)) parted all)

      -- and so are the rows that are after it
      further : (a : Option K) → behind_key a last ≡ true → (r : Row) → past v r ≡ true → behind_key a r ≡ true
      further None here r beyond = refl
      further (Some k) here r beyond =
          let one : cmp (bind k) last ≡ Less = total.antisymm (bind k) last ∙ ap ordering_reverse (gt_is _ here) in
          let two : cmp last r ≡ Less = total.antisymm last r ∙ ap ordering_reverse (keyed.led r v ∙ gt_is _ beyond) in
          ap is_gt (total.antisymm r (bind k) ∙ ap ordering_reverse (total.trans (bind k) last r one two))

      stands : (r : Row) → cmp r last ≡ Equal → stands_at (layout.key v) r ≡ true
      stands r tie = keyed.tied r (layout.key v) (sym (keyed.led r v) ∙ tie)

      -- no row after it has its key
      apart : AllByRecursion (λ r. stands_at (layout.key v) r ≡ false) later
      apart =
          let p = stands_at (layout.key v) in
          let here : p last ≡ true = stands last (reverse_tied _ (total.antisymm last last)) in
          let long : length (filter p front.ordered) ≡ length (filter p (filter (behind_key after) stored)) = length_permutation _ _ (IsPermutation-filter p _ _ front.same) in
          let few = fewer p (behind_key after) stored in
          let one = once (layout.key v) in
          let most : length (filter p front.ordered) ≤ 1 = omega (arith, long, few, one) in
          alone p (map layout.encode before) last later (subst (λ l. length (filter p l) ≤ 1) parted most) here

      all_past : AllByRecursion (λ r. past v r ≡ true) later
      all_past =
          all_two (NotBelow last) (λ r. stands_at (layout.key v) r ≡ false) (λ r. past v r ≡ true) later
          (λ r not_below other.
          let less : cmp last r ≡ Less = less_not_equal (cmp last r) not_below (λ tie. let never : true ≡ false = sym (stands r (total.antisymm r last ∙ ap ordering_reverse tie)) ∙ other in cc) in
          ap is_gt (sym (keyed.led r v) ∙ total.antisymm r last ∙ ap ordering_reverse less))
          (after_at NotBelow (map layout.encode before) last later up_here) apart

      none_past : AllByRecursion (λ r. past v r ≡ false) (map layout.encode before)
      none_past = all_mapped (λ r. NotBelow r last) (λ r. past v r ≡ false) (map layout.encode before) (λ r below. ap is_gt (sym (keyed.led r v)) ∙ below) (before_at NotBelow (map layout.encode before) last later up_here)

      -- what is after it is what comes after it
      rest_is : IsPermutation later (filter (past v) stored)
      rest_is =
          let kept : filter (past v) front.ordered ≡ later = ap (filter (past v)) parted ∙ passed_over (past v) (map layout.encode before) last later none_past not_past_itself all_past in
          let bag = IsPermutation-filter (past v) _ _ front.same in
          let seen : filter (past v) (filter (behind_key after) stored) ≡ filter (past v) stored = narrower (behind_key after) (past v) stored (λ r beyond. further after is_behind_key r beyond) in
          IsPermutation-sym _ _ (subst (λ l. IsPermutation l later) seen (subst (IsPermutation (filter (past v) (filter (behind_key after) stored))) kept bag))

      at_most : AllByRecursion (λ r. NotBelow r last) (map layout.encode read)
      at_most =
          let read_here : map layout.encode before ++ last ∷ [] ≡ map layout.encode read = sym (mapped_last layout.encode before v []) ∙ nil_after (map layout.encode (before ++ v ∷ [])) ∙ ap (map layout.encode) (sym read_is) in
          subst (AllByRecursion (λ r. NotBelow r last)) read_here
          (all_append (λ r. NotBelow r last) (map layout.encode before) (last ∷ []) (before_at NotBelow (map layout.encode before) last later up_here) (tie_is _ (total.antisymm last last), tt))

      through : (r s : Row) → (o : Ordering) → cmp r last ≡ o → is_gt o ≡ false → cmp last s ≡ Less → NotBelow r s
      through r s Less is below less = ap is_gt (total.trans r last s is less)
      through r s Equal is below less = ap is_gt (total.congr r last s is ∙ less)
      through r s Greater is below less = absurd (cc)

      -- a part, and what is after its last row, are what is after the key
      pub part_then_rest : (rest : List Row) → IsArranged layout.table (filter (behind_key (Some (layout.key v))) stored) rest → IsArranged layout.table (filter (behind_key after) stored) (map layout.encode read ++ rest)
      part_then_rest rest is =
          let bag : IsPermutation later rest = IsPermutation-trans _ _ _ rest_is is.same in
          let beyond : AllByRecursion (λ r. past v r ≡ true) rest = all-permutation (λ r. past v r ≡ true) later rest bag all_past in
          record {
            same = IsPermutation-trans _ _ _ (subst (IsPermutation (filter (behind_key after) stored)) whole front.same) (IsPermutation-append_right (map layout.encode read) later rest bag);
            in_order = ascending_append NotBelow (map layout.encode read) rest (ascending_front NotBelow (map layout.encode read) later (subst (IsAscending NotBelow) whole up)) is.in_order
                (all_mapped (λ r. NotBelow r last) (λ r. AllByRecursion (NotBelow r) rest) (map layout.encode read)
                (λ r below. all_mapped (λ s. past v s ≡ true) (NotBelow r) rest (λ s far. through r s (cmp r last) refl below (total.antisymm last s ∙ ap ordering_reverse (keyed.led s v ∙ gt_is _ far))) beyond) at_most);
          }
