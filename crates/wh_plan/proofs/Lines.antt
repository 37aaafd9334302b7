-- Things of lines: facts, and rows of withdrawn lines.
use Rattle.std.proofs.Common.{◌≡◌, suc, ◌+◌, ◌==◌, ◌&&◌, Bool, true, false, cond, List, [], ◌∷◌, map, Some, None, refl, sym, ◌∙◌, ap, subst, arith}
use Rattle.std.specs.Prelude.{find, bytes_eq, option_map, slice_index_or}
use Rattle.std.specs.Cmp.{eq_by_cmp_equiv, Equal-is}
use Rattle.std.specs.List.{AllByRecursion, IsDistinct}
use Rattle.std.specs.List.Sorted.{IsPermutation, IsSorted}
use Rattle.std.specs.Ordering.{eq_by_cmp, is_eq, is_lt, ordering_reverse}
use Rattle.std.specs.declared.cmp.Ordering.{Ordering}
use Rattle.std.specs.declared.cmp.Ordering.TheVariants.{Less, Equal, Greater}
use Rattle.std.proofs.lemmas.Bool.{and_parts, eqb-true, eq-eqb}
use Rattle.std.proofs.lemmas.List.Elements.{All-from_recursion, recursion_from_All}
use Rattle.std.proofs.lemmas.List.Sorted.{All-permutation, IsPermutation-sym}
use Rattle.std.proofs.lemmas.Map.Keys.{IsDistinct-IsPermutation}
use Rattle.std.proofs.lemmas.Slice.Eq.{bytes_eq-Decides}
use Rattle.wh_history.specs.Plan.{Above, Ascends}
use Rattle.wh_history.proofs.Basics.{find_passes}
use Rattle.wh_rows.proofs.Orders.{line_cmp_total, line_cmp-IsAntisymmetric}
use Rattle.wh_rows.specs.Rows as row
use Rattle.wh_rows.specs.declared.key.LineKey.{LineKey}
use Rattle.wh_model.proofs.GrownKeys.{found_is}

pub all_permuted : {X : Type 0} (P : X → Type 0) (xs ys : List X) → IsPermutation xs ys → AllByRecursion P xs → AllByRecursion P ys
all_permuted P xs ys moved all = recursion_from_All P ys (All-permutation P xs ys moved (All-from_recursion P xs all))

none_passes : {X : Type 0} (p : X → Bool) (xs : List X) → find p xs ≡ None → AllByRecursion (λ x. p x ≡ false) xs
none_passes p [] none = tt
none_passes p (x ∷ xs) none =
    elim (p x) as (λ b. (p x ≡ b) → cond b (Some x) (find p xs) ≡ None → AllByRecursion (λ y. p y ≡ false) (x ∷ xs)) [
      | true ↦ λ _ found. absurd cc
      | false ↦ λ other rest. (other, none_passes p xs rest)
    ] refl none

none_found : {X : Type 0} (p : X → Bool) (xs : List X) → AllByRecursion (λ x. p x ≡ false) xs → find p xs ≡ None
none_found p [] all = refl
none_found p (x ∷ xs) all = rw all.0 (none_found p xs all.1)

-- not after it and not on its line: before it
less_is : (o : Ordering) → is_lt (ordering_reverse o) ≡ false → is_eq o ≡ false → o ≡ Less
less_is Less after tied = refl
less_is Equal after tied = absurd cc
less_is Greater after tied = absurd cc

module _ {X : Type 0} (key : X → LineKey) where
  -- it has this line
  abbrev pub on_line : LineKey → X → Bool
  on_line line x = bytes_eq (key x).ticket line.ticket && ((key x).line == line.line)

  pub own_line : (x : X) → on_line (key x) x ≡ true
  own_line x = rw ((bytes_eq-Decides (key x).ticket (key x).ticket).1 refl, eq-eqb (key x).line (key x).line refl) refl

  pub line_is : (line : LineKey) (x : X) → on_line line x ≡ true → key x ≡ line
  line_is line x h =
      let parts = and_parts (bytes_eq (key x).ticket line.ticket) ((key x).line == line.line) h in
      let ticket : (key x).ticket ≡ line.ticket = (bytes_eq-Decides (key x).ticket line.ticket).0 parts.0 in
      let number : (key x).line ≡ line.line = eqb-true (key x).line line.line parts.1 in
      λ i. record { ticket = ticket i; line = number i }

  pub line_tied : (line : LineKey) (x : X) → eq_by_cmp row.line_cmp line (key x) ≡ on_line line x
  line_tied line x =
      elim (on_line line x) as (λ b. (on_line line x ≡ b) → eq_by_cmp row.line_cmp line (key x) ≡ b) [
        | true ↦ λ has. ap (eq_by_cmp row.line_cmp line) (line_is line x has) ∙ (eq_by_cmp_equiv line_cmp_total).refl line
        | false ↦ λ other. elim (eq_by_cmp row.line_cmp line (key x)) as (λ b. (eq_by_cmp row.line_cmp line (key x) ≡ b) → b ≡ false) [
          | true ↦ λ tied.
              let same : line ≡ key x = line_cmp-IsAntisymmetric line (key x) ((Equal-is (row.line_cmp line (key x))).0 tied) in
              let own : on_line line x ≡ true = ap (λ k. on_line k x) same ∙ own_line x in
              absurd cc
          | false ↦ λ _. refl
        ] refl
      ] refl

  -- ---- things of which no two have one line

  abbrev pub Once : List X → Type 0
  Once xs = IsDistinct (λ x. on_line (key x)) xs

  -- each is found under its own line
  behind_other : (x y : X) (xs : List X) → on_line (key x) y ≡ false → find (on_line (key y)) xs ≡ Some y → find (on_line (key y)) (x ∷ xs) ≡ Some y
  behind_other x y xs apart found =
      elim (on_line (key y) x) as (λ b. (on_line (key y) x ≡ b) → cond b (Some x) (find (on_line (key y)) xs) ≡ Some y) [
        | true ↦ λ same.
            let own : on_line (key x) y ≡ true = ap (λ k. on_line k y) (line_is (key y) x same) ∙ own_line y in
            absurd cc
        | false ↦ λ _. found
      ] refl

  all_behind : (x : X) (ys xs : List X) → AllByRecursion (λ y. on_line (key x) y ≡ false) ys → AllByRecursion (λ y. find (on_line (key y)) xs ≡ Some y) ys
      → AllByRecursion (λ y. find (on_line (key y)) (x ∷ xs) ≡ Some y) ys
  all_behind x [] xs apart found = tt
  all_behind x (y ∷ ys) xs apart found = (behind_other x y xs apart.0 found.0, all_behind x ys xs apart.1 found.1)

  pub found_each : (xs : List X) → Once xs → AllByRecursion (λ y. find (on_line (key y)) xs ≡ Some y) xs
  unfolding IsDistinct
  found_each [] once = tt
  found_each (x ∷ xs) once = (rw (own_line x) refl, all_behind x xs xs once.0 (found_each xs once.1))

  -- ---- and in another order

  flips : (x y : X) → on_line (key x) y ≡ on_line (key y) x
  flips x y = sym (line_tied (key x) y) ∙ (eq_by_cmp_equiv line_cmp_total).symm (key x) (key y) ∙ line_tied (key y) x

  pub once_permuted : (xs ys : List X) → IsPermutation xs ys → Once xs → Once ys
  once_permuted xs ys moved once = IsDistinct-IsPermutation (λ x y. on_line (key x) y) flips xs ys moved once

  pub find_permuted : (xs ys : List X) → IsPermutation xs ys → Once xs → (line : LineKey) → find (on_line line) ys ≡ find (on_line line) xs
  find_permuted xs ys moved once line =
      elim (find (on_line line) xs) as (λ o. (find (on_line line) xs ≡ o) → find (on_line line) ys ≡ o) [
        | None ↦ λ none. none_found (on_line line) ys (all_permuted (λ x. on_line line x ≡ false) xs ys moved (none_passes (on_line line) xs none))
        | Some x ↦ λ some.
            let P = λ (y : X). find (on_line (key y)) ys ≡ Some y in
            let each = all_permuted P ys xs (IsPermutation-sym xs ys moved) (found_each ys (once_permuted xs ys moved once)) in
            let here : key x ≡ line = line_is line x (find_passes (on_line line) x xs some) in
            subst (λ k. find (on_line k) ys ≡ Some x) here (found_is P (on_line line) xs x each some)
      ] refl

  -- ---- in order

  abbrev by_line : X → X → Ordering
  by_line x y = row.line_cmp (key x) (key y)

  abbrev Rises : List X → Type 0
  Rises [] = Unit {0}
  Rises (x ∷ []) = Unit {0}
  Rises (x ∷ y ∷ xs) = (is_lt (by_line y x) ≡ false) × Rises (y ∷ xs)

  rises_sorted : (xs : List X) → IsSorted by_line xs → Rises xs
  rises_sorted [] sorted = tt
  rises_sorted (x ∷ []) sorted = tt
  rises_sorted (x ∷ y ∷ xs) sorted = (sorted 0 x (omega arith) (omega arith), rises_sorted (y ∷ xs) later)
    where
      later : IsSorted by_line (y ∷ xs)
      later k d low lt =
          let next : suc k + 1 ≡ suc (k + 1) = omega arith in
          subst (λ n. is_lt (by_line (slice_index_or (x ∷ y ∷ xs) n d) (slice_index_or (y ∷ xs) k d)) ≡ false) next (sorted (suc k) d (omega arith) (omega arith))

  before_next : (x y : X) → is_lt (by_line y x) ≡ false → on_line (key x) y ≡ false → row.line_cmp (key x) (key y) ≡ Less
  before_next x y later apart =
      less_is (row.line_cmp (key x) (key y)) (ap is_lt (sym (line_cmp_total.antisymm (key y) (key x))) ∙ later) (line_tied (key x) y ∙ apart)

  -- ---- their edits

  module _ {E : Type 0} (edited_line : E → LineKey) (edit : X → E) (own : (x : X) → edited_line (edit x) ≡ key x) where
    above_next : (x : X) (xs : List X) → Rises (x ∷ xs) → Once (x ∷ xs) → Above row.line_cmp edited_line (key x) (map edit xs)
    unfolding IsDistinct
    above_next x [] up once = tt
    above_next x (y ∷ ys) up once = rw (own y) (before_next x y up.0 once.0.0, above_next y ys up.1 once.1)

    ascends : (xs : List X) → Rises xs → Once xs → Ascends row.line_cmp edited_line (map edit xs)
    ascends [] up once = tt
    ascends (x ∷ xs) up once = rw (own x) (above_next x xs up once)

    pub edits_ascend : (xs ys : List X) → Once xs → IsPermutation xs ys → IsSorted (λ x y. row.line_cmp (key x) (key y)) ys → Ascends row.line_cmp edited_line (map edit ys)
    edits_ascend xs ys once moved sorted = ascends ys (rises_sorted ys sorted) (once_permuted xs ys moved once)

    -- the edit of a line
    edit_found : (line : LineKey) (xs : List X) → find (λ e. eq_by_cmp row.line_cmp (edited_line e) line) (map edit xs) ≡ option_map edit (find (on_line line) xs)
    edit_found line [] = refl
    edit_found line (x ∷ xs) =
        let tied : eq_by_cmp row.line_cmp (edited_line (edit x)) line ≡ on_line line x =
        ap (λ k. eq_by_cmp row.line_cmp k line) (own x) ∙ (eq_by_cmp_equiv line_cmp_total).symm (key x) line ∙ line_tied line x in
        let rest = edit_found line xs in
        rw tied (elim (on_line line x) as (λ b. cond b (Some (edit x)) (find (λ e. eq_by_cmp row.line_cmp (edited_line e) line) (map edit xs)) ≡ option_map edit (cond b (Some x) (find (on_line line) xs))) [ true ↦ refl | false ↦ rest ])

    pub edit_of_line : (xs ys : List X) → Once xs → IsPermutation xs ys → (line : LineKey) → find (λ e. eq_by_cmp row.line_cmp (edited_line e) line) (map edit ys) ≡ option_map edit (find (on_line line) xs)
    edit_of_line xs ys once moved line = edit_found line ys ∙ ap (option_map edit) (find_permuted xs ys moved once line)
