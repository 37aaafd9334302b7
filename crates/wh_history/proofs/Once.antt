-- What stands once in a list.
use Rattle.std.proofs.Common.{◌≡◌, Bool, true, false, cond, not, ◌||◌, List, [], ◌∷◌, refl, sym, arith}
use Rattle.std.specs.Prelude.{filter}
use Rattle.std.specs.Bool.{Decides}
use Rattle.std.specs.List.{list_any, AllByRecursion}
use Rattle.wh_history.specs.Keys.{distinct, place, after_one}
use Rattle.wh_history.proofs.Numbers.{none_after_one, place-distinct_none}
use Rattle.wh_history.proofs.Places.{place-distinct_given}
use Rattle.wh_history.proofs.Basics.{or_none}
use Rattle.wh_history.proofs.Lasts.{not_among}

module _ {X : Type 0} (same : X → X → Bool) (decides : (x y : X) → Decides (same x y) (x ≡ y)) where
  -- each stands once
  abbrev pub IsOnce : List X → Type 0
  IsOnce [] = Unit {0}
  IsOnce (x ∷ xs) = (list_any (λ y. same y x) xs ≡ false) × IsOnce xs

  pub no_place : (x : X) (xs : List X) → place same x xs ≡ 0 → list_any (λ y. same y x) xs ≡ false
  no_place x [] h = refl
  no_place x (y ∷ ys) h =
      elim (same y x) as (λ b. cond b 1 (after_one (place same x ys)) ≡ 0 → (b || list_any (λ y. same y x) ys) ≡ false) [
        | true ↦ λ e. cc
        | false ↦ λ e. no_place x ys (none_after_one (place same x ys) e)
      ] h

  -- among the distinct ones are the same
  pub among_distinct : (x : X) (xs : List X) → list_any (λ y. same y x) (distinct same xs) ≡ list_any (λ y. same y x) xs
  among_distinct x xs =
      elim (list_any (λ y. same y x) xs) as (λ b. (list_any (λ y. same y x) xs ≡ b) → list_any (λ y. same y x) (distinct same xs) ≡ b) [
        | false ↦ λ e. no_place x (distinct same xs) (place-distinct_none same x xs (not_among same decides x xs e))
        | true ↦ λ e.
            let given = place-distinct_given same decides x xs e in
            elim (list_any (λ y. same y x) (distinct same xs)) as (λ b. (list_any (λ y. same y x) (distinct same xs) ≡ b) → b ≡ true) [
              | true ↦ λ _. refl
              | false ↦ λ n. let none = not_among same decides x (distinct same xs) n in absurd (omega (arith, none, given))
            ] refl
      ] refl

  none_filtered : (p q : X → Bool) (xs : List X) → list_any q xs ≡ false → list_any q (filter p xs) ≡ false
  none_filtered p q [] h = refl
  none_filtered p q (x ∷ xs) h =
      let split = or_none (q x) (list_any q xs) h in
      let rest = none_filtered p q xs split.1 in
      elim (p x) as (λ b. list_any q (cond b (x ∷ filter p xs) (filter p xs)) ≡ false) [ true ↦ rw (split.0, rest) refl | false ↦ rest ]

  pub once_filtered : (p : X → Bool) (xs : List X) → IsOnce xs → IsOnce (filter p xs)
  once_filtered p [] h = tt
  once_filtered p (x ∷ xs) h =
      let rest = once_filtered p xs h.1 in
      let none = none_filtered p (λ y. same y x) xs h.0 in
      elim (p x) as (λ b. IsOnce (cond b (x ∷ filter p xs) (filter p xs))) [ true ↦ (none, rest) | false ↦ rest ]

  pub apart : (x y : X) → same x y ≡ false → same y x ≡ false
  apart x y h = elim (same y x) as (λ b. (same y x ≡ b) → b ≡ false) [
    | true ↦ λ e. let is = (decides y x).0 e in let back = (decides x y).1 (sym is) in cc
    | false ↦ λ e. refl
  ] refl

  -- so what is the same as none of a list is none of it
  pub none_same : (x : X) (ys : List X) → AllByRecursion (λ y. same x y ≡ false) ys → list_any (λ y. same y x) ys ≡ false
  none_same x [] all = refl
  none_same x (y ∷ ys) all = rw (apart x y all.0, none_same x ys all.1) refl

  filtered_out : (x : X) (xs : List X) → list_any (λ y. same y x) (filter (λ y. not (same x y)) xs) ≡ false
  filtered_out x [] = refl
  filtered_out x (y ∷ ys) =
      elim (same x y) as (λ b. (same x y ≡ b) → list_any (λ y. same y x) (cond (not b) (y ∷ filter (λ y. not (same x y)) ys) (filter (λ y. not (same x y)) ys)) ≡ false) [
        | true ↦ λ e. filtered_out x ys
        | false ↦ λ e. rw (apart x y e, filtered_out x ys) refl
      ] refl

  pub once_distinct : (xs : List X) → IsOnce (distinct same xs)
  once_distinct [] = tt
  once_distinct (x ∷ xs) = (filtered_out x (distinct same xs), once_filtered (λ y. not (same x y)) (distinct same xs) (once_distinct xs))
