-- One more mention: what was there keeps its number, and what is new gets the next.
use Rattle.std.proofs.Common.{◌≡◌, ℕ, zero, suc, ◌<◌, Bool, true, false, cond, not, ◌||◌, List, [], ◌∷◌, ◌++◌, length, refl, sym, ◌∙◌, ap, subst, arith, append-nil, length-append}
use Rattle.std.specs.Prelude.{filter}
use Rattle.std.specs.Bool.{Decides}
use Rattle.std.specs.List.{list_any}
use Rattle.wh_history.specs.Keys.{distinct, place, after_one}
use Rattle.wh_history.proofs.Numbers.{fresh, distinct-append, place-append_behind, place-distinct_none}
use Rattle.wh_history.proofs.Places.{place-distinct_given}
use Rattle.wh_history.specs.Touched.{given_or, grown}

pub given_or_is : (n next : ℕ) → 0 < n → n ≡ given_or n next
given_or_is zero next h = absurd (omega arith)
given_or_is (suc n) next h = refl

pub grown_is : (n count : ℕ) → 0 < n → count ≡ grown n count
grown_is zero count h = absurd (omega arith)
grown_is (suc n) count h = refl

given_or_given : (n next : ℕ) → 0 < next → 0 < given_or n next
given_or_given zero next h = h
given_or_given (suc n) next h = omega arith

module _ {X : Type 0} (same : X → X → Bool) (decides : (x y : X) → Decides (same x y) (x ≡ y)) where
  abbrev Among : X → List X → Bool
  Among x xs = list_any (λ y. same y x) xs

  pub fresh_one : (x : X) (xs : List X) → fresh same xs (x ∷ []) ≡ cond (list_any (λ y. same y x) xs) [] (x ∷ [])
  fresh_one x [] = refl
  fresh_one x (y ∷ xs) =
      ap (filter (λ z. not (same y z))) (fresh_one x xs) ∙
      elim (list_any (λ y. same y x) xs) as (λ b. filter (λ z. not (same y z)) (cond b [] (x ∷ [])) ≡ cond (same y x || b) [] (x ∷ [])) [
        | true ↦ elim (same y x) as (λ d. [] ≡ cond (d || true) [] (x ∷ [])) [ true ↦ refl | false ↦ refl ]
        | false ↦ elim (same y x) as (λ d. cond (not d) (x ∷ []) [] ≡ cond (d || false) [] (x ∷ [])) [ true ↦ refl | false ↦ refl ]
      ]

  pub not_among : (x : X) (xs : List X) → list_any (λ y. same y x) xs ≡ false → place same x xs ≡ 0
  not_among x [] h = refl
  not_among x (y ∷ ys) h =
      elim (same y x) as (λ b. (b || list_any (λ y. same y x) ys) ≡ false → cond b 1 (after_one (place same x ys)) ≡ 0) [
        | true ↦ λ e. cc
        | false ↦ λ e. ap after_one (not_among x ys e)
      ] h

  itself : (x : X) → same x x ≡ true
  itself x = (decides x x).1 refl

  one_new : (x : X) (xs : List X) → place same x (x ∷ []) ≡ 1
  one_new x xs = rw (itself x) refl

  -- its number
  pub place-last : (x : X) (xs : List X) → place same x (distinct same (xs ++ x ∷ [])) ≡ given_or (place same x (distinct same xs)) (suc (length (distinct same xs)))
  place-last x xs =
      ap (place same x) (distinct-append same xs (x ∷ []) ∙ ap (λ zs. distinct same xs ++ zs) (fresh_one x xs)) ∙
      elim (list_any (λ y. same y x) xs) as (λ b. (list_any (λ y. same y x) xs ≡ b) → place same x (distinct same xs ++ cond b [] (x ∷ [])) ≡ given_or (place same x (distinct same xs)) (suc (length (distinct same xs)))) [
        | true ↦ λ e.
            ap (place same x) (append-nil (distinct same xs)) ∙ given_or_is (place same x (distinct same xs)) _ (place-distinct_given same decides x xs e)
        | false ↦ λ e.
            let none : place same x (distinct same xs) ≡ 0 = place-distinct_none same x xs (not_among x xs e) in
            let one = one_new x xs in
            place-append_behind same x (distinct same xs) (x ∷ []) none (rw one (omega arith)) ∙ rw (one, none) (omega arith)
      ] refl

  -- how many there are
  pub length-last : (x : X) (xs : List X) → length (distinct same (xs ++ x ∷ [])) ≡ grown (place same x (distinct same xs)) (length (distinct same xs))
  length-last x xs =
      ap length (distinct-append same xs (x ∷ []) ∙ ap (λ zs. distinct same xs ++ zs) (fresh_one x xs)) ∙
      elim (list_any (λ y. same y x) xs) as (λ b. (list_any (λ y. same y x) xs ≡ b) → length (distinct same xs ++ cond b [] (x ∷ [])) ≡ grown (place same x (distinct same xs)) (length (distinct same xs))) [
        | true ↦ λ e.
            ap length (append-nil (distinct same xs)) ∙ grown_is (place same x (distinct same xs)) _ (place-distinct_given same decides x xs e)
        | false ↦ λ e.
            let none : place same x (distinct same xs) ≡ 0 = place-distinct_none same x xs (not_among x xs e) in
            let more : length (distinct same xs ++ x ∷ []) ≡ suc (length (distinct same xs)) = length-append (distinct same xs) (x ∷ []) ∙ omega arith in
            more ∙ rw none refl
      ] refl

  -- a second mention right after the first adds nothing
  there_then : (x : X) (xs : List X) → 0 < place same x (distinct same (xs ++ x ∷ []))
  there_then x xs = subst (λ (n : ℕ). 0 < n) (sym (place-last x xs)) (given_or_given (place same x (distinct same xs)) _ (omega arith))

  pub place-twice : (x : X) (xs : List X) → place same x (distinct same ((xs ++ x ∷ []) ++ x ∷ [])) ≡ given_or (place same x (distinct same xs)) (suc (length (distinct same xs)))
  place-twice x xs = place-last x (xs ++ x ∷ []) ∙ sym (given_or_is _ _ (there_then x xs)) ∙ place-last x xs

  pub length-twice : (x : X) (xs : List X) → length (distinct same ((xs ++ x ∷ []) ++ x ∷ [])) ≡ grown (place same x (distinct same xs)) (length (distinct same xs))
  length-twice x xs = length-last x (xs ++ x ∷ []) ∙ sym (grown_is _ _ (there_then x xs)) ∙ length-last x xs
