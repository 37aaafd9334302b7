-- What is new among mentions.
use Rattle.std.proofs.Common.{◌≡◌, Bool, true, false, cond, not, ◌||◌, List, [], ◌∷◌, refl, sym, ◌∙◌, ap}
use Rattle.std.specs.Prelude.{filter}
use Rattle.std.specs.List.{list_any, AllByRecursion}
use Rattle.wh_history.proofs.Numbers.{fresh}

-- two tests that agree on each element
pub filter_same : {X : Type 0} (p q : X → Bool) (xs : List X) → AllByRecursion (λ x. p x ≡ q x) xs → filter p xs ≡ filter q xs
filter_same p q [] all = refl
filter_same p q (x ∷ xs) all = ap (λ b. cond b (x ∷ filter p xs) (filter p xs)) all.0 ∙ ap (λ ys. cond (q x) (x ∷ ys) ys) (filter_same p q xs all.1)

filter_both : {X : Type 0} (p q : X → Bool) (zs : List X) → filter (λ y. not (p y)) (filter (λ y. not (q y)) zs) ≡ filter (λ y. not (p y || q y)) zs
filter_both p q [] = refl
filter_both p q (z ∷ zs) =
    let rest = filter_both p q zs in
    elim (q z) as (λ b. filter (λ y. not (p y)) (cond (not b) (z ∷ filter (λ y. not (q y)) zs) (filter (λ y. not (q y)) zs)) ≡ cond (not (p z || b)) (z ∷ filter (λ y. not (p y || q y)) zs) (filter (λ y. not (p y || q y)) zs)) [
      | true ↦ elim (p z) as (λ b. filter (λ y. not (p y)) (filter (λ y. not (q y)) zs) ≡ cond (not (b || true)) (z ∷ filter (λ y. not (p y || q y)) zs) (filter (λ y. not (p y || q y)) zs)) [ true ↦ rest | false ↦ rest ]
      | false ↦ elim (p z) as (λ b. cond (not b) (z ∷ filter (λ y. not (p y)) (filter (λ y. not (q y)) zs)) (filter (λ y. not (p y)) (filter (λ y. not (q y)) zs)) ≡ cond (not (b || false)) (z ∷ filter (λ y. not (p y || q y)) zs) (filter (λ y. not (p y || q y)) zs)) [ true ↦ rest | false ↦ ap (λ ys. z ∷ ys) rest ]
    ]

keep_all : {X : Type 0} (zs : List X) → filter (λ (y : X). not false) zs ≡ zs
keep_all [] = refl
keep_all (z ∷ zs) = ap (λ ys. z ∷ ys) (keep_all zs)

-- those that are not among the first
pub fresh_is : {X : Type 0} (same : X → X → Bool) (xs zs : List X) → fresh same xs zs ≡ filter (λ y. not (list_any (λ x. same x y) xs)) zs
fresh_is same [] zs = sym (keep_all zs)
fresh_is same (x ∷ xs) zs = ap (filter (λ y. not (same x y))) (fresh_is same xs zs) ∙ filter_both (λ y. same x y) (λ y. list_any (λ x. same x y) xs) zs
