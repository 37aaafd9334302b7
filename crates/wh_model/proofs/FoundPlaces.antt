-- What stands at a place of a list, and tests of equality.
use Rattle.std.proofs.Common.{◌≡◌, ℕ, zero, suc, ◌<◌, Bool, true, false, cond, ◌||◌, List, [], ◌∷◌, map, length, Some, refl, sym, ◌∙◌, ap, arith, Equal}
use Rattle.std.specs.Prelude.{option_map}
use Rattle.std.specs.Bool.{Decides}
use Rattle.std.specs.List.{list_any, IsDistinct}
use Rattle.std.specs.Ordering.{eq_by_cmp, nat_cmp}
use Rattle.std.specs.Cmp.{eq_by_cmp_equiv}
use Rattle.std.specs.Cmp.Lexicographic.{slice_cmp, nat_list_cmp_total}
use Rattle.std.proofs.lemmas.Cmp.{nat_cmp_total}
use Rattle.std.specs.FinMap.{nat_cmp-IsAntisymmetric}
use Rattle.wh_history.specs.Keys.{place, at_place, after_one}
use Rattle.wh_history.proofs.Once.{IsOnce, none_same}
use Rattle.wh_rows.proofs.Orders.{text_cmp-IsAntisymmetric}
use Rattle.wh_model.proofs.Listed.{equal_is}

-- ---- tests

pub same_text_is : (a b : List ℕ) → eq_by_cmp (slice_cmp nat_cmp) a b ≡ true → a ≡ b
same_text_is a b h = text_cmp-IsAntisymmetric a b (equal_is _ h)

pub text_itself : (a : List ℕ) → eq_by_cmp (slice_cmp nat_cmp) a a ≡ true
text_itself a = (eq_by_cmp_equiv nat_list_cmp_total).refl a

pub same_number_is : (a b : ℕ) → eq_by_cmp nat_cmp a b ≡ true → a ≡ b
same_number_is a b h = nat_cmp-IsAntisymmetric a b (equal_is _ h)

pub number_itself : (a : ℕ) → eq_by_cmp nat_cmp a a ≡ true
number_itself a = (eq_by_cmp_equiv nat_cmp_total).refl a

pub number_ties : (a b : ℕ) → a ≡ b → nat_cmp a b ≡ Equal
number_ties a b same = equal_is _ (ap (eq_by_cmp nat_cmp a) (sym same) ∙ number_itself a)

-- ---- places

pub at_place-map : {X Y : Type 0} (f : X → Y) (n : ℕ) (xs : List X) → at_place n (map f xs) ≡ option_map f (at_place n xs)
at_place-map f zero xs = refl
at_place-map f (suc zero) [] = refl
at_place-map f (suc zero) (x ∷ xs) = refl
at_place-map f (suc (suc n)) [] = refl
at_place-map f (suc (suc n)) (x ∷ xs) = at_place-map f (suc n) xs

-- up to the end something does
pub at_place_there : {X : Type 0} (n : ℕ) (xs : List X) → 0 < n → n < suc (length xs) → (x : X) × (at_place n xs ≡ Some x)
at_place_there zero xs low high = absurd (omega arith)
at_place_there (suc n) [] low high = absurd (omega arith)
at_place_there (suc zero) (x ∷ xs) low high = (x, refl)
at_place_there (suc (suc n)) (x ∷ xs) low high = at_place_there (suc n) xs (omega arith) (omega arith)

-- a place after one more element
pub behind_one : {X : Type 0} (n : ℕ) (x : X) (xs : List X) → at_place (after_one n) (x ∷ xs) ≡ at_place n xs
behind_one zero x xs = refl
behind_one (suc n) x xs = refl

-- only from 1 on something stands
pub place_given : {X : Type 0} (n : ℕ) (xs : List X) (x : X) → at_place n xs ≡ Some x → 0 < n
place_given zero xs x at = absurd (cc)
place_given (suc n) xs x at = omega arith

pub at_place_among : {X : Type 0} (p : X → Bool) (n : ℕ) (xs : List X) (x : X) → at_place n xs ≡ Some x → p x ≡ true → list_any p xs ≡ true
at_place_among p zero xs x at passes = absurd (cc)
at_place_among p (suc n) [] x at passes = absurd (cc)
at_place_among p (suc zero) (y ∷ ys) x at passes = let is : y ≡ x = cc in rw (is, passes) refl
at_place_among p (suc (suc n)) (y ∷ ys) x at passes =
    let rest = at_place_among p (suc n) ys x at passes in
    elim (p y) as (λ b. (b || list_any p ys) ≡ true) [ true ↦ refl | false ↦ rest ]

module _ {X : Type 0} (same : X → X → Bool) (decides : (x y : X) → Decides (same x y) (x ≡ y)) where
  -- what stands once at a place has this place
  pub place_at : (n : ℕ) (xs : List X) (x : X) → IsOnce same decides xs → at_place n xs ≡ Some x → place same x xs ≡ n
  place_at zero xs x once at = absurd (cc)
  place_at (suc n) [] x once at = absurd (cc)
  place_at (suc zero) (y ∷ ys) x once at =
      let is : y ≡ x = cc in
      rw ((decides y x).1 is) refl
  place_at (suc (suc n)) (y ∷ ys) x once at =
      let rest = place_at (suc n) ys x once.1 at in
      elim (same y x) as (λ b. same y x ≡ b → cond b 1 (after_one (place same x ys)) ≡ suc (suc n)) [
        | true ↦ λ e.
            let is = (decides y x).0 e in
            let among : list_any (λ z. same z y) ys ≡ true = at_place_among (λ z. same z y) (suc n) ys x at ((decides x y).1 (sym is)) in
            absurd (let none = once.0 in cc)
        | false ↦ λ e. ap after_one rest
      ] refl

  pub once_is : (xs : List X) → IsDistinct same xs → IsOnce same decides xs
  unfolding IsDistinct
  once_is [] apart_all = tt
  once_is (x ∷ xs) apart_all = (none_same same decides x xs apart_all.0, once_is xs apart_all.1)
