-- Small steps that many proofs share.
use Rattle.std.proofs.Common.{◌≡◌, ℕ, Bool, true, false, cond, ◌||◌, ◌&&◌, List, [], ◌∷◌, Option, Some, refl, sym, ◌∙◌, ap, suc, not, ◌+◌, ◌<◌, length, arith}
use Rattle.std.specs.Prelude.{find, position, count_by, IsSome}
use Rattle.std.specs.List.{position_or_len}
use Rattle.std.specs.Bool.{Decides}
use Rattle.std.proofs.lemmas.Bool.{lt-ltb}
use Rattle.std.proofs.lemmas.List.Sums.{sum_by-cons}
use Rattle.std.proofs.lemmas.Slice.Eq.{bytes_eq-Decides, slice_eq-Decides}
use Rattle.wh_history.specs.Slots.{are_same}

-- the test of two lists of texts decides whether they are the same
pub texts_decide : (a b : List (List ℕ)) → Decides (are_same a b) (a ≡ b)
texts_decide a b = slice_eq-Decides bytes_eq-Decides a b (are_same a b) refl

pub or_true : (b : Bool) → (b || true) ≡ true
or_true true = refl
or_true false = refl

pub or_none : (a b : Bool) → (a || b) ≡ false → (a ≡ false) × (b ≡ false)
or_none true b h = cc
or_none false b h = (refl, h)

pub both_true : (a b : Bool) → (a && b) ≡ true → (a ≡ true) × (b ≡ true)
both_true true b h = (refl, h)
both_true false b h = cc

pub some_is : {X : Type 0} (x y : X) → Some x ≡ Some y → x ≡ y
some_is x y h = cc

-- the element if the test holds, else the other answer
abbrev pub first_or : {X : Type 0} → Bool → X → Option X → Option X
first_or b x other = cond b (Some x) other

-- what is found passes
pub find_passes : {X : Type 0} (p : X → Bool) (x : X) (xs : List X) → find p xs ≡ Some x → p x ≡ true
find_passes p x [] h = cc
find_passes p x (y ∷ ys) h =
    elim (p y) as (λ b. (p y ≡ b) → first_or b y (find p ys) ≡ Some x → p x ≡ true) [
      | true ↦ λ passes is. ap p (sym (some_is y x is)) ∙ passes
      | false ↦ λ fails is. find_passes p x ys is
    ] refl h

-- what is counted is found
abbrev one_if : Bool → ℕ
one_if b = cond b 1 0

counted_before : {X : Type 0} (p : X → Bool) (xs : List X) → 0 < count_by p xs → position_or_len p xs < length xs
counted_before p [] some = absurd (omega arith)
counted_before p (x ∷ xs) some =
    let step = sum_by-cons (λ y. one_if (p y)) x xs in
    elim (p x) as (λ b. (p x ≡ b) → cond (not b) (1 + position_or_len p xs) 0 < suc (length xs)) [
      | true ↦ λ e. omega arith
      | false ↦ λ e.
          let none : one_if (p x) ≡ 0 = rw e refl in
          let behind : 0 < count_by p xs = omega (arith, step, some, none) in
          let rest = counted_before p xs behind in omega arith
    ] refl

pub counted_found : {X : Type 0} (p : X → Bool) (xs : List X) → count_by p xs ≡ 1 → IsSome (position p xs)
counted_found p xs one =
    let t = lt-ltb (position_or_len p xs) (length xs) (counted_before p xs (omega arith)) in
    rw t refl
