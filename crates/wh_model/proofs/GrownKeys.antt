-- Steps that the growing tables share.
use Rattle.std.proofs.Common.{◌≡◌, inl, inr, ℕ, zero, suc, ◌<◌, ◌≤◌, Bool, true, false, cond, List, [], ◌∷◌, ◌++◌, length, Option, Some, None, refl, sym, ◌∙◌, ap, subst, arith, length-append}
use Rattle.std.specs.Prelude.{find, option_map, slice_get}
use Rattle.std.specs.Option.{option_and_then}
use Rattle.std.specs.List.{AllByRecursion}
use Rattle.std.proofs.lemmas.Bool.{cases_lt}
use Rattle.wh_history.specs.Keys.{at_place}
use Rattle.wh_history.proofs.Basics.{some_is}
use Rattle.wh_history.proofs.Members.{get_front, get_past}
use Rattle.wh_model.proofs.Growing.{Grows}

-- places in a list with more after it
pub at_front : {X : Type 0} (n : ℕ) (xs ys : List X) → n ≤ length xs → at_place n (xs ++ ys) ≡ at_place n xs
at_front zero xs ys h = refl
at_front (suc n) xs ys h = get_front n xs ys (omega arith)

pub at_past : {X : Type 0} (n : ℕ) (xs : List X) → length xs < n → at_place n xs ≡ None
at_past zero xs h = absurd (omega arith)
at_past (suc n) xs h = get_past n xs (omega arith)

get_last : {X : Type 0} (xs : List X) (x : X) → slice_get (xs ++ x ∷ []) (length xs) ≡ Some x
get_last [] x = refl
get_last (y ∷ xs) x = get_last xs x

pub at_last : {X : Type 0} (xs : List X) (x : X) → at_place (length (xs ++ x ∷ [])) (xs ++ x ∷ []) ≡ Some x
at_last xs x =
    let longer : length (xs ++ x ∷ []) ≡ suc (length xs) = length-append xs (x ∷ []) ∙ omega arith in
    ap (λ n. at_place n (xs ++ x ∷ [])) longer ∙ get_last xs x

-- what holds of each holds of the one at a place
all_get : {X : Type 0} (P : X → Type 0) (n : ℕ) (xs : List X) (x : X) → AllByRecursion P xs → slice_get xs n ≡ Some x → P x
all_get P n [] x all is = cc
all_get P zero (y ∷ xs) x all is = subst P (some_is y x is) all.0
all_get P (suc n) (y ∷ xs) x all is = all_get P n xs x all.1 is

pub all_at : {X : Type 0} (P : X → Type 0) (n : ℕ) (xs : List X) (x : X) → AllByRecursion P xs → at_place n xs ≡ Some x → P x
all_at P zero xs x all is = cc
all_at P (suc n) xs x all is = all_get P n xs x all is

-- two functions that agree where there is something
pub map_same : {X Y : Type 0} (f g : X → Y) (o : Option X) → ((x : X) → o ≡ Some x → f x ≡ g x) → option_map f o ≡ option_map g o
map_same f g None agree = refl
map_same f g (Some x) agree = ap Some (agree x refl)

pub then_same : {X Y : Type 0} (f g : X → Option Y) (o : Option X) → ((x : X) → o ≡ Some x → f x ≡ g x) → option_and_then f o ≡ option_and_then g o
then_same f g None agree = refl
then_same f g (Some x) agree = agree x refl

-- what is made under a key has it
pub keyed_map : {X K V : Type 0} (key : V → K) (k : K) (f : X → V) → ((x : X) → key (f x) ≡ k) → (o : Option X) (v : V) → option_map f o ≡ Some v → key v ≡ k
keyed_map key k f is None v h = cc
keyed_map key k f is (Some x) v h = ap key (sym (some_is (f x) v h)) ∙ is x

-- rows that stand up to a number, and after it up to another
pub grows_behind : {K V : Type 0} (at : ℕ → K) (low high : ℕ) (old new : K → Option V) (n : ℕ)
    → (n ≤ low → new (at n) ≡ old (at n)) → (low < n → old (at n) ≡ None) → (high < n → new (at n) ≡ None) → Grows at low high old new (at n)
grows_behind at low high old new n stays before past =
    elim (cases_lt low n) [
      | inr front ↦ inl (record { same = stays front })
      | inl later ↦ elim (cases_lt high n) [
        | inl behind ↦ inl (record { same = past behind ∙ sym (before later) })
        | inr within ↦ inr (record { number = n; is = refl; above = later; within = within; none = before later })
      ]
    ]

-- what holds of all holds of the first that passes
pub found_is : {X : Type 0} (P : X → Type 0) (p : X → Bool) (xs : List X) (x : X) → AllByRecursion P xs → find p xs ≡ Some x → P x
found_is P p [] x all found = absurd cc
found_is P p (y ∷ ys) x all found =
    elim (p y) as (λ b. cond b (Some y) (find p ys) ≡ Some x → P x) [
      | true ↦ λ first. subst P (some_is y x first) all.0
      | false ↦ λ later. found_is P p ys x all.1 later
    ] found
