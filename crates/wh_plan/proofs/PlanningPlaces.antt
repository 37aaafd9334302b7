-- What stands at the places of a list, in order.
use Rattle.std.proofs.Common.{◌≡◌, ℕ, suc, ◌+◌, ◌-◌, Bool, false, List, [], ◌∷◌, ◌++◌, length, map, Option, Some, refl, sym, ◌∙◌, ap, subst, arith, length-append}
use Rattle.std.specs.Prelude.{slice_get, filter_map}
use Rattle.std.specs.Bool.{Decides}
use Rattle.std.specs.List.{list_any, AllByRecursion, range_with_len, cons_option}
use Rattle.std.specs.Option.{option_and_then}
use Rattle.std.proofs.lemmas.List.{append_assoc}
use Rattle.wh_history.specs.Keys.{place, at_place}
use Rattle.wh_history.proofs.Basics.{or_none}
use Rattle.wh_history.proofs.Once.{IsOnce, apart}
use Rattle.wh_history.proofs.Untouched.{any_none}
use Rattle.wh_history.proofs.Trials.{get_middle}
use Rattle.wh_plan.specs.BatchRows.{numbers_after}
use Rattle.wh_plan.specs.NewRows.{by_place}

-- two functions that agree on each number
pub filter_map_same : {X Y : Type 0} (f g : X → Option Y) → ((x : X) → f x ≡ g x) → (xs : List X) → filter_map f xs ≡ filter_map g xs
filter_map_same f g same [] = refl
filter_map_same f g same (x ∷ xs) = ap (λ o. cons_option o (filter_map f xs)) (same x) ∙ ap (cons_option (g x)) (filter_map_same f g same xs)

-- and on each element, at each place
pub by_place_same : {X Y : Type 0} (f g : ℕ → X → Option Y) (n : ℕ) (xs : List X) → AllByRecursion (λ x. (n : ℕ) → f n x ≡ g n x) xs → by_place f n xs ≡ by_place g n xs
by_place_same f g n [] all = refl
by_place_same f g n (x ∷ xs) all = ap (λ o. cons_option o (by_place f (suc n) xs)) (all.0 n) ∙ ap (cons_option (g n x)) (by_place_same f g (suc n) xs all.1)

pub one_longer : {X : Type 0} (front : List X) (x : X) → length (front ++ x ∷ []) ≡ suc (length front)
one_longer front x = length-append front (x ∷ []) ∙ omega arith

-- the places after the front of a list give what its back gives
given_behind : {X Y : Type 0} (give : ℕ → X → Option Y) (whole front back : List X) → whole ≡ front ++ back
    → filter_map (λ n. option_and_then (give n) (at_place n whole)) (range_with_len (suc (length front)) (length back)) ≡ by_place give (suc (length front)) back
given_behind give whole front [] is = refl
given_behind give whole front (x ∷ back) is =
    let look = λ (n : ℕ). option_and_then (give n) (at_place n whole) in
    let here : at_place (suc (length front)) whole ≡ Some x = ap (λ xs. slice_get xs (length front)) is ∙ get_middle front back x in
    let longer = one_longer front x in
    let next : suc (length front) + 1 ≡ suc (length (front ++ x ∷ [])) = omega arith in
    let split : whole ≡ (front ++ x ∷ []) ++ back = is ∙ sym (append_assoc front (x ∷ []) back) in
    ap (λ o. cons_option (option_and_then (give (suc (length front))) o) (filter_map look (range_with_len (suc (length front) + 1) (length back)))) here
    ∙ ap (λ k. cons_option (give (suc (length front)) x) (filter_map look (range_with_len k (length back)))) next
    ∙ ap (cons_option (give (suc (length front)) x)) (given_behind give whole (front ++ x ∷ []) back split)
    ∙ ap (λ k. cons_option (give (suc (length front)) x) (by_place give (suc k) back)) longer

pub behind_gives : {X Y : Type 0} (give : ℕ → X → Option Y) (whole front back : List X) → whole ≡ front ++ back
    → filter_map (λ n. option_and_then (give n) (at_place n whole)) (numbers_after (length front) (length whole)) ≡ by_place give (suc (length front)) back
behind_gives give whole front back is =
    let long : length whole ≡ length (front ++ back) = ap length is in
    let sum = length-append front back in
    let left : length whole - length front ≡ length back = omega arith in
    ap (λ k. filter_map (λ n. option_and_then (give n) (at_place n whole)) (range_with_len (suc (length front)) k)) left ∙ given_behind give whole front back is

module _ {X : Type 0} (same : X → X → Bool) (decides : (x y : X) → Decides (same x y) (x ≡ y)) where
  -- what stands once has the place where it stands
  pub place_here : (front : List X) (x : X) (back : List X) → IsOnce same decides (front ++ x ∷ back) → place same x (front ++ x ∷ back) ≡ suc (length front)
  place_here [] x back once = rw ((decides x x).1 refl) refl
  place_here (y ∷ front) x back once =
      let behind_y = any_none (λ z. same z y) front (x ∷ back) once.0 in
      let other : same y x ≡ false = apart same decides x y (or_none (same x y) (list_any (λ z. same z y) back) behind_y.1).0 in
      rw (other, place_here front x back once.1) refl

  -- where each stands once, its place is its number
  pub by_number : {Y : Type 0} (give : ℕ → X → Y) (whole front back : List X) → whole ≡ front ++ back → IsOnce same decides whole → by_place (λ n x. Some (give n x)) (suc (length front)) back ≡ map (λ x. give (place same x whole) x) back
  by_number give whole front [] is once = refl
  by_number give whole front (x ∷ back) is once =
      let split : whole ≡ (front ++ x ∷ []) ++ back = is ∙ sym (append_assoc front (x ∷ []) back) in
      let number : place same x whole ≡ suc (length front) = ap (place same x) is ∙ place_here front x back (subst (IsOnce same decides) is once) in
      ap (λ k. give k x ∷ by_place (λ n x. Some (give n x)) (suc (suc (length front))) back) (sym number)
      ∙ ap (λ k. give (place same x whole) x ∷ by_place (λ n x. Some (give n x)) (suc k) back) (sym (one_longer front x))
      ∙ ap (λ ys. give (place same x whole) x ∷ ys) (by_number give whole (front ++ x ∷ []) back split once)
