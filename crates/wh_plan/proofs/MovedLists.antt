-- The rows of a list that pass a test, after steps that keep whether they do.
use Rattle.std.proofs.Common.{◌≡◌, ℕ, suc, ◌+◌, ◌<◌, length, drop, get_or, arith, append_assoc, drop-cons, Bool, true, false, not, cond, ◌||◌, ◌&&◌, ◌≤◌, List, [], ◌∷◌, ◌++◌, map, Option, Some, None, refl, sym, ◌∙◌, ap, append-nil}
use Rattle.std.specs.Prelude.{find, filter, filter_map, flat_map, is_some, zip}
use Rattle.std.specs.Bool.{Decides}
use Rattle.std.specs.List.{list_any, AllByRecursion, IsDistinct, cons_option}
use Rattle.std.specs.Option.{option_and_then, option_to_list}
use Rattle.std.proofs.lemmas.List.{drop_all}
use Rattle.std.proofs.lemmas.List.Elements.{filter-append}
use Rattle.wh_history.proofs.Basics.{or_none}
use Rattle.wh_history.proofs.Once.{IsOnce}
use Rattle.wh_sql.proofs.Looping.{next_is}

-- ---- one or none

one_is : {X : Type 0} (x : X) (xs : List X) (o : Option X) → x ∷ xs ≡ option_to_list o → Some x ≡ o
one_is x xs None h = cc
one_is x xs (Some y) h = cc

no_more : {X : Type 0} (x : X) (xs : List X) (o : Option X) → x ∷ xs ≡ option_to_list o → xs ≡ []
no_more x xs None h = cc
no_more x xs (Some y) h = cc

-- what alone passes is found
pub find_by_filter : {X : Type 0} (p : X → Bool) (xs : List X) (o : Option X) → filter p xs ≡ option_to_list o → find p xs ≡ o
find_by_filter p [] None is = refl
find_by_filter p [] (Some x) is = cc
find_by_filter p (x ∷ xs) o is =
    elim (p x) as (λ b. cond b (x ∷ filter p xs) (filter p xs) ≡ option_to_list o → cond b (Some x) (find p xs) ≡ o) [
      | true ↦ λ first. one_is x (filter p xs) o first
      | false ↦ λ later. find_by_filter p xs o later
    ] is

abbrev pub IsUpToOne : {X : Type 0} → List X → Type 0
IsUpToOne {X} xs = (o : Option X) × (xs ≡ option_to_list o)

-- where none passes, each fails
pub none_left : {X : Type 0} (p : X → Bool) (xs : List X) → filter p xs ≡ [] → AllByRecursion (λ x. p x ≡ false) xs
none_left p [] none = tt
none_left p (x ∷ xs) none =
    elim (p x) as (λ b. (p x ≡ b) → cond b (x ∷ filter p xs) (filter p xs) ≡ [] → AllByRecursion (λ x. p x ≡ false) (x ∷ xs)) [
      | true ↦ λ _ some. absurd cc
      | false ↦ λ e none. (e, none_left p xs none)
    ] refl none

module _ {X : Type 0} (same : X → X → Bool) (itself : (x : X) → same x x ≡ true) where
  alone : (x : X) (xs : List X) → IsUpToOne (filter (same x) (x ∷ xs)) → filter (same x) xs ≡ []
  alone x xs up = no_more x (filter (same x) xs) up.0 (sym (ap (λ b. cond b (x ∷ filter (same x) xs) (filter (same x) xs)) (itself x)) ∙ up.1)

  fewer : (p : X → Bool) (x : X) (xs : List X) → IsUpToOne (filter p (x ∷ xs)) → IsUpToOne (filter p xs)
  fewer p x xs up =
      elim (p x) as (λ b. cond b (x ∷ filter p xs) (filter p xs) ≡ option_to_list up.0 → IsUpToOne (filter p xs)) [
        | true ↦ λ h. (None, no_more x (filter p xs) up.0 h)
        | false ↦ λ h. (up.0, h)
      ] up.1

  -- where up to one is the same as each, no two are the same
  pub distinct_by_filter : (xs : List X) → ((x : X) → IsUpToOne (filter (same x) xs)) → IsDistinct same xs
  unfolding IsDistinct
  distinct_by_filter [] up = tt
  distinct_by_filter (x ∷ xs) up = (none_left (same x) xs (alone x xs (up x)), distinct_by_filter xs (λ y. fewer (same y) x xs (up y)))

-- ---- steps

pub filter_flat : {N X : Type 0} (p : X → Bool) (f : N → List X) (ns : List N) → filter p (flat_map f ns) ≡ flat_map (λ n. filter p (f n)) ns
filter_flat p f [] = refl
filter_flat p f (n ∷ ns) = filter-append p (f n) (flat_map f ns) ∙ ap (λ xs. filter p (f n) ++ xs) (filter_flat p f ns)

pub flat_none : {N X : Type 0} (ns : List N) → flat_map {A = X} (λ (n : N). []) ns ≡ []
flat_none [] = refl
flat_none (n ∷ ns) = flat_none ns

-- a step that keeps whether a row passes
pub filter_moves : {X : Type 0} (p : X → Bool) (g : X → Option X) → ((x y : X) → g x ≡ Some y → p y ≡ p x) → (xs : List X) → filter p (filter_map g xs) ≡ filter_map g (filter p xs)
filter_moves p g keeps [] = refl
filter_moves p g keeps (x ∷ xs) =
    let rest = filter_moves p g keeps xs in
    let others = filter p (filter_map g xs) in
    elim (g x) as (λ o. (g x ≡ o) → filter p (cons_option o (filter_map g xs)) ≡ filter_map g (cond (p x) (x ∷ filter p xs) (filter p xs))) [
      | None ↦ λ none.
          elim (p x) as (λ b. others ≡ filter_map g (cond b (x ∷ filter p xs) (filter p xs))) [
            | true ↦ rest ∙ sym (ap (λ o. cons_option o (filter_map g (filter p xs))) none)
            | false ↦ rest
          ]
      | Some y ↦ λ some.
          ap (λ b. cond b (y ∷ others) others) (keeps x y some)
          ∙ elim (p x) as (λ b. cond b (y ∷ others) others ≡ filter_map g (cond b (x ∷ filter p xs) (filter p xs))) [
            | true ↦ ap (λ ys. y ∷ ys) rest ∙ sym (ap (λ o. cons_option o (filter_map g (filter p xs))) some)
            | false ↦ rest
          ]
    ] refl

-- a step that only some take
pub moves_of_some : {X Y : Type 0} (q : X → Bool) (g : X → Option Y) (xs : List X) → filter_map g (filter q xs) ≡ filter_map (λ x. cond (q x) (g x) None) xs
moves_of_some q g [] = refl
moves_of_some q g (x ∷ xs) =
    let rest = moves_of_some q g xs in
    elim (q x) as (λ b. filter_map g (cond b (x ∷ filter q xs) (filter q xs)) ≡ cons_option (cond b (g x) None) (filter_map (λ y. cond (q y) (g y) None) xs)) [
      | true ↦ ap (cons_option (g x)) rest
      | false ↦ rest
    ]

pub moves_of_one : {X Y : Type 0} (g : X → Option Y) (o : Option X) → filter_map g (option_to_list o) ≡ option_to_list (option_and_then g o)
moves_of_one g None = refl
moves_of_one g (Some x) = elim (g x) as (λ o. cons_option o [] ≡ option_to_list o) [ None ↦ refl | Some y ↦ refl ]

-- what gives nothing may be left out
pub idle_left_out : {X Y : Type 0} (own since : X → Bool) (g : X → Option Y) (xs : List X) → AllByRecursion (λ x. (own x && (not (since x) && is_some (g x))) ≡ false) xs
    → filter_map g (filter (λ x. own x && since x) xs) ≡ filter_map g (filter own xs)
idle_left_out own since g [] idle = refl
idle_left_out own since g (x ∷ xs) idle =
    let rest = idle_left_out own since g xs idle.1 in
    let some = filter (λ y. own y && since y) xs in
    let all = filter own xs in
    elim (own x) as (λ b. (b && (not (since x) && is_some (g x))) ≡ false → filter_map g (cond (b && since x) (x ∷ some) some) ≡ filter_map g (cond b (x ∷ all) all)) [
      | true ↦ λ idle_here.
          elim (since x) as (λ b. (not b && is_some (g x)) ≡ false → filter_map g (cond b (x ∷ some) some) ≡ cons_option (g x) (filter_map g all)) [
            | true ↦ λ _. ap (cons_option (g x)) rest
            | false ↦ λ gives_none. elim (g x) as (λ o. is_some o ≡ false → filter_map g some ≡ cons_option o (filter_map g all)) [
              | None ↦ λ _. rest
              | Some y ↦ λ given. absurd cc
            ] gives_none
          ] idle_here
      | false ↦ λ _. rest
    ] idle.0

-- ---- what only its owner gives

module _ {N X : Type 0} (same : N → N → Bool) (decides : (n m : N) → Decides (same n m) (n ≡ m)) (owns : N → Bool) (P : N → Type 0) (only : (n m : N) → P n → P m → owns n ≡ true → owns m ≡ true → n ≡ m) (g : N → Option X) where
  abbrev given : N → List X
  given n = option_to_list (cond (owns n) (g n) None)

  others_give_none : (n : N) (ns : List N) → P n → AllByRecursion P ns → owns n ≡ true → list_any (λ m. same m n) ns ≡ false → flat_map given ns ≡ []
  others_give_none n [] here all mine apart = refl
  others_give_none n (m ∷ ns) here all mine apart =
      let split = or_none (same m n) (list_any (λ k. same k n) ns) apart in
      elim (owns m) as (λ b. (owns m ≡ b) → option_to_list (cond b (g m) None) ++ flat_map given ns ≡ []) [
        | true ↦ λ its. let same_one = (decides m n).1 (only m n all.0 here its mine) in absurd cc
        | false ↦ λ _. others_give_none n ns here all.1 mine split.1
      ] refl

  pub owner_gives : (ns : List N) → AllByRecursion P ns → IsOnce same decides ns → flat_map given ns ≡ option_to_list (option_and_then g (find owns ns))
  owner_gives [] all once = refl
  owner_gives (n ∷ ns) all once =
      elim (owns n) as (λ b. (owns n ≡ b) → option_to_list (cond b (g n) None) ++ flat_map given ns ≡ option_to_list (option_and_then g (cond b (Some n) (find owns ns)))) [
        | true ↦ λ mine. ap (λ xs. option_to_list (g n) ++ xs) (others_give_none n ns all.0 all.1 mine once.0) ∙ append-nil (option_to_list (g n))
        | false ↦ λ _. owner_gives ns all.1 once.1
      ] refl

-- ---- what is found, and where

pub not_found : {X : Type 0} (p q : X → Bool) → ((x : X) → q x ≡ true → p x ≡ true) → (xs : List X) → list_any q xs ≡ true → find p xs ≡ None → ⊥
not_found p q so [] among none = cc
not_found p q so (x ∷ xs) among none =
    elim (p x) as (λ b. (p x ≡ b) → cond b (Some x) (find p xs) ≡ None → ⊥) [
      | true ↦ λ _ some. absurd cc
      | false ↦ λ fails later.
          elim (q x) as (λ b. (q x ≡ b) → list_any q (x ∷ xs) ≡ true → ⊥) [
            | true ↦ λ passes _. let t = so x passes in absurd cc
            | false ↦ λ e among_rest. not_found p q so xs (ap (λ b. b || list_any q xs) (sym e) ∙ among_rest) later
          ] refl among
    ] refl none

-- ---- what a loop has found so far, before what is left

pub found_further : {X Y : Type 0} (f : X → List Y) (found more now all : List Y) (xs : List X) (i : ℕ) (x : X) → now ≡ found ++ more → i < length xs → x ≡ get_or xs i x → more ≡ f x
    → found ++ flat_map f (drop i xs) ≡ all → now ++ flat_map f (drop (i + 1) xs) ≡ all
found_further f found more now all xs i x made within stands is so_far =
    let further : suc i ≡ i + 1 = omega arith in
    let next : drop i xs ≡ x ∷ drop (i + 1) xs = drop-cons xs i x within ∙ ap (λ y. y ∷ drop (suc i) xs) (sym stands) ∙ ap (λ k. x ∷ drop k xs) further in
    ap (λ ys. ys ++ flat_map f (drop (i + 1) xs)) made
    ∙ append_assoc found more (flat_map f (drop (i + 1) xs))
    ∙ ap (λ ys. found ++ (ys ++ flat_map f (drop (i + 1) xs))) is
    ∙ ap (λ ys. found ++ flat_map f ys) (sym next)
    ∙ so_far

-- ---- and two lists side by side, the second one seen through a function

pub pairs_through : {N X Y V Z : Type 0} (f : X × V → List Z) (r : Y → V) (g : N → X) (h : N → Y) (ns : List N) → flat_map f (zip (map g ns) (map r (map h ns))) ≡ flat_map (λ n. f (g n, r (h n))) ns
pairs_through f r g h [] = refl
pairs_through f r g h (n ∷ ns) = ap (λ zs. f (g n, r (h n)) ++ zs) (pairs_through f r g h ns)

pub pairs_further : {X Y V : Type 0} (r : Y → V) (made now : List (X × V)) (all : List (X × V)) (xs : List X) (ys : List Y) (i : ℕ) (x : X) (y : Y) → now ≡ made ++ (x, r y) ∷ []
    → i < length xs → x ≡ get_or xs i x → i < length ys → y ≡ get_or ys i y
    → made ++ zip (drop i xs) (map r (drop i ys)) ≡ all → now ++ zip (drop (i + 1) xs) (map r (drop (i + 1) ys)) ≡ all
pairs_further r made now all xs ys i x y is x_within x_stands y_within y_stands so_far =
    let rest = zip (drop (i + 1) xs) (map r (drop (i + 1) ys)) in
    ap (λ zs. zs ++ rest) is
    ∙ append_assoc made ((x, r y) ∷ []) rest
    ∙ ap (λ us. made ++ zip us (map r (y ∷ drop (i + 1) ys))) (sym (next_is xs i x x_within x_stands))
    ∙ ap (λ us. made ++ zip (drop i xs) (map r us)) (sym (next_is ys i y y_within y_stands))
    ∙ so_far

none_left_of : {X V : Type 0} (xs : List X) (vs : List V) (i : ℕ) → length xs ≤ i → zip (drop i xs) vs ≡ []
none_left_of xs vs i past = ap (λ us. zip us vs) (drop_all i xs past)

no_right : {X V : Type 0} (xs : List X) → zip {X = V} xs [] ≡ []
no_right [] = refl
no_right (x ∷ xs) = refl

pub pairs_none_left : {X Y V : Type 0} (r : Y → V) (made all : List (X × V)) (xs : List X) (ys : List Y) (i : ℕ) → length xs ≤ i → made ++ zip (drop i xs) (map r (drop i ys)) ≡ all → made ++ zip (drop (i + 1) xs) (map r (drop (i + 1) ys)) ≡ all
pairs_none_left r made all xs ys i past so_far =
    ap (λ zs. made ++ zs) (none_left_of xs (map r (drop (i + 1) ys)) (i + 1) (omega arith) ∙ sym (none_left_of xs (map r (drop i ys)) i past)) ∙ so_far

pub pairs_all : {X Y V : Type 0} (r : Y → V) (made all : List (X × V)) (xs : List X) (ys : List Y) (i : ℕ) → length ys ≤ i → made ++ zip (drop i xs) (map r (drop i ys)) ≡ all → made ≡ all
pairs_all r made all xs ys i past so_far =
    sym (append-nil made) ∙ sym (ap (λ zs. made ++ zs) (ap (λ us. zip (drop i xs) (map r us)) (drop_all i ys past) ∙ no_right (drop i xs))) ∙ so_far
