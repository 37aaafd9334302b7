-- The natural keys that records name, one record after the other.
use Rattle.std.proofs.Common.{◌≡◌, ℕ, ◌+◌, ◌<◌, Bool, true, false, cond, List, [], ◌∷◌, ◌++◌, length, take, get_or, refl, sym, ◌∙◌, ap, arith, append-nil}
use Rattle.std.specs.Prelude.{bytes_eq}
use Rattle.std.specs.Bool.{Decides}
use Rattle.std.specs.List.{list_any}
use Rattle.std.proofs.lemmas.Grind.{common_steps}
use Rattle.std.proofs.lemmas.List.{map-append}
use Rattle.std.proofs.lemmas.Slice.Eq.{bytes_eq-Decides}
use Rattle.wh_policy.specs.declared.record.DimensionRecord.{DimensionRecord}
use Rattle.wh_history.specs.Keys.{distinct}
use Rattle.wh_history.proofs.Lasts.{fresh_one}
use Rattle.wh_history.proofs.Numbers.{distinct-append}
use Rattle.wh_history.proofs.Once.{among_distinct}
use Rattle.wh_plan.specs.NewRows.{naturals_told}
use Rattle.wh_plan.proofs.PlanningMembers.{naturals}

pub distinct_last : {X : Type 0} (same : X → X → Bool) (decides : (x y : X) → Decides (same x y) (x ≡ y)) (x : X) (xs : List X)
    → distinct same (xs ++ x ∷ []) ≡ cond (list_any (λ y. same y x) xs) (distinct same xs) (distinct same xs ++ x ∷ [])
distinct_last same decides x xs =
    distinct-append same xs (x ∷ []) ∙ ap (λ zs. distinct same xs ++ zs) (fresh_one same decides x xs)
    ∙ elim (list_any (λ y. same y x) xs) as (λ b. distinct same xs ++ cond b [] (x ∷ []) ≡ cond b (distinct same xs) (distinct same xs ++ x ∷ [])) [
      | true ↦ append-nil (distinct same xs)
      | false ↦ refl
    ]

test_turned : (a b : List ℕ) → bytes_eq a b ≡ bytes_eq b a
test_turned a b =
    elim (bytes_eq a b) as (λ t. (bytes_eq a b ≡ t) → t ≡ bytes_eq b a) [
      | true ↦ λ e. sym ((bytes_eq-Decides b a).1 (sym ((bytes_eq-Decides a b).0 e)))
      | false ↦ λ e.
          elim (bytes_eq b a) as (λ t. (bytes_eq b a ≡ t) → false ≡ t) [
            | true ↦ λ f. let back = (bytes_eq-Decides a b).1 (sym ((bytes_eq-Decides b a).0 f)) in cc
            | false ↦ λ f. refl
          ] refl
    ] refl

pub tests_turned : (n : List ℕ) (ns : List (List ℕ)) → list_any (bytes_eq n) ns ≡ list_any (λ m. bytes_eq m n) ns
tests_turned n [] = refl
tests_turned n (m ∷ ns) = rw (test_turned n m, tests_turned n ns) refl

pub next_taken : {X : Type 0} (xs : List X) (i : ℕ) (x : X) → i < length xs → x ≡ get_or xs i x → take (i + 1) xs ≡ take i xs ++ x ∷ []
next_taken xs i x within is = grind (arith, common_steps)

-- one record more
pub told_more : (rs : List DimensionRecord) (i : ℕ) (r : DimensionRecord) (ns : List (List ℕ)) → i < length rs → r ≡ get_or rs i r → ns ≡ naturals_told (take i rs)
    → cond (list_any (bytes_eq r.natural) ns) ns (ns ++ r.natural ∷ []) ≡ naturals_told (take (i + 1) rs)
told_more rs i r ns within is so_far =
    let before = naturals (take i rs) in
    let test : list_any (bytes_eq r.natural) ns ≡ list_any (λ m. bytes_eq m r.natural) before =
    tests_turned r.natural ns ∙ ap (list_any (λ m. bytes_eq m r.natural)) so_far ∙ among_distinct bytes_eq bytes_eq-Decides r.natural before in
    ap (λ b. cond b ns (ns ++ r.natural ∷ [])) test
    ∙ ap (λ ms. cond (list_any (λ m. bytes_eq m r.natural) before) ms (ms ++ r.natural ∷ [])) so_far
    ∙ sym (distinct_last bytes_eq bytes_eq-Decides r.natural before)
    ∙ ap (distinct bytes_eq) (sym (ap naturals (next_taken rs i r within is) ∙ map-append (λ (q : DimensionRecord). q.natural) (take i rs) (r ∷ [])))
