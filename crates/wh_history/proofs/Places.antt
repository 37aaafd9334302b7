-- A place leads back to what stands there.
use Rattle.std.proofs.Common.{◌≡◌, ℕ, zero, suc, ◌<◌, Bool, true, false, cond, not, ◌||◌, List, [], ◌∷◌, Option, Some, None, refl, ◌∙◌, ap, arith}
use Rattle.std.specs.Prelude.{filter, bytes_eq}
use Rattle.std.specs.Bool.{Decides}
use Rattle.std.specs.List.{list_any}
use Rattle.std.proofs.lemmas.Bool.{eqb-true, eq-eqb}
use Rattle.std.proofs.lemmas.Slice.Eq.{bytes_eq-Decides}
use Rattle.wh_history.specs.Keys.{distinct, place, after_one, at_place}
use Rattle.wh_history.specs.Accepted.{Anchor, same_anchor, same_day}
use Rattle.wh_history.proofs.Basics.{both_true}
use Rattle.wh_history.proofs.Numbers.{from_after_one}

module _ {X : Type 0} (same : X → X → Bool) (decides : (x y : X) → Decides (same x y) (x ≡ y)) where
  at_after_one : (n : ℕ) (x : X) (xs : List X) → 0 < n → at_place (after_one n) (x ∷ xs) ≡ at_place n xs
  at_after_one zero x xs h = absurd (omega arith)
  at_after_one (suc n) x xs h = refl

  -- what has a place stands there
  pub at_place-place : (x : X) (xs : List X) → 0 < place same x xs → at_place (place same x xs) xs ≡ Some x
  at_place-place x [] given = absurd (omega arith)
  at_place-place x (y ∷ ys) given =
      elim (same y x) as (λ b. (same y x ≡ b) → 0 < cond b 1 (after_one (place same x ys)) → at_place (cond b 1 (after_one (place same x ys))) (y ∷ ys) ≡ Some x) [
        | true ↦ λ e _. ap Some ((decides y x).0 e)
        | false ↦ λ e g. let behind = from_after_one (place same x ys) g in at_after_one (place same x ys) y ys behind ∙ at_place-place x ys behind
      ] refl given

  -- what has one place is one
  pub one_place : (x y : X) (xs : List X) → 0 < place same x xs → place same x xs ≡ place same y xs → x ≡ y
  one_place x y xs given is =
      let other : 0 < place same y xs = omega arith in
      let left = at_place-place x xs given in
      let right = at_place-place y xs other in
      let both : at_place (place same x xs) xs ≡ at_place (place same y xs) xs = ap (λ n. at_place n xs) is in
      cc

  after_one_given : (n : ℕ) → 0 < n → 0 < after_one n
  after_one_given zero h = h
  after_one_given (suc n) h = omega arith

  -- a filter keeps what passes
  place-filter_given : (p : X → Bool) (x : X) (xs : List X) → p x ≡ true → 0 < place same x xs → 0 < place same x (filter p xs)
  place-filter_given p x [] passes given = given
  place-filter_given p x (y ∷ ys) passes given =
      elim (same y x) as (λ b. (same y x ≡ b) → 0 < cond b 1 (after_one (place same x ys)) → 0 < place same x (cond (p y) (y ∷ filter p ys) (filter p ys))) [
        | true ↦ λ e _.
            let is = (decides y x).0 e in
            let t : p y ≡ true = ap p is ∙ passes in
            rw (t, e) (omega arith)
        | false ↦ λ e g.
            let rest = place-filter_given p x ys passes (from_after_one (place same x ys) g) in
            elim (p y) as (λ b. 0 < place same x (cond b (y ∷ filter p ys) (filter p ys))) [
              | true ↦ rw e (after_one_given (place same x (filter p ys)) rest)
              | false ↦ rest
            ]
      ] refl given

  -- what is mentioned has a place among the distinct ones
  pub place-distinct_given : (x : X) (xs : List X) → list_any (λ y. same y x) xs ≡ true → 0 < place same x (distinct same xs)
  place-distinct_given x [] among = cc
  place-distinct_given x (y ∷ ys) among =
      elim (same y x) as (λ b. (same y x ≡ b) → (b || list_any (λ y. same y x) ys) ≡ true → 0 < place same x (y ∷ filter (λ z. not (same y z)) (distinct same ys))) [
        | true ↦ λ e _. rw e (omega arith)
        | false ↦ λ e later.
            let rest = place-distinct_given x ys later in
            let passes : not (same y x) ≡ true = ap not e in
            rw e (after_one_given _ (place-filter_given (λ z. not (same y z)) x (distinct same ys) passes rest))
      ] refl among

days_decide : (d e : Option ℕ) → Decides (same_day d e) (d ≡ e)
days_decide None None = (λ _. refl, λ _. refl)
days_decide None (Some e) = ((λ h. cc), λ h. cc)
days_decide (Some d) None = ((λ h. cc), λ h. cc)
days_decide (Some d) (Some e) = ((λ h. ap Some (eqb-true d e h)), λ h. let i : d ≡ e = cc in eq-eqb d e i)

make_anchor : List ℕ → Option ℕ → Anchor
make_anchor natural day = record { natural = natural; day = day }

made_anchor : (a : Anchor) → a ≡ make_anchor a.natural a.day
unfolding make_anchor
made_anchor a = refl

pub anchors_decide : (a b : Anchor) → Decides (same_anchor a b) (a ≡ b)
anchors_decide a b = (
  (λ h.
      let split = both_true (bytes_eq a.natural b.natural) (same_day a.day b.day) h in
      let n = (bytes_eq-Decides a.natural b.natural).0 split.0 in
      let d = (days_decide a.day b.day).0 split.1 in
      let ma = made_anchor a in
      let mb = made_anchor b in
      cc),
  λ h.
      let n = (bytes_eq-Decides a.natural b.natural).1 (ap (λ (x : Anchor). x.natural) h) in
      let d = (days_decide a.day b.day).1 (ap (λ (x : Anchor). x.day) h) in
      rw (n, d) refl,
)
