-- Exact edits of a table whose keys are numbers, where the edit of each number is known.
use Rattle.std.proofs.Common.{◌≡◌, inl, inr, ℕ, zero, suc, ◌+◌, ◌-◌, ◌<◌, ◌≤◌, ◌==◌, Bool, true, false, List, [], ◌∷◌, ◌++◌, Option, Some, None, refl, sym, ◌∙◌, ap, subst, arith, append-nil, append_assoc}
use Rattle.std.specs.Prelude.{filter_map, find}
use Rattle.std.specs.List.{range_with_len, cons_option}
use Rattle.std.specs.Ordering.{eq_by_cmp, nat_cmp}
use Rattle.std.specs.Cmp.{unsigned_tied}
use Rattle.std.proofs.lemmas.Bool.{cases_lt, cases_eq, eq-eqb, ne_eqb}
use Rattle.wh_history.specs.Plan.{Needs, edited, Above, Ascends, IsPlan}
use Rattle.wh_history.specs.declared.plan.Edit.{Edit}
use Rattle.wh_history.specs.declared.plan.Edit.TheVariants.{Put, Remove}
use Rattle.wh_history.proofs.Basics.{some_is}
use Rattle.wh_model.proofs.Listed.{number_rises}

-- ---- what is left of a range

abbrev pub from_to : {X : Type 0} → (ℕ → Option X) → ℕ → ℕ → List X
from_to make number end = filter_map make (range_with_len number (end - number))

none_left : {X : Type 0} (make : ℕ → Option X) (number end : ℕ) → end ≤ number → from_to make number end ≡ []
none_left make number end past =
    let none : end - number ≡ 0 = omega arith in
    rw none refl

one_less : {X : Type 0} (make : ℕ → Option X) (number end : ℕ) → number < end → from_to make number end ≡ cons_option (make number) (from_to make (number + 1) end)
one_less make number end within =
    let len : end - number ≡ suc (end - (number + 1)) = omega arith in
    rw len refl

-- one that is made is added to those so far, and a number for which none is made is passed over
pub one_made : {X : Type 0} (make : ℕ → Option X) (number end : ℕ) (items : List X) (x : X) (all : List X) → number < end → make number ≡ Some x → items ++ from_to make number end ≡ all → (items ++ x ∷ []) ++ from_to make (number + 1) end ≡ all
one_made make number end items x all within is whole =
    append_assoc items (x ∷ []) (from_to make (number + 1) end)
    ∙ ap (λ o. items ++ cons_option o (from_to make (number + 1) end)) (sym is)
    ∙ ap (λ xs. items ++ xs) (sym (one_less make number end within)) ∙ whole

pub none_made : {X : Type 0} (make : ℕ → Option X) (number end : ℕ) (items all : List X) → number < end → make number ≡ None → items ++ from_to make number end ≡ all → items ++ from_to make (number + 1) end ≡ all
none_made make number end items all within is whole =
    ap (λ o. items ++ cons_option o (from_to make (number + 1) end)) (sym is)
    ∙ ap (λ xs. items ++ xs) (sym (one_less make number end within)) ∙ whole

-- and at the end they are all
pub all_made : {X : Type 0} (make : ℕ → Option X) (number end : ℕ) (items all : List X) → end ≤ number → items ++ from_to make number end ≡ all → items ≡ all
all_made make number end items all past whole = sym (append-nil items) ∙ ap (λ xs. items ++ xs) (sym (none_left make number end past)) ∙ whole

-- ---- the edits of a range

-- an edit that a number needs is of it
need_key : {V : Type 0} (key : V → ℕ) (n : ℕ) (before after : Option V) → ((v : V) → after ≡ Some v → key v ≡ n) → (e : Edit V ℕ) → Needs n before after (Some e) → edited key e ≡ n
need_key key n None None keyed e is = absurd cc
need_key key n (Some old) None keyed e is = ap (edited key) (some_is e (Remove n) is)
need_key key n None (Some new) keyed e is = ap (edited key) (some_is e (Put new) is) ∙ keyed new refl
need_key key n (Some old) (Some new) keyed e is = elim is [
  | inl kept ↦ let none = kept.1 in absurd cc
  | inr other ↦ ap (edited key) (some_is e (Put new) other.1) ∙ keyed new refl
]

module _ {V : Type 0} (key : V → ℕ) (old new : ℕ → Option V) (keyed : (n : ℕ) (v : V) → new n ≡ Some v → key v ≡ n) (edit : ℕ → Option (Edit V ℕ)) (needs : (n : ℕ) → Needs n (old n) (new n) (edit n)) where
  abbrev edits : ℕ → ℕ → List (Edit V ℕ)
  edits start len = filter_map edit (range_with_len start len)

  abbrev is_of : ℕ → Edit V ℕ → Bool
  is_of n e = eq_by_cmp nat_cmp (edited key e) n

  of_number : (n : ℕ) (e : Edit V ℕ) → edit n ≡ Some e → edited key e ≡ n
  of_number n e is = need_key key n (old n) (new n) (keyed n) e (subst (Needs n (old n) (new n)) is (needs n))

  above : (low start len : ℕ) → low < start → Above nat_cmp (edited key) low (filter_map edit (range_with_len start len))
  above low start zero below = tt
  above low start (suc len) below =
      let rest = above low (start + 1) len (omega arith) in
      let more = above start (start + 1) len (omega arith) in
      elim (edit start) as (λ o. edit start ≡ o → Above nat_cmp (edited key) low (cons_option o (edits (start + 1) len))) [
        | None ↦ λ _. rest
        | Some e ↦ λ is. let at = of_number start e is in (ap (nat_cmp low) at ∙ number_rises low start below, subst (λ k. Above nat_cmp (edited key) k (edits (start + 1) len)) (sym at) more)
      ] refl

  ascends : (start len : ℕ) → Ascends nat_cmp (edited key) (filter_map edit (range_with_len start len))
  ascends start zero = tt
  ascends start (suc len) =
      let rest = ascends (start + 1) len in
      let more = above start (start + 1) len (omega arith) in
      elim (edit start) as (λ o. edit start ≡ o → Ascends nat_cmp (edited key) (cons_option o (edits (start + 1) len))) [
        | None ↦ λ _. rest
        | Some e ↦ λ is. let at = of_number start e is in subst (λ k. Above nat_cmp (edited key) k (edits (start + 1) len)) (sym at) more
      ] refl

  -- the edit of another number is passed over
  skipped : (n m : ℕ) (es : List (Edit V ℕ)) → (m == n) ≡ false → find (is_of n) (cons_option (edit m) es) ≡ find (is_of n) es
  skipped n m es other =
      elim (edit m) as (λ o. edit m ≡ o → find (is_of n) (cons_option o es) ≡ find (is_of n) es) [
        | None ↦ λ _. refl
        | Some e ↦ λ is. let apart : is_of n e ≡ false = ap (λ k. eq_by_cmp nat_cmp k n) (of_number m e is) ∙ unsigned_tied m n ∙ other in rw apart refl
      ] refl

  none_before : (n start len : ℕ) → n < start → find (is_of n) (edits start len) ≡ None
  none_before n start zero below = refl
  none_before n start (suc len) below = skipped n start (edits (start + 1) len) (ne_eqb start n (omega arith)) ∙ none_before n (start + 1) len (omega arith)

  found : (n start len : ℕ) → start ≤ n → (start + len ≤ n → edit n ≡ None) → find (is_of n) (edits start len) ≡ edit n
  found n start zero from past = sym (past (omega arith))
  found n start (suc len) from past =
      elim (cases_eq start n) [
        | inl first ↦
            let rest = none_before n (start + 1) len (omega arith) in
            elim (edit start) as (λ o. edit start ≡ o → find (is_of n) (cons_option o (edits (start + 1) len)) ≡ edit n) [
              | None ↦ λ is. rest ∙ sym is ∙ ap edit first
              | Some e ↦ λ is. let tied : is_of n e ≡ true = ap (λ k. eq_by_cmp nat_cmp k n) (of_number start e is) ∙ unsigned_tied start n ∙ eq-eqb start n first in rw tied (sym is ∙ ap edit first)
            ] refl
        | inr later ↦ skipped n start (edits (start + 1) len) (ne_eqb start n later) ∙ found n (start + 1) len (omega arith) (λ after. past (omega arith))
      ]

  -- the edits of a range are the plan where no other number needs one
  pub numbered_plan : (start len : ℕ) → ((n : ℕ) → n < start → edit n ≡ None) → ((n : ℕ) → start + len ≤ n → edit n ≡ None) → IsPlan nat_cmp key old new (filter_map edit (range_with_len start len))
  numbered_plan start len below past = record {
    ordered = ascends start len;
    exact = λ n. subst (Needs n (old n) (new n)) (sym (elim (cases_lt n start) [
      | inl before ↦ none_before n start len before ∙ sym (below n before)
      | inr from ↦ found n start len from (past n)
    ])) (needs n);
  }
