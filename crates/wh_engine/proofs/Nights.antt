-- A list that is delivered in several nights.
use Rattle.std.proofs.Common.{◌≡◌, ◌⊎◌, inl, inr, ℕ, zero, suc, ◌+◌, ◌≤◌, max, Bool, true, false, cond, leb, List, [], ◌∷◌, ◌++◌, take, drop, refl, sym, ap, subst, ◌∙◌, arith}
use Rattle.std.proofs.lemmas.List.{take-append-drop}
use Rattle.std.proofs.lemmas.Bool.{leb-true, leb-false}
use Rattle.std.proofs.Math.Seq.{take-add}
use Rattle.std.specs.Prelude.{IsTrue}
use Rattle.wh_history.specs.Accepted.{Accepted}
use Rattle.wh_history.specs.Tables.{Limits}
use Rattle.wh_admission.specs.Admission.{accepted_after, accepted_after_all}
use Rattle.wh_engine.specs.Nights.{Night, Morning, left_by, after_night, after_nights, before_any, RefusesNone, AreAllowed, RedeliveryEndsTheSame, ReopeningFindsABeginning}
use Rattle.wh_admission.specs.declared.command.Command.{Command}
use Rattle.wh_engine.proofs.Delivering.{deliveries_join}
use Rattle.wh_admission.proofs.Repeats.{acts_once}
use Rattle.wh_engine.proofs.Known.{none_of_first, changes_nothing}

-- the less of two numbers, and what is missing to the greater
split : (n m : ℕ) → ((d : ℕ) × (n + d ≡ m)) ⊎ ((d : ℕ) × (m + d ≡ n))
split zero m = inl (m, omega arith)
split (suc n) zero = inr (suc n, omega arith)
split (suc n) (suc m) = elim (split n m) [
  | inl (d, more) ↦ inl (d, omega (arith, more))
  | inr (d, fewer) ↦ inr (d, omega (arith, fewer))
]

-- one of two numbers
one_of : (n m : ℕ) → n ≤ m → m ≤ suc n → (m ≡ n) ⊎ (m ≡ suc n)
one_of n m from to = by_test (leb m n) refl
  where
    by_test : (b : Bool) → leb m n ≡ b → (m ≡ n) ⊎ (m ≡ suc n)
    by_test true is = inl (omega (arith, leb-true m n is))
    by_test false is = inr (omega (arith, leb-false m n is))

module _ (limits : Limits) where
  -- ---- a list in two parts

  pub seam : (held : List Accepted) (n : ℕ) (sent : List Command) → accepted_after_all limits (accepted_after_all limits held (take n sent)) (drop n sent) ≡ accepted_after_all limits held sent
  seam held n sent = sym (deliveries_join limits held (take n sent) (drop n sent)) ∙ ap (accepted_after_all limits held) (take-append-drop n sent)

  pub further : (held : List Accepted) (n m : ℕ) (sent : List Command) → accepted_after_all limits (accepted_after_all limits held (take n sent)) (take m (drop n sent)) ≡ accepted_after_all limits held (take (n + m) sent)
  further held n m sent = sym (deliveries_join limits held (take n sent) (take m (drop n sent))) ∙ ap (accepted_after_all limits held) (sym (take-add n m sent))

  -- a command more than was acknowledged changes nothing, since it acts once
  pub next_again : (held : List Accepted) (n : ℕ) (sent : List Command) → accepted_after_all limits (accepted_after_all limits held (take (suc n) sent)) (drop n sent) ≡ accepted_after_all limits held sent
  next_again held zero [] = refl
  next_again held zero (c ∷ sent) = ap (λ list. accepted_after_all limits list sent) (acts_once limits held c)
  next_again held (suc n) [] = refl
  next_again held (suc n) (c ∷ sent) = next_again (accepted_after limits held c) n sent

  next_same : (held : List Accepted) (n m : ℕ) (sent : List Command)
      → accepted_after_all limits (accepted_after_all limits held (take (suc n) sent)) (take (suc m) (drop n sent)) ≡ accepted_after_all limits (accepted_after_all limits held (take n sent)) (take (suc m) (drop n sent))
  next_same held zero m [] = refl
  next_same held zero m (c ∷ sent) = ap (λ list. accepted_after_all limits list (take m sent)) (acts_once limits held c)
  next_same held (suc n) m [] = refl
  next_same held (suc n) m (c ∷ sent) = next_same (accepted_after limits held c) n m sent

  pub next_further : (held : List Accepted) (n m : ℕ) (sent : List Command)
      → accepted_after_all limits (accepted_after_all limits held (take (suc n) sent)) (take (suc m) (drop n sent)) ≡ accepted_after_all limits held (take (n + suc m) sent)
  next_further held n m sent = next_same held n m sent ∙ further held n (suc m) sent

  -- ---- from the list's start again, where none is refused

  module _ (commands : List Accepted) (sent : List Command) (none : RefusesNone limits commands sent) where
    abbrev after : ℕ → List Accepted
    after n = accepted_after_all limits commands (take n sent)

    none_of : (n : ℕ) → RefusesNone limits commands (take n sent)
    none_of n = none_of_first limits commands (take n sent) (drop n sent) (subst (RefusesNone limits commands) (sym (take-append-drop n sent)) none)

    -- fewer commands than are there already
    fewer_again : (n m : ℕ) → accepted_after_all limits (after (n + m)) (take n sent) ≡ after (n + m)
    fewer_again n m =
        let parts : take (n + m) sent ≡ take n sent ++ take m (drop n sent) = take-add n m sent in
        let again = changes_nothing limits commands (take n sent) (take m (drop n sent)) (subst (RefusesNone limits commands) parts (none_of (n + m))) in
        subst (λ first. accepted_after_all limits (accepted_after_all limits commands first) (take n sent) ≡ accepted_after_all limits commands first) (sym parts) again

    -- as many as are there
    same_again : (n : ℕ) → accepted_after_all limits (after n) (take n sent) ≡ after n
    same_again n =
        let whole : n + 0 ≡ n = omega arith in
        subst (λ k. accepted_after_all limits (after k) (take n sent) ≡ after k) whole (fewer_again n 0)

    -- more than are there
    more_again : (n m : ℕ) → accepted_after_all limits (after n) (take (n + m) sent) ≡ after (n + m)
    more_again n m =
        ap (accepted_after_all limits (after n)) (take-add n m sent) ∙ deliveries_join limits (after n) (take n sent) (take m (drop n sent))
        ∙ ap (λ list. accepted_after_all limits list (take m (drop n sent))) (same_again n) ∙ further commands n m sent

    pub all_again : (n : ℕ) → accepted_after_all limits (after n) sent ≡ accepted_after_all limits commands sent
    all_again n =
        ap (accepted_after_all limits (after n)) (sym (take-append-drop n sent)) ∙ deliveries_join limits (after n) (take n sent) (drop n sent)
        ∙ ap (λ list. accepted_after_all limits list (drop n sent)) (same_again n) ∙ seam commands n sent

    start_again : (n m : ℕ) → accepted_after_all limits (after n) (take m sent) ≡ after (max n m)
    start_again n m =
        elim (split n m) [
          | inl (d, more) ↦ rw (← more) (more_again n d ∙ ap after (omega arith))
          | inr (d, fewer) ↦ rw (← fewer) (fewer_again m d ∙ ap after (omega arith))
        ]

  -- ---- what is found in the morning

  module _ (commands : List Accepted) (sent : List Command) where
    abbrev pub reached : ℕ → List Accepted
    reached n = accepted_after_all limits commands (take n sent)

    abbrev pub IsBeginning : ℕ → List Accepted → Type 0
    IsBeginning n found = (found ≡ reached n) ⊎ (found ≡ reached (suc n))

    near : (n m : ℕ) → n ≤ m → m ≤ suc n → (found : List Accepted) → found ≡ reached m → IsBeginning n found
    near n m from to found is = elim (one_of n m from to) [
      | inl same ↦ inl (is ∙ ap reached same)
      | inr next ↦ inr (is ∙ ap reached next)
    ]

    abbrev pub left_behind : Bool → ℕ → ℕ
    left_behind b n = cond b (suc n) n

    -- a night that begins with the first command that isn't acknowledged
    pub goes_on : (k n : ℕ) (b : Bool) (found : List Accepted) → IsBeginning k found → IsBeginning (max k (k + n)) (accepted_after_all limits found (take (left_behind b n) (drop k sent)))
    goes_on k n true found (inl is) =
        near (max k (k + n)) (k + suc n) (omega arith) (omega arith) _ (ap (λ list. accepted_after_all limits list (take (suc n) (drop k sent))) is ∙ further commands k (suc n) sent)
    goes_on k n false found (inl is) =
        near (max k (k + n)) (k + n) (omega arith) (omega arith) _ (ap (λ list. accepted_after_all limits list (take n (drop k sent))) is ∙ further commands k n sent)
    goes_on k n true found (inr is) =
        near (max k (k + n)) (k + suc n) (omega arith) (omega arith) _ (ap (λ list. accepted_after_all limits list (take (suc n) (drop k sent))) is ∙ next_further commands k n sent)
    goes_on k zero false found (inr is) = near (max k (k + 0)) (suc k) (omega arith) (omega arith) _ is
    goes_on k (suc n) false found (inr is) =
        near (max k (k + suc n)) (k + suc n) (omega arith) (omega arith) _ (ap (λ list. accepted_after_all limits list (take (suc n) (drop k sent))) is ∙ next_further commands k n sent)

    -- a night that begins at the list's start
    starts : (k n : ℕ) (b : Bool) (found : List Accepted) → RefusesNone limits commands sent → IsBeginning k found → IsBeginning (max k (0 + n)) (accepted_after_all limits found (take (left_behind b n) sent))
    starts k n true found none (inl is) =
        near (max k (0 + n)) (max k (suc n)) (omega arith) (omega arith) _ (ap (λ list. accepted_after_all limits list (take (suc n) sent)) is ∙ start_again commands sent none k (suc n))
    starts k n false found none (inl is) =
        near (max k (0 + n)) (max k n) (omega arith) (omega arith) _ (ap (λ list. accepted_after_all limits list (take n sent)) is ∙ start_again commands sent none k n)
    starts k n true found none (inr is) =
        near (max k (0 + n)) (max (suc k) (suc n)) (omega arith) (omega arith) _ (ap (λ list. accepted_after_all limits list (take (suc n) sent)) is ∙ start_again commands sent none (suc k) (suc n))
    starts k n false found none (inr is) =
        near (max k (0 + n)) (max (suc k) n) (omega arith) (omega arith) _ (ap (λ list. accepted_after_all limits list (take n sent)) is ∙ start_again commands sent none (suc k) n)

    one_night : (morning : Morning) (night : Night) → (IsTrue night.from_start → RefusesNone limits commands sent) → IsBeginning morning.acknowledged morning.found
        → let next = after_night limits sent morning night in IsBeginning next.acknowledged next.found
    one_night morning night allowed at = by_start night.from_start allowed
      where
        by_start : (b : Bool) → (IsTrue b → RefusesNone limits commands sent)
            → let passed = cond b 0 morning.acknowledged in IsBeginning (max morning.acknowledged (passed + night.acknowledged)) (accepted_after_all limits morning.found (take (left_by night) (drop passed sent)))
        by_start true allowed = starts morning.acknowledged night.acknowledged night.left_next morning.found (allowed refl) at
        by_start false allowed = goes_on morning.acknowledged night.acknowledged night.left_next morning.found at

    pub all_nights : (morning : Morning) (nights : List Night) → AreAllowed limits commands sent nights → IsBeginning morning.acknowledged morning.found
        → let last = after_nights limits sent morning nights in IsBeginning last.acknowledged last.found
    all_nights morning [] allowed at = at
    all_nights morning (night ∷ nights) allowed at = all_nights (after_night limits sent morning night) nights allowed.1 (one_night morning night allowed.0 at)

    pub rest_ends : (k : ℕ) (found : List Accepted) → IsBeginning k found → accepted_after_all limits found (drop k sent) ≡ accepted_after_all limits commands sent
    rest_ends k found (inl is) = ap (λ list. accepted_after_all limits list (drop k sent)) is ∙ seam commands k sent
    rest_ends k found (inr is) = ap (λ list. accepted_after_all limits list (drop k sent)) is ∙ next_again commands k sent

    pub all_ends : (k : ℕ) (found : List Accepted) → IsBeginning k found → RefusesNone limits commands sent → accepted_after_all limits found sent ≡ accepted_after_all limits commands sent
    all_ends k found (inl is) none = ap (λ list. accepted_after_all limits list sent) is ∙ all_again commands sent none k
    all_ends k found (inr is) none = ap (λ list. accepted_after_all limits list sent) is ∙ all_again commands sent none (suc k)

pub reopening : ReopeningFindsABeginning
reopening limits commands sent nights allowed = all_nights limits commands sent (before_any commands) nights allowed (inl refl)

pub redelivery : RedeliveryEndsTheSame
redelivery limits commands sent nights allowed =
    let morning = after_nights limits sent (before_any commands) nights in
    let at = reopening limits commands sent nights allowed in
    (rest_ends limits commands sent morning.acknowledged morning.found at, λ none. all_ends limits commands sent morning.acknowledged morning.found at none)
