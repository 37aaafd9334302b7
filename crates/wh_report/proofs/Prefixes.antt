-- What follows a prefix.
use Rattle.std.proofs.Common.{◌≡◌, ◌≢◌, ℕ, ◌+◌, true, false, cond, ◌==◌, List, [], ◌∷◌, ◌++◌, length, drop, Option, Some, None, MatchOption, Bor, refl, sym, ◌∙◌, ap, arith}
use Rattle.std.specs.Prelude.{option_map}
use Rattle.std.specs.Str.{IsCharBoundary}
use Rattle.std.proofs.lemmas.Bool.Decides.{nat_tests}
use Rattle.wh_report.specs.Subject.{after}

itself : (p : ℕ) → (p == p) ≡ true
itself p = grind (arith, nat_tests)

same_number : (p t : ℕ) → (p == t) ≡ true → p ≡ t
same_number p t e = grind (arith, nat_tests)

after-append : (prefix rest : List ℕ) → after prefix (prefix ++ rest) ≡ Some rest
after-append [] rest = refl
after-append (p ∷ prefix) rest = rw (itself p) (after-append prefix rest)

after_none : (prefix text : List ℕ) → ((rest : List ℕ) → text ≡ prefix ++ rest → ⊥) → after prefix text ≡ None
after_none [] text differs = absurd (differs text refl)
after_none (p ∷ prefix) [] differs = refl
after_none (p ∷ prefix) (t ∷ text) differs =
    elim (p == t) as (λ b. ((p == t) ≡ b) → cond b (after prefix text) None ≡ None) [
      | true ↦ λ e. after_none prefix text (λ rest is. let same = same_number p t e in differs rest cc)
      | false ↦ λ e. refl
    ] refl

pub taken : (prefix text : List ℕ) (r : Option (Bor (List ℕ))) → MatchOption r ((rest : List ℕ) → text ≢ prefix ++ rest) (λ x. (k : ℕ) × ((k ≡ length prefix) × (text ≡ prefix ++ drop k text) × IsCharBoundary text (length prefix)) × (x.now ≡ drop k text) × (length x.now + k ≡ length text)) → option_map (λ t. t.now) r ≡ after prefix text
taken prefix text None h = sym (after_none prefix text h)
taken prefix text (Some x) h =
    let whole : text ≡ prefix ++ x.now = h.1.1 ∙ ap (λ ys. prefix ++ ys) (sym h.2) in
    rw whole (sym (after-append prefix x.now))
