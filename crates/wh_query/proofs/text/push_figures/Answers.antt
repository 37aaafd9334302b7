use Rattle.std.proofs.Common.{◌≡◌, ◌++◌, ◌∷◌, [], List, refl, ap}
use Rattle.wh_query.proofs.text.push_figures.Goals as goal

-- five put behind others, one after the other
five : {X : Type 0} (xs : List X) (a b c d e : X) → ((((xs ++ a ∷ []) ++ b ∷ []) ++ c ∷ []) ++ d ∷ []) ++ e ∷ [] ≡ xs ++ (a ∷ b ∷ c ∷ d ∷ e ∷ [])
five [] a b c d e = refl
five (x ∷ xs) a b c d e = ap (λ ys. x ∷ ys) (five xs a b c d e)

pub returns : goal.returns
returns c =
    rw (c.in_ok-push_margin.ensures, c.in_ok-push_cost.ensures, c.in_ok-push_amount.ensures, c.in_ok-push_quantity.ensures, c.in_ok-push_lines.ensures) (five _ _ _ _ _ _)
