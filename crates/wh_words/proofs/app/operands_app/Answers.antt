use Rattle.std.proofs.Common.{◌≡◌, ℕ, List, ◌+◌, ◌<◌, length, get_or, map, drop, drop-cons, add-one, sym, ◌∙◌, refl, rules}
use Rattle.std.specs.Borrow.{Bor}
use Rattle.clap.specs.Words.{App, app_of, with_rule}
use Rattle.wh_words.specs.CommandLine.{operand, with_operands}
use Rattle.wh_words.proofs.app.operands_app.Goals as goal

-- with the i-th operand, those after it are left
one_more : (rows : List (Bor (List ℕ) × Bor (List ℕ))) (i : ℕ) (d : Bor (List ℕ) × Bor (List ℕ)) (app new whole : App) → i < length rows
    → new ≡ with_rule app (operand (get_or rows i d).0.now)
    → with_operands app (map (λ o. o.0.now) (drop i rows)) ≡ whole
    → with_operands new (map (λ o. o.0.now) (drop (i + 1) rows)) ≡ whole
one_more rows i d app new whole h new-is was =
    let next : with_operands app (map (λ o. o.0.now) (drop i rows))
    ≡ with_operands (with_rule app (operand (get_or rows i d).0.now)) (map (λ o. o.0.now) (drop (i + 1) rows))
    = rw (add-one i, drop-cons rows i d h) refl in
    rw new-is (sym next ∙ was)

pub loop-name-preserved : goal.loop-name-preserved
loop-name-preserved c =
    let at = c.loop-name in
    record {
      made = one_more _ _ _ (app_of at.command) _ _ c.loop-name-test.true c.in_ok-command.ensures.app at.invariant.made;
      local = search rules;
    }
