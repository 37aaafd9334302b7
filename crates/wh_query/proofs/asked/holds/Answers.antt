use Rattle.std.proofs.Common.{◌≡◌, ℕ, ◌≤◌, ltb, false, sym, ◌∙◌, arith}
use Rattle.std.proofs.lemmas.Bool.Decides.{nat_tests}
use Rattle.wh_query.proofs.Holding.{holds_none}
use Rattle.wh_query.proofs.asked.holds.Goals as goal

not_below : (a b : ℕ) → false ≡ ltb a b → b ≤ a
not_below a b e = grind (arith, nat_tests)

pub returns-in_default : goal.returns-in_default
returns-in_default c = sym (holds_none c.args.conditions.now c.args.conditions.now c.conditions.at c.args.labels.now c.conditions-test.true (not_below _ _ c.in_default.ensures.lookup.0)) ∙ c.conditions.invariant
