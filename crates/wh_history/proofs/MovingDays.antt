-- All changes are since the earliest day and until the latest.
use Rattle.std.proofs.Common.{◌≤◌, cond, List, [], ◌∷◌, sym, subst, arith, inl, inr}
use Rattle.std.specs.List.{AllByRecursion}
use Rattle.std.proofs.lemmas.Bool.{cases_lt, lt-ltb, le-ltb}
use Rattle.wh_history.specs.MovingDays.{earliest, latest_day}
use Rattle.wh_history.specs.declared.member.Change.{Change}
use Rattle.wh_history.proofs.Joins.{all_weaker}

pub earliest_first : (cs : List Change) → AllByRecursion (λ (d : Change). earliest cs ≤ d.day) cs
earliest_first [] = tt
earliest_first (c ∷ cs) =
    let rest = earliest_first cs in
    elim (cases_lt c.day (earliest cs)) [
      | inl less ↦ subst (λ b. AllByRecursion (λ (d : Change). cond b c.day (earliest cs) ≤ d.day) (c ∷ cs)) (sym (lt-ltb c.day (earliest cs) less))
          (omega arith, all_weaker (λ (d : Change). earliest cs ≤ d.day) (λ (d : Change). c.day ≤ d.day) (λ d late. omega (arith, late, less)) cs rest)
      | inr late ↦ subst (λ b. AllByRecursion (λ (d : Change). cond b c.day (earliest cs) ≤ d.day) (c ∷ cs)) (sym (le-ltb c.day (earliest cs) late)) (late, rest)
    ]

pub latest_last : (cs : List Change) → AllByRecursion (λ (d : Change). d.day ≤ latest_day cs) cs
latest_last [] = tt
latest_last (c ∷ cs) =
    let rest = latest_last cs in
    elim (cases_lt (latest_day cs) c.day) [
      | inl more ↦ subst (λ b. AllByRecursion (λ (d : Change). d.day ≤ cond b c.day (latest_day cs)) (c ∷ cs)) (sym (lt-ltb (latest_day cs) c.day more))
          (omega arith, all_weaker (λ (d : Change). d.day ≤ latest_day cs) (λ (d : Change). d.day ≤ c.day) (λ d early. omega (arith, early, more)) cs rest)
      | inr less ↦ subst (λ b. AllByRecursion (λ (d : Change). d.day ≤ cond b c.day (latest_day cs)) (c ∷ cs)) (sym (le-ltb (latest_day cs) c.day less)) (less, rest)
    ]
