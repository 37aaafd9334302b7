use Rattle.std.proofs.Common.{None, map, ap, sym, subst, ◌∙◌}
use Rattle.wh_plan.specs.Edits.{IsFactPlan}
use Rattle.wh_plan.specs.FactEdits.{remove_of}
use Rattle.wh_plan.proofs.FactPlans.{removes_plan, carried_plan}
use Rattle.wh_plan.proofs.fact_edits.carried_over.Goals as goal

pub returns-clause-one : goal.returns-clause-one
returns-clause-one c kept are =
    subst (IsFactPlan kept (λ _. None)) (sym (c.in_ok-one.ensures ∙ ap (map remove_of) c.deref.ensures.value)) (removes_plan kept c.args.facts.items c.sort_by_line.new.facts.items are c.sort_by_line.ensures.same c.sort_by_line.ensures.sorted)

pub returns-clause-two : goal.returns-clause-two
returns-clause-two c kept are =
    subst (IsFactPlan (λ _. None) kept) (sym c.in_ok-two.ensures) (carried_plan kept c.args.facts.items c.sort_by_line.new.facts.items are c.sort_by_line.ensures.same c.sort_by_line.ensures.sorted)
