use Rattle.std.proofs.Common.{◌≡◌, map, sym, subst}
use Rattle.std.proofs.lemmas.Result.{IfOk-weaker}
use Rattle.wh_plan.specs.Edits.{IsFactPlan}
use Rattle.wh_plan.specs.FactEdits.{rekey_of}
use Rattle.wh_plan.proofs.FactPlans.{rekeys_plan}
use Rattle.wh_plan.proofs.fact_edits.fact_rekeys.Goals as goal

pub returns : goal.returns
returns c before after are each =
    let facts = c.sort_by_line.new.facts.items in
    IfOk-weaker c.each_rekeyed.result (λ edits. edits.items ≡ map rekey_of facts) (λ edits. IsFactPlan before after edits.items)
    (λ edits made. subst (IsFactPlan before after) (sym made) (rekeys_plan before after c.args.facts.items facts are each c.sort_by_line.ensures.same c.sort_by_line.ensures.sorted))
    c.each_rekeyed.ensures
