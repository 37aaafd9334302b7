use Rattle.std.proofs.Common.{[], ◌∷◌, ◌++◌, None, sym, subst}
use Rattle.wh_model.specs.Defined.{fact_at}
use Rattle.wh_plan.specs.BatchRows.{AreFacts}
use Rattle.wh_plan.specs.Edits.{AreEdits}
use Rattle.wh_migration.proofs.UpgradePlans.{carried, upgrade_plan}
use Rattle.wh_migration.proofs.upgrade_plan.plan_upgrade.Goals as goal

pub returns-clause-edits : goal.returns-clause-edits
returns-clause-edits g c clean limits commands t are at d is first stands =
    let read = c.in_ok-facts.ensures.rows clean t at in
    let all = subst (AreFacts (λ _. None) (fact_at commands)) (sym read) (carried limits commands d t is first are) in
    subst (AreEdits commands (commands ++ d ∷ [])) (sym c.in_ok-upgrade_edits.ensures)
    (upgrade_plan limits commands d t is first are c.args.command c.in_ok-carried.carried.one.items c.in_ok-carried.carried.two.items stands (c.in_ok-carried.ensures.one (fact_at commands) all) (c.in_ok-carried.ensures.two (fact_at commands) all))
