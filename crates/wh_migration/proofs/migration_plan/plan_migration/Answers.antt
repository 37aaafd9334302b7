use Rattle.std.proofs.Common.{[], ◌∷◌, ◌++◌, refl, sym, ap, subst}
use Rattle.wh_history.specs.Laws.{governs}
use Rattle.wh_plan.specs.Edits.{AreEdits}
use Rattle.wh_migration.proofs.MigrationPlans.{migration_edits}
use Rattle.wh_migration.proofs.migration_plan.plan_migration.Goals as goal
use Rattle.wh_sql.proofs.Sparing.{tables_again}

pub returns-clause-edits : goal.returns-clause-edits
returns-clause-edits g c clean limits commands t are at format d ok is governed sound fit stands =
    let newer = c.args.newer.now in
    let before = c.in_ok-migrated.ensures.reads.spares.clean clean in
    let still = tables_again c.in_ok-anew.ensures.reads.spares before t at tt in
    let anew = c.in_ok-anew.ensures.shown before limits commands t are at d ok is sound in
    let migrated = c.in_ok-migrated.ensures.edits clean limits commands t are still format d ok (ap governs is) anew.members anew.profiles.known in
    subst (AreEdits commands (commands ++ d ∷ [])) (sym c.in_ok-with_own_row.ensures)
    (migration_edits commands d newer is c.args.terms.now.policy.now c.args.command c.in_ok-migrated.migrated _ c.args.terms.now.format format governed stands migrated anew.profiles.edits (c.in_ok-calendar.ensures fit) refl refl refl refl refl refl refl refl refl refl refl)
