use Rattle.std.proofs.Common.{◌≡◌, ◌++◌, ◌∷◌, [], ◌∙◌, sym, ap, subst}
use Rattle.wh_history.specs.Accepted.{profiles_of}
use Rattle.wh_history.specs.Known.{all_numbered}
use Rattle.wh_rows.specs.Rows as row
use Rattle.wh_model.specs.Defined.{profile_at}
use Rattle.wh_plan.specs.Edits.{IsTablePlan}
use Rattle.wh_migration.specs.Migration.{edits_of_profiles}
use Rattle.wh_plan.proofs.PlanPremises.{values_before}
use Rattle.wh_migration.proofs.PlanRenumbered.{combinations_after, migration_plan}
use Rattle.wh_migration.proofs.profile_plan.renumbered_profiles.Goals as goal
use Rattle.wh_sql.proofs.Sparing.{tables_again}
use Rattle.wh_sql.proofs.InTurn.{then_failed}

pub returns-clause-renumbered : goal.returns-clause-renumbered
returns-clause-renumbered g c clean limits commands t are at migration accepted gives typed =
    let kinds = c.args.types.now in
    let after = commands ++ migration ∷ [] in
    let combinations = c.deref.result.now in
    let before = c.in_ok-stored.ensures.reads.spares.clean clean in
    let told : combinations ≡ profiles_of after = c.deref.ensures.value ∙ c.in_ok-combinations.ensures.combinations before limits commands t are at (values_before limits commands migration accepted) ∙ combinations_after commands migration gives kinds typed in
    let still = tables_again c.in_ok-combinations.ensures.reads.spares before t at tt in
    let stored = c.deref-2.ensures.value ∙ c.in_ok-stored.ensures.rows clean t still in
    let rows = c.deref-3.ensures.value ∙ c.in_ok-rows.ensures.0 in
    let edits = c.in_ok-edits.ensures ∙ ap (λ old. edits_of_profiles old c.deref-3.result.now) stored ∙ ap (edits_of_profiles _) rows in
    record {
      known = c.in_ok-rows.ensures.1 ∙ ap (λ ks. ks ++ all_numbered combinations) c.new-known.ensures ∙ ap all_numbered told;
      edits = subst (IsTablePlan row.profile (profile_at commands) (profile_at after)) (sym edits) (migration_plan commands migration gives kinds typed limits t are combinations told);
    }

pub returns-in_err-stored-clause-reads : goal.returns-in_err-stored-clause-reads
returns-in_err-stored-clause-reads g c = then_failed c.in_ok-combinations.ensures.reads c.in_err-stored.ensures.reads c.from_residual-in_err-stored.ensures
