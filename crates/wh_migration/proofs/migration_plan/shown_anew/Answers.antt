use Rattle.std.proofs.Common.{None, ◌∙◌, ap}
use Rattle.wh_policy.specs.declared.attribute.Dim.TheVariants.{Customer}
use Rattle.wh_history.specs.Laws.{governs}
use Rattle.wh_model.proofs.GovernedLists.{policy_governed}
use Rattle.wh_migration.proofs.AllMembers.{types_anew}
use Rattle.wh_migration.proofs.migration_plan.shown_anew.Goals as goal
use Rattle.wh_sql.proofs.Sparing.{tables_again}
use Rattle.wh_sql.proofs.InTurn.{then_failed}

pub returns-clause-shown : goal.returns-clause-shown
returns-clause-shown g c clean limits commands t are at d ok is sound =
    let newer = c.args.newer.now in
    let before = c.in_ok-profiles.ensures.reads.spares.clean clean in
    let still = tables_again c.in_ok-members.ensures.reads.spares before t at tt in
    let members = c.in_ok-members.ensures.read before limits commands t are at d ok is in
    record {
      members = members;
      profiles = c.in_ok-profiles.ensures.renumbered clean limits commands t are still d ok (ap governs is) (record {
        policy = newer;
        governed = policy_governed None commands d newer is;
        sound = sound;
        are = c.deref.ensures.value ∙ members.customers.types_are ∙ types_anew Customer commands d newer is;
      });
    }

pub returns-in_err-profiles-clause-reads : goal.returns-in_err-profiles-clause-reads
returns-in_err-profiles-clause-reads g c = then_failed c.in_ok-members.ensures.reads c.in_err-profiles.ensures.reads c.from_residual-in_err-profiles.ensures
