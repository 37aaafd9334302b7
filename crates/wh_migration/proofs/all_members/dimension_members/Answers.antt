use Rattle.std.proofs.Common.{refl, sym, ◌∙◌, ap}
use Rattle.wh_history.specs.Laws.{governs}
use Rattle.wh_migration.proofs.AllMembers.{members_anew, types_anew}
use Rattle.wh_plan.proofs.PlanPremises.{values_before}
use Rattle.wh_migration.proofs.all_members.dimension_members.Goals as goal

pub returns-clause-read : goal.returns-clause-read
returns-clause-read g c clean limits commands t are at d ok is = record {
  dim_is = refl;
  types_are = c.in_ok-types.ensures ∙ sym (types_anew c.args.dim commands d c.args.newer.now is);
  members_are = c.in_ok-all_members.ensures.members clean limits commands t are at (values_before limits commands d ok) ∙ sym (members_anew c.args.dim commands d (ap governs is));
}
