use Rattle.std.proofs.Common.{ap, sym, subst, ◌∙◌, IfOk}
use Rattle.wh_history.specs.Accepted.{types_in}
use Rattle.wh_history.specs.Plan.{IsRowPlan}
use Rattle.wh_history.specs.Tables.{dimension_row}
use Rattle.wh_migration.specs.Migrated.{all_members}
use Rattle.wh_migration.proofs.migrated.dimension_edits.Goals as goal

pub returns-clause-edits : goal.returns-clause-edits
returns-clause-edits g c clean limits commands t are at dim after ends member known =
    subst (λ d. IfOk c.migrated_edits.result (λ edits. IsRowPlan (dimension_row commands d) (dimension_row after d) edits.items)) member.dim_is
    (c.migrated_edits.ensures.edits clean limits commands t are at after ends (record {
      types_are = c.deref.ensures.value ∙ member.types_are ∙ ap (λ d. types_in d after) (sym member.dim_is);
      profiles_are = known;
      members_are = c.deref-2.ensures.value ∙ member.members_are ∙ ap (λ d. all_members d after) (sym member.dim_is);
    }))
