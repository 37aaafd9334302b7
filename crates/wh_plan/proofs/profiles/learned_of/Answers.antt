use Rattle.std.proofs.Common.{◌++◌, ◌∷◌, [], List, sym, ◌∙◌, subst}
use Rattle.std.specs.List.{AllByRecursion}
use Rattle.wh_policy.specs.declared.attribute.AttributeType.{AttributeType}
use Rattle.wh_history.specs.Accepted.{profiles_of}
use Rattle.wh_history.specs.Known.{number_in, KnowsEnough}
use Rattle.wh_plan.proofs.PlanProfiles.{others_known, others_bring_none}
use Rattle.wh_plan.proofs.profiles.learned_of.Goals as goal
use Rattle.wh_sql.proofs.Sparing.{spares_itself}

pub returns-in_default : goal.returns-in_default
returns-in_default g c = record {
  reads = record { spares = spares_itself; sound = λ clean t at. tt; named = λ clean stored at. tt };
  learned = λ clean limits commands t are at sent accepted is typed.
      let dim = c.args.batch.now.dim in
      let after = commands ++ sent ∷ [] in
      record {
        enough = subst (λ (ks : List AttributeType). AllByRecursion (KnowsEnough dim ks (number_in c.new.result) (profiles_of after)) c.args.touched.now) (sym typed.are)
            (others_known dim typed.policy typed.sound c.in_default.not-Customer (number_in c.new.result) (profiles_of after) c.args.touched.now);
        fresh = c.new-in_default.ensures.items ∙ others_bring_none commands sent dim c.args.batch.now.records.now is c.in_default.not-Customer;
      };
}
