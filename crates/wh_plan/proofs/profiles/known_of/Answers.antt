use Rattle.std.proofs.Common.{◌≡◌, [], List, ap, sym, ◌∙◌, subst}
use Rattle.std.specs.List.{AllByRecursion}
use Rattle.std.proofs.lemmas.Result.{IfOk-weaker}
use Rattle.wh_policy.specs.Policy.{policy_types}
use Rattle.wh_policy.specs.declared.attribute.AttributeType.{AttributeType}
use Rattle.wh_policy.specs.declared.attribute.Dim.{Dim}
use Rattle.wh_policy.specs.declared.attribute.Dim.TheVariants.{Customer}
use Rattle.wh_history.specs.Accepted.{profiles_of}
use Rattle.wh_history.specs.Known.{number_in, KnowsEnough}
use Rattle.wh_plan.specs.Profiles.{with_combinations, said_by, number_kept, learned}
use Rattle.wh_plan.proofs.PlanProfiles.{customers_known, others_known}
use Rattle.wh_plan.proofs.profiles.known_of.Goals as goal
use Rattle.wh_sql.proofs.Sparing.{spares_itself}

pub returns-in-Customer-clause-enough : goal.returns-in-Customer-clause-enough
returns-in-Customer-clause-enough g c clean limits commands t are at typed =
    let members = c.args.members.now in
    let kinds = c.args.types.now in
    let are_kinds : kinds ≡ policy_types typed.policy Customer = typed.are ∙ ap (policy_types typed.policy) c.in-Customer.is in
    IfOk-weaker c.known_of_customers.result _ _
    (λ known made.
    subst (λ (d : Dim). AllByRecursion (KnowsEnough d kinds (number_in known) (profiles_of commands)) members) (sym c.in-Customer.is)
    (subst (λ (ks : List AttributeType). AllByRecursion (KnowsEnough Customer ks (number_in known) (profiles_of commands)) members) (sym are_kinds)
    (customers_known limits commands t are typed.policy typed.governed typed.sound members known (made ∙ ap (λ ks. learned (number_kept t.profile) (with_combinations [] (said_by ks members))) are_kinds))))
    (c.known_of_customers.ensures.known clean t at)

pub returns-in_default : goal.returns-in_default
returns-in_default g c = record {
  reads = record { spares = spares_itself; sound = λ clean t at. tt; named = λ clean stored at. tt };
  enough = λ clean limits commands t are at typed. subst (λ (ks : List AttributeType). AllByRecursion (KnowsEnough c.args.dim ks (number_in c.new.result) (profiles_of commands)) c.args.members.now) (sym typed.are)
      (others_known c.args.dim typed.policy typed.sound c.in_default.not-Customer (number_in c.new.result) (profiles_of commands) c.args.members.now);
}
