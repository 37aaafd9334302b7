use Rattle.std.proofs.Common.{◌≡◌, ◌+◌, ◌++◌, ◌∷◌, [], List, suc, map, length, sym, ◌∙◌, ap, subst, arith}
use Rattle.std.specs.List.{AllByRecursion}
use Rattle.wh_policy.specs.Policy.{policy_types}
use Rattle.wh_policy.specs.declared.attribute.AttributeType.{AttributeType}
use Rattle.wh_policy.specs.declared.attribute.Dim.TheVariants.{Customer}
use Rattle.wh_history.specs.Accepted.{profiles_of}
use Rattle.wh_history.specs.Known.{number_in, numbered_from, KnowsEnough}
use Rattle.wh_history.specs.Laws.{governs}
use Rattle.wh_plan.specs.Profiles.{with_combinations, told_of, said_by, number_kept, learned, unknown, row_of_profile}
use Rattle.wh_plan.proofs.PlanProfiles.{touched_known, touched_fresh, base_few}
use Rattle.wh_model.proofs.SmallNumbers.{profiles_few}
use Rattle.wh_plan.proofs.profiles.learned_of_customers.Goals as goal
use Rattle.wh_sql.proofs.Sparing.{tables_again}
use Rattle.wh_sql.proofs.InTurn.{then_failed}

pub returns-clause-learned : goal.returns-clause-learned
returns-clause-learned g c clean limits commands t are at sent accepted is typed =
    let policy = typed.policy in
    let records = c.args.batch.now.records.now in
    let members = c.args.touched.now in
    let kinds = policy_types policy Customer in
    let kept = number_kept t.profile in
    let before = c.in_ok-given.ensures.reads.spares.clean clean in
    let told = c.in_ok-brought.ensures ∙ ap (λ ks. with_combinations [] (told_of ks records)) typed.are in
    let all = c.deref.ensures.value ∙ c.in_ok-all.ensures ∙ ap (λ ks. with_combinations (with_combinations [] (told_of ks records)) (said_by ks members)) typed.are in
    let looked = c.in_ok-known.ensures.known before t at ∙ ap (learned kept) all in
    let still = tables_again c.in_ok-known.ensures.reads.spares before t at tt in
    let given = c.in_ok-given.ensures.given clean limits commands t are still (base_few commands sent (ap governs is) (profiles_few limits (commands ++ sent ∷ []) accepted)) in
    let next : c.in_ok-given.given + 1 ≡ suc (suc (length (profiles_of commands))) = omega arith in
    let combinations = c.deref-3.ensures.value ∙ c.in_ok-combinations.ensures ∙ ap (λ ks. unknown ks c.deref-2.result.now) looked ∙ ap (unknown (learned kept (with_combinations (with_combinations [] (told_of kinds records)) (said_by kinds members)))) (c.deref-2.ensures.value ∙ told) in
    let numbered = ap (λ cs. numbered_from (c.in_ok-given.given + 1) cs) combinations ∙ ap (λ n. numbered_from n (unknown (learned kept (with_combinations (with_combinations [] (told_of kinds records)) (said_by kinds members))) (with_combinations [] (told_of kinds records)))) next in
    record {
      enough = subst (λ (ks : List AttributeType). AllByRecursion (KnowsEnough Customer ks (number_in c.add_fresh.new.known) (profiles_of (commands ++ sent ∷ []))) members) (sym typed.are)
          (touched_known limits commands t are policy typed.governed typed.sound sent records is members c.add_fresh.new.known
          (c.in_ok-fresh.ensures.1 ∙ ap (λ ks. ks ++ numbered_from (c.in_ok-given.given + 1) c.deref-3.result.now) looked ∙ ap (λ ks. learned kept (with_combinations (with_combinations [] (told_of kinds records)) (said_by kinds members)) ++ ks) numbered));
      fresh = c.in_ok-fresh.ensures.0 ∙ ap (map row_of_profile) numbered ∙ touched_fresh limits commands t are policy typed.governed typed.sound sent records is members;
    }

pub returns-in_err-given-clause-reads : goal.returns-in_err-given-clause-reads
returns-in_err-given-clause-reads g c = then_failed c.in_ok-known.ensures.reads c.in_err-given.ensures.reads c.from_residual-in_err-given.ensures
