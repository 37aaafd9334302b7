use Rattle.std.proofs.Common.{◌≡◌, Some, sym, ◌∙◌, ap}
use Rattle.std.specs.Prelude.{unwrap_or}
use Rattle.std.specs.Option.{option_copied}
use Rattle.wh_history.specs.Touched.{nothing_stored}
use Rattle.wh_history.specs.declared.member.Member.{Member}
use Rattle.wh_plan.specs.NewRows.{named}
use Rattle.wh_plan.proofs.PlanTouched.{named_so}
use Rattle.wh_plan.proofs.records.touched.StoredMembersMemberSource.member.Goals as goal

there : (c : goal.In_ok-copy-in-Some) → named c.args.self.now.list.now c.args.natural.now ≡ Some c.in-Some.member.now
there c =
    let list = c.args.self.now.list.now in
    sym (ap option_copied c.copied.ensures ∙ ap option_copied c.get.ensures.value ∙ c.args.self.now.found c.as_str.result.now ∙ ap (named list) c.as_str.ensures) ∙ ap option_copied c.in-Some.is

pub returns-in_ok-copy-in-Some-clause-member : goal.returns-in_ok-copy-in-Some-clause-member
returns-in_ok-copy-in-Some-clause-member c =
    c.in_ok-copy-in-Some.ensures ∙ sym (ap (λ o. unwrap_or o (nothing_stored c.args.natural.now)) (there c))

pub returns-in_ok-copy-in-Some-clause-natural : goal.returns-in_ok-copy-in-Some-clause-natural
returns-in_ok-copy-in-Some-clause-natural c =
    ap (λ (m : Member). m.natural) c.in_ok-copy-in-Some.ensures ∙ named_so c.args.self.now.list.now c.args.natural.now c.in-Some.member.now (there c)
