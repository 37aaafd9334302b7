use Rattle.wh_program.specs.Inputs.{up_to, policy_limit}
use Rattle.wh_program.proofs.WarehouseLemmas.{bad_answered, shut_or, answered_before}
use Rattle.std.proofs.Common.{◌≡◌, refl, inr}
use Rattle.std.proofs.lemmas.Result.{IfOk-weaker}
use Rattle.wh_program.specs.Warehouse.{LacksPolicy}
use Rattle.wh_program.proofs.visits.warehouse.init.Goals as goal

pub returns-in-Err-Fault-clause-made : goal.returns-in-Err-Fault-clause-made
returns-in-Err-Fault-clause-made g c = λ content stood.
    bad_answered (up_to policy_limit (g.H.Host.holds c.args.host.now)) (g.H.Host.refuses c.args.host.now) (g.H.Host.stores c.args.host.now c.args.file.now) content c.args.file.now c.args.policy.now
    c.in-Some.text.items (rw c.in-Some.is at c.in_ok-text.ensures) c.in-Err-Fault.fault c.bad_policy.result (rw (c.in-Err-Fault.field-0-is, c.deref.ensures.value) at c.in-Err-Fault.ensures) stood c.bad_policy.ensures

pub returns-in-Ok-clause-shut : goal.returns-in-Ok-clause-shut
returns-in-Ok-clause-shut g c = λ shut.
    shut_or (c.init_under.new.host ≡ c.args.host.now) c.args.file.now (LacksPolicy (up_to policy_limit (g.H.Host.holds c.args.host.now)) c.args.policy.now) c.init_under.result (c.init_under.ensures.shut shut)

pub returns-in-Err-Fault-clause-shut : goal.returns-in-Err-Fault-clause-shut
returns-in-Err-Fault-clause-shut g c = λ shut.
    let held = rw c.in-Some.is at c.in_ok-text.ensures in
    let bad = rw (c.in-Err-Fault.field-0-is, c.deref.ensures.value) at c.in-Err-Fault.ensures in
    answered_before (c.args.host.now ≡ c.args.host.now) c.args.file.now (LacksPolicy (up_to policy_limit (g.H.Host.holds c.args.host.now)) c.args.policy.now) c.bad_policy.result refl
    (IfOk-weaker c.bad_policy.result _ _ (λ a is. inr (c.in-Some.text.items, held, (c.in-Err-Fault.fault, bad, is))) c.bad_policy.ensures)
