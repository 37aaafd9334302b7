use Rattle.std.proofs.Common.{◌≡◌, ◌∙◌}
use Rattle.wh_policy.specs.Policy.{policy_types}
use Rattle.wh_history.proofs.Trials.{made_is}
use Rattle.wh_history.proofs.trial.trial_table.Goals as goal

pub returns : goal.returns
returns c =
    let policy = c.args.policy.now in
    let dim = c.args.dim in
    let kinds = policy_types policy dim in
    let first : c.deref.result.now ≡ kinds = c.deref.ensures.value ∙ c.in_ok-types.ensures in
    let second : c.deref-2.result.now ≡ kinds = c.deref-2.ensures.value ∙ c.in_ok-types.ensures in
    let third : c.deref-3.result.now ≡ kinds = c.deref-3.ensures.value ∙ c.in_ok-types.ensures in
    let profiles = rw first at c.in_ok-profiles.ensures in
    let of_members = rw (second, c.as_slice.ensures) at c.in_ok-rows.ensures in
    let front = rw third at c.in_ok-table.ensures in
    let table = rw (c.deref-4.ensures.value, c.owners.ensures) at c.in_ok-pick.ensures in
    made_is policy dim c.args.records.now c.in_ok-members.members c.in_ok-profiles.profiles c.in_ok-rows.rows.items c.in_ok-table.table.items c.pick.new.table.items c.in_ok-members.ensures profiles of_members front table
