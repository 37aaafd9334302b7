use Rattle.std.proofs.Common.{◌≡◌, ◌∙◌, [], ap}
use Rattle.std.proofs.lemmas.Result.{IfOk-weaker}
use Rattle.wh_history.specs.Plan.{with_keys}
use Rattle.wh_history.proofs.Plans.{plan_by_maps}
use Rattle.wh_history.proofs.plan.plan_rows.Goals as goal

pub returns : goal.returns
returns c =
    let stored = c.args.stored.now in
    let after = c.args.after.now in
    let keys : c.add_keys-2.new.keys.keys ≡ with_keys stored (with_keys after []) = c.in_ok-add_keys-2.ensures ∙ ap (with_keys stored) (c.in_ok-add_keys.ensures ∙ ap (with_keys after) c.new-keys.ensures.empty) in
    IfOk-weaker c.edits_of.result _ _ (λ edits made. plan_by_maps stored after _ _ _ edits.items c.in_ok-old.ensures c.in_ok-new.ensures keys made) c.edits_of.ensures
