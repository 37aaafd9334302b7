use Rattle.std.proofs.Common.{◌∙◌, None, ap}
use Rattle.std.proofs.lemmas.Result.{on_ok_weaker}
use Rattle.wh_history.specs.Tables.{no_card_row}
use Rattle.wh_sql.specs.Making.{made_with}
use Rattle.wh_plan.specs.FirstRows.{first_profiles}
use Rattle.wh_engine.proofs.MadeFirst.{AreFirst, are_first}
use Rattle.wh_engine.proofs.init.write_init.Given.{Over}
use Rattle.wh_engine.proofs.init.write_init.Goals as goal

first : (g : Over) (c : goal.After-drop-types-2 g) → AreFirst c.args.limits c.args.policy.now c.args.bytes.now c.in_ok-command.command c.in_ok-customer.customer c.deref-3.result.now c.deref-4.result.now
first g c =
    are_first c.args.limits c.args.policy.now c.args.bytes.now c.in_ok-command.command c.in_ok-customer.customer c.deref-3.result.now c.deref-4.result.now c.in_ok-command.ensures
    (c.in_ok-customer.ensures ∙ ap no_card_row (c.deref.ensures.value ∙ c.in_ok-types.ensures))
    (c.deref-3.ensures.value ∙ c.in_ok-profiles.ensures ∙ ap first_profiles (c.deref-2.ensures.value ∙ c.in_ok-types.ensures))
    (c.deref-4.ensures.value ∙ c.in_ok-calendar.ensures)

pub returns-clause-made : goal.returns-clause-made
returns-clause-made g c clean at good =
    let start = c.in_ok-init.ensures.made (c.put_first.ensures.writes.clean clean) at in
    on_ok_weaker c.put_first.result (λ writing. (_, (first g c).are, writing)) (c.put_first.ensures.put clean None (made_with c.args.limits) start ((first g c).may good))

pub returns-clause-left : goal.returns-clause-left
returns-clause-left g c clean at good =
    let start = c.in_ok-init.ensures.made (c.put_first.ensures.writes.clean clean) at in
    c.put_first.ensures.writes.left clean None (made_with c.args.limits) start ((first g c).may good)
