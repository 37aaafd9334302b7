use Rattle.std.proofs.Common.{◌≡◌, ◌<◌, sym, ◌∙◌, ap, arith}
use Rattle.wh_history.specs.Accepted.{durable_key}
use Rattle.wh_history.specs.Plan.{row_of}
use Rattle.wh_history.specs.declared.member.Member.{Member}
use Rattle.wh_plan.proofs.PlanRows.{left_with, left_without}
use Rattle.wh_plan.proofs.records.record_plan.rows_of_member.Goals as goal

pub returns-then-member-eq0-clause-rows : goal.returns-then-member-eq0-clause-rows
returns-then-member-eq0-clause-rows g c clean limits commands t are at days natural is key =
    let none : durable_key c.args.dim commands natural ≡ 0 = sym (ap (λ (m : Member). m.durable) is) ∙ c.if-member-eq0.true in
    ap (row_of key) (c.new.ensures.items ∙ sym (left_without c.args.dim commands natural none))

pub returns-clause-rows : goal.returns-clause-rows
returns-clause-rows g c clean limits commands t are at days natural is key =
    let durable = ap (λ (m : Member). m.durable) is in
    let some = c.if-member-eq0.false in
    let given : 0 < c.args.member.now.durable = omega arith in
    let there : 0 < durable_key c.args.dim commands natural = omega arith in
    c.in_ok-stored_rows.ensures.member clean limits commands t are at days natural given durable key ∙ ap (row_of key) (sym (left_with c.args.dim commands natural there))
