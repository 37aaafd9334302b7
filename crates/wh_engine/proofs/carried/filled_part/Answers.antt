use Rattle.std.proofs.Common.{◌≡◌, length, None, ap, ◌∙◌, subst, arith}
use Rattle.wh_policy.specs.Policy.{policy_types}
use Rattle.wh_policy.specs.declared.policy.Policy.{Policy}
use Rattle.wh_history.specs.Accepted.{types_in, policy_after, members}
use Rattle.wh_plan.specs.declared.reading.LastMember.{LastMember}
use Rattle.wh_admission.proofs.Admitted.{admitted_sound}
use Rattle.wh_records.specs.Carried.{carried_of}
use Rattle.wh_records.specs.Filled.{IsFilled}
use Rattle.wh_records.proofs.ReadMembers.{all_between}
use Rattle.wh_engine.proofs.CarriedMembers.{types_now}
use Rattle.wh_engine.proofs.carried.filled_part.Goals as goal
use Rattle.wh_sql.proofs.Sparing.{tables_again}
use Rattle.wh_sql.proofs.InTurn.{then_failed}

pub returns-clause-filled : goal.returns-clause-filled
returns-clause-filled g c clean limits commands t are at admitted same =
    let dim = c.args.dim in
    let ok = admitted_sound limits commands admitted in
    let types : c.in_ok-types.types.items ≡ types_in c.args.dim commands =
    c.in_ok-types.ensures ∙ ap (λ (p : Policy). policy_types p c.args.dim) same ∙ types_now c.args.dim (policy_after None commands) ok.governed in
    let before = c.in_ok-fill.ensures.reads.spares.clean clean in
    let last = c.in_ok-last.ensures.last before limits commands t are at in
    let still = tables_again c.in_ok-last.ensures.reads.spares before t at tt in
    let count : c.in_ok-last.last.durable ≡ length (members c.args.dim commands) = ap (λ (l : LastMember). l.durable) last in
    let filled = c.in_ok-fill.ensures.filled clean limits commands t are still admitted types c.attributes.result.now c.args.place c.in_ok-filling.ensures in
    let all = subst (λ rs. IsFilled c.attributes.result.now c.args.place rs c.fill.new.filling) (all_between dim commands c.args.kind c.in_ok-last.last.durable (omega (arith, count))) filled in
    subst (λ attributes. IsFilled attributes c.args.place (carried_of c.args.kind c.args.dim commands) c.fill.new.filling) c.attributes.ensures all

pub returns-in_err-fill-clause-reads : goal.returns-in_err-fill-clause-reads
returns-in_err-fill-clause-reads g c = then_failed c.in_ok-last.ensures.reads c.in_err-fill.ensures.reads c.from_residual-in_err-fill.ensures
