use Rattle.std.proofs.Common.{sym, ◌∙◌}
use Rattle.wh_policy.proofs.NameLemmas.{slot-here, slot-next, slot-none}
use Rattle.wh_policy.proofs.names.slot_from.Goals as goal

pub returns-then-eq : goal.returns-then-eq
returns-then-eq c =
    let test = sym c.eq.ensures ∙ c.if-eq.true in
    rw c.number.ensures (sym (slot-here c.args.attributes.now c.loop-i.i c.index-attributes-i.result c.args.name.now c.loop-i-test.true c.index-attributes-i.is (rw c.as_str.ensures at test)) ∙ c.loop-i.invariant)

pub loop-i-preserved : goal.loop-i-preserved
loop-i-preserved c =
    let test = sym c.eq.ensures ∙ c.if-eq.false in
    sym (slot-next c.args.attributes.now c.loop-i.i c.index-attributes-i.result c.args.name.now c.loop-i-test.true c.index-attributes-i.is (rw c.as_str.ensures at test)) ∙ c.loop-i.invariant

pub returns : goal.returns
returns c = sym (slot-none c.args.attributes.now c.loop-i.i c.args.name.now c.loop-i-test.false) ∙ c.loop-i.invariant
