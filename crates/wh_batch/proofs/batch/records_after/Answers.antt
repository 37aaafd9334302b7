use Rattle.std.proofs.Common.{◌≤◌, ◌∙◌, sym, arith}
use Rattle.wh_batch.proofs.BatchLemmas.{records-done, records-next, records-fault, records-full}
use Rattle.wh_batch.proofs.batch.records_after.Goals as goal

pub returns-then-not-branch : goal.returns-then-not-branch
returns-then-not-branch g c =
    let row = rw c.if-not-branch.true at c.in_ok-next.ensures.ok in
    sym (rw row.0 at c.loop-number.invariant) ∙ records-done (g.L.RecordLayout.layout c.args.layout.now) c.loop-number.records.items c.loop-number.keys c.loop-number.number

pub returns-in-Err-Fault : goal.returns-in-Err-Fault
returns-in-Err-Fault g c =
    let row = rw c.if-not-branch.false at c.in_ok-next.ensures.ok in
    let few : c.loop-number.number ≤ 5000 = omega arith in
    let failed = rw c.in-Err-Fault.field-0-is at c.in-Err-Fault.ensures.reads in
    rw (c.fault.ensures, c.in-Err-Fault.kind-is, ← c.loop-number.invariant, row) (records-fault (g.L.RecordLayout.layout c.args.layout.now) c.loop-number.records.items c.loop-number.keys c.loop-number.number _ _ c.in-Err-Fault.kind few failed)

pub loop-number-preserved : goal.loop-number-preserved
loop-number-preserved g c =
    let row = rw c.if-not-branch.false at c.in_ok-next.ensures.ok in
    let few : c.loop-number.number ≤ 5000 = omega arith in
    let step = records-next (g.L.RecordLayout.layout c.args.layout.now) c.loop-number.records.items c.loop-number.keys c.loop-number.number _ c.next.new.self c.in-Ok.record few c.in-Ok.ensures.reads in
    rw (c.in_ok-push-in-Ok.ensures.items, c.in-Ok.ensures.keeps) (sym step ∙ rw row at c.loop-number.invariant)

pub returns-then-branch : goal.returns-then-branch
returns-then-branch g c =
    let row = rw c.if-branch.true at c.in_ok-next-2.ensures.ok in
    rw (c.fault-then-branch.ensures, ← c.loop-number.invariant, row) (records-full (g.L.RecordLayout.layout c.args.layout.now) c.loop-number.records.items c.loop-number.keys c.loop-number.number _ _ (omega arith))

pub returns : goal.returns
returns g c =
    let row = rw c.if-branch.false at c.in_ok-next-2.ensures.ok in
    sym (rw row.0 at c.loop-number.invariant) ∙ records-done (g.L.RecordLayout.layout c.args.layout.now) c.loop-number.records.items c.loop-number.keys c.loop-number.number
