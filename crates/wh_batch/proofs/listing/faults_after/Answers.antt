use Rattle.std.proofs.Common.{◌≤◌, map, arith}
use Rattle.wh_batch.proofs.FaultLemmas.{faults-done, faults-next, faults-full}
use Rattle.wh_batch.proofs.listing.faults_after.Goals as goal

pub returns-then-not-branch : goal.returns-then-not-branch
returns-then-not-branch g c =
    let row = rw c.if-not-branch.true at c.in_ok-next.ensures.ok in
    let done = map (λ l. l.fault) c.loop-number.all.items in
    faults-done (g.L.RecordLayout.layout c.args.layout.now) done _ c.loop-number.keys c.loop-number.number (rw row.0 at c.loop-number.invariant)

pub loop-number-preserved : goal.loop-number-preserved
loop-number-preserved g c =
    let row = rw c.if-not-branch.false at c.in_ok-next.ensures.ok in
    let few : c.loop-number.number ≤ 5000 = omega arith in
    let done = map (λ l. l.fault) c.loop-number.all.items in
    let before = rw row at c.loop-number.invariant in
    rw (c.in_ok-add.ensures, c.in_ok-fault.ensures.fault, c.requires)
    (faults-next (g.L.RecordLayout.layout c.args.layout.now) done _ c.loop-number.keys c.fault_of_row.new.keys c.loop-number.number _ c.next.new.self few c.in_ok-fault.ensures.counts before)

pub returns-then-not-branch-2 : goal.returns-then-not-branch-2
returns-then-not-branch-2 g c =
    let row = rw c.if-not-branch-2.true at c.in_ok-next-2.ensures.ok in
    let done = map (λ l. l.fault) c.loop-number.all.items in
    faults-done (g.L.RecordLayout.layout c.args.layout.now) done _ c.loop-number.keys c.loop-number.number (rw row.0 at c.loop-number.invariant)

pub returns : goal.returns
returns g c =
    let row = rw c.if-not-branch-2.false at c.in_ok-next-2.ensures.ok in
    let done = map (λ l. l.fault) c.loop-number.all.items in
    let before = rw row at c.loop-number.invariant in
    rw (c.in_ok-add-2.ensures, c.whole-fault.ensures)
    (faults-full (g.L.RecordLayout.layout c.args.layout.now) done _ c.loop-number.keys c.loop-number.number _ c.next-2.new.self (omega arith) before)
