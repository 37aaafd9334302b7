use Rattle.std.proofs.Common.{◌∙◌, sym}
use Rattle.wh_batch.proofs.EntryLemmas.{entries-done, entries-next, entries-bad}
use Rattle.wh_batch.proofs.entries.entries_from.Goals as goal

pub returns-then-not-branch : goal.returns-then-not-branch
returns-then-not-branch g c =
    let row = rw c.if-not-branch.true at c.in_ok-next.ensures.ok in
    sym (rw row.0 at c.loop-number.invariant) ∙ entries-done g.E.Entry.entry c.loop-number.entries.items c.loop-number.number

pub returns-in-None : goal.returns-in-None
returns-in-None g c =
    let row = rw c.if-not-branch.false at c.in_ok-next.ensures.ok in
    let none = rw (c.in-None.is, c.deref.ensures.value, c.in_ok-fields.ensures) at c.in_ok-entry.ensures in
    sym (rw row at c.loop-number.invariant) ∙ entries-bad g.E.Entry.entry c.loop-number.entries.items c.loop-number.number _ c.next.new.self (sym none)

pub loop-number-preserved : goal.loop-number-preserved
loop-number-preserved g c =
    let row = rw c.if-not-branch.false at c.in_ok-next.ensures.ok in
    let one = rw (c.in-Some.is, c.deref.ensures.value, c.in_ok-fields.ensures) at c.in_ok-entry.ensures in
    rw c.in_ok-push-in-Some.ensures.items (sym (entries-next g.E.Entry.entry c.loop-number.entries.items c.loop-number.number _ c.next.new.self c.in-Some.entry (sym one)) ∙ rw row at c.loop-number.invariant)
