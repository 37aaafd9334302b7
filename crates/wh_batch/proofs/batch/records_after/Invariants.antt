use Rattle.std.proofs.Common.{◌≡◌, []}
use Rattle.wh_batch.specs.Batch.{records_after}
use Rattle.wh_day.proofs.Loops.{with_front}
use Rattle.wh_batch.proofs.batch.records_after.Given as goal

abbrev pub invariant-loop-number : goal.invariant-loop-number
invariant-loop-number g l =
    let layout = g.L.RecordLayout.layout l.layout in
    with_front l.records.items (records_after layout l.keys l.number l.rows) ≡ records_after layout [] 1 l.fn.rows
