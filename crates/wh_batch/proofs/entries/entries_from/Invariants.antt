use Rattle.std.proofs.Common.{◌≡◌}
use Rattle.wh_batch.specs.Entries.{entries_from}
use Rattle.wh_day.proofs.Loops.{with_front}
use Rattle.wh_batch.proofs.entries.entries_from.Given as goal

abbrev pub invariant-loop-number : goal.invariant-loop-number
invariant-loop-number g l = with_front l.entries.items (entries_from g.E.Entry.entry l.number l.rows) ≡ entries_from g.E.Entry.entry 1 l.fn.rows
