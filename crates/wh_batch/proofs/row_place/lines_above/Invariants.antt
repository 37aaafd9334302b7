use Rattle.std.proofs.Common.{◌≡◌, ◌+◌, ◌≤◌, drop}
use Rattle.wh_batch.specs.Lines.{line_ends}
use Rattle.wh_batch.proofs.row_place.lines_above.Given as goal

abbrev pub invariant-loop-byte : goal.invariant-loop-byte
invariant-loop-byte l = (l.ended ≤ l.byte-index) × (l.ended + line_ends l.previous (drop l.byte-index l.before) ≡ line_ends 0 l.before)
