use Rattle.std.proofs.Common.{◌≤◌, ◌-◌, length, take}
use Rattle.std.specs.Io.KnownBytes.{Appends}
use Rattle.wh_report.proofs.output.write_whole.Given as goal

-- what was written is a beginning of the text
abbrev pub invariant-writes : goal.invariant-writes
invariant-writes g l = record {
  in_range : l.written ≤ length l.text;
  appended : Appends (g.W.Write.contents l.initial.out) (g.W.Write.contents l.out) (take l.written l.text);
}

abbrev pub decreases-writes : goal.decreases-writes
decreases-writes g l = length l.text - l.written
