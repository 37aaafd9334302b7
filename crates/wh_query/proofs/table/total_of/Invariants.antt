use Rattle.std.proofs.Common.{◌≡◌}
use Rattle.wh_report.specs.Lines.{added}
use Rattle.wh_report.specs.Sums.{plus}
use Rattle.wh_query.specs.Words.{by_words}
use Rattle.wh_query.proofs.table.total_of.Given as goal

-- the total so far, with what is still there
abbrev pub invariant-loop-labels : goal.invariant-loop-labels
invariant-loop-labels l = plus l.total (added (by_words l.labels-iterator)) ≡ added l.lines
