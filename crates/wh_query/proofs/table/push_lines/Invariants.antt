use Rattle.std.proofs.Common.{◌≡◌, ◌++◌, string_bytes}
use Rattle.wh_report.specs.Text.{lines_text}
use Rattle.wh_query.specs.Table.{side_by_side}
use Rattle.wh_query.specs.Words.{by_words}
use Rattle.wh_query.proofs.table.push_lines.Given as goal

-- what is written, before what is still there
abbrev pub invariant-loop-labels : goal.invariant-loop-labels
invariant-loop-labels l = string_bytes l.text ++ lines_text (side_by_side (by_words l.labels-iterator)) ≡ string_bytes l.fn.text ++ lines_text (side_by_side l.lines)
