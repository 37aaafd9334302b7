use Rattle.std.proofs.Common.{take}
use Rattle.wh_report.specs.Dump.{table_text}
use Rattle.wh_report.specs.CsvBuffer.{Gathers}
use Rattle.wh_report.proofs.table_texts.table_text.Given as goal

-- the text of the rows so far
abbrev pub invariant-loop-row : goal.invariant-loop-row
invariant-loop-row g l = Gathers l.text (table_text g.T.StoredTable.layout (take l.row-index l.rows))
