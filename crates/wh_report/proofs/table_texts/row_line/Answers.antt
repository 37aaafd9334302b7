use Rattle.std.proofs.Common.{[]}
use Rattle.wh_report.proofs.table_texts.row_line.Goals as goal

pub returns : goal.returns
returns g c = c.into_lines.ensures _ (c.in_ok-add_row.ensures.added [] c.new-part.ensures)
