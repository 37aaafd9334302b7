use Rattle.std.proofs.Common.{◌++◌, subst}
use Rattle.csv.specs.Writing.{default_writer, row_text}
use Rattle.wh_report.specs.CsvBuffer.{Gathers}
use Rattle.wh_report.proofs.Parts.{on_ok}
use Rattle.wh_report.proofs.csv_buffer.CsvBuffer.add_row.Goals as goal

pub returns-clause-added : goal.returns-clause-added
returns-clause-added g c = on_ok c.add.result (λ added text gathered. subst (λ fields. Gathers c.add.new.self (text ++ row_text default_writer fields)) c.in_ok-put_row.ensures (added text gathered)) c.add.ensures.added
