use Rattle.std.proofs.Common.{◌++◌, subst}
use Rattle.csv.specs.Records.{Row, fields_of}
use Rattle.csv.specs.Writing.{default_writer, row_text}
use Rattle.wh_report.specs.CsvBuffer.{Gathers}
use Rattle.wh_report.proofs.Parts.{on_ok}
use Rattle.wh_report.proofs.csv_buffer.CsvBuffer.add_fields.Goals as goal

pub returns : goal.returns
returns c = on_ok c.add.result (λ added text gathered. subst (λ (fields : Row). Gathers c.add.new.self (text ++ row_text default_writer (fields_of fields))) c.into_byte_record.ensures (added text gathered)) c.add.ensures.added
