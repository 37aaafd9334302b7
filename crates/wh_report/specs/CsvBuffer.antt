-- The lines of a part of a table, gathered to go out together.
use Rattle.std.specs.Prelude.{◌≡◌, ℕ, List, ◌++◌, Option, Some, Result, Ok, Err, false}
use Rattle.std.specs.Io.KnownBytes.{Appends}
use Rattle.std.specs.declared.alloc.Global.{Global}
use Rattle.std.specs.declared.vec.Vec.{Vec}
use Rattle.csv.specs.Writing.{default_writer, text_written, writer_setup, fields_written, has_written}
use Rattle.csv.specs.declared.writer.Writer.{Writer}
use Rattle.wh_report.specs.Output.{IsOutBut, IsCut}
use Rattle.wh_report.specs.declared.output.ReportFault.{ReportFault}
use Rattle.wh_report.specs.declared.output.ReportFault.TheVariants.{Write, Warehouse, Unwritten, Inconsistent}
use Rattle.wh_report.specs.declared.csv_buffer.CsvBuffer.{CsvBuffer}

-- lines of this text were made, and no piece of another
pub record AreMade (made : Writer (Vec ℕ Global)) (text : List ℕ) : Type 0 where
  pub held : text_written (λ vec. Some vec.items) made ≡ Some text
  pub none_begun : fields_written made ≡ 0
  pub none_shown : has_written made ≡ false
  pub as_csv : writer_setup made ≡ default_writer

-- they are gathered, and the next can be made
pub record AreGathered (writer : Writer (Vec ℕ Global)) (kept text : List ℕ) : Type 0 where
  pub lines : kept ≡ text
  pub made : AreMade writer text

abbrev pub Gathers : CsvBuffer → List ℕ → Type 0
Gathers part text = AreGathered part.made part.lines.items text

-- Of these lines and a further one all went out but what is gathered; or the writer failed; or memory ran out for that one, and those before went out.
abbrev pub IsOutOrGathered : Result (Unit {0}) ReportFault → CsvBuffer → Option (List ℕ) → Option (List ℕ) → List ℕ → List ℕ → Type 0
IsOutOrGathered (Ok done) part old new lines line = (rest : List ℕ) × Gathers part rest × IsOutBut rest old new (lines ++ line)
IsOutOrGathered (Err Write) part old new lines line = IsCut old new (lines ++ line)
IsOutOrGathered (Err (Unwritten fault)) part old new lines line = IsCut old new lines
IsOutOrGathered (Err (Warehouse fault)) part old new lines line = Appends old new lines
IsOutOrGathered (Err (Inconsistent table)) part old new lines line = ⊥
