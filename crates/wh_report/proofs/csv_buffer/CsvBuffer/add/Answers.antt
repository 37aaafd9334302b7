use Rattle.std.proofs.Common.{◌≡◌, ◌∙◌, ◌++◌, ℕ, ap, sym}
use Rattle.std.specs.declared.alloc.Global.{Global}
use Rattle.std.specs.declared.vec.Vec.{Vec}
use Rattle.csv.specs.Records.{fields_of}
use Rattle.csv.specs.Writing.{default_writer, row_text}
use Rattle.wh_report.proofs.Parts.{on_ok}
use Rattle.wh_report.proofs.csv_buffer.CsvBuffer.add.Goals as goal

pub returns-clause-added : goal.returns-clause-added
returns-clause-added c =
    on_ok c.catch_up.result (λ caught text gathered.
    let row = row_text default_writer (fields_of c.args.self.now.fields) in
    let done = c.in_ok-flush_lines.ensures (text ++ row) (c.in_ok-gather_line.ensures text gathered.made) in
    let all : c.deref.result.now ≡ text ++ row = c.deref.ensures.value ∙ ap (λ (v : Vec ℕ Global). v.items) c.get_ref.ensures ∙ done.1 in
    record { lines = caught row (all ∙ ap (λ t. t ++ row) (sym gathered.lines)) ∙ all; made = done.0 })
    c.catch_up.ensures.caught
