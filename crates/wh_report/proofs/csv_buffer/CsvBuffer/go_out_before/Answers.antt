use Rattle.std.proofs.Common.{ℕ, ◌<◌, List, refl, length, take, subst}
use Rattle.std.specs.Io.KnownBytes.{Appends}
use Rattle.wh_report.proofs.Outputs.{cut_off}
use Rattle.wh_report.proofs.csv_buffer.CsvBuffer.go_out_before.Goals as goal

pub returns-in-Ok : goal.returns-in-Ok
returns-in-Ok g c = (refl, subst (Appends _ _) c.deref.ensures.value c.in-Ok.ensures.whole)

pub returns-in-Err : goal.returns-in-Err
returns-in-Err g c =
    let old = g.W.Write.contents c.args.out.now in
    let new = g.W.Write.contents c.write_whole.new.out in
    (refl, cut_off _ old new (subst (λ (t : List ℕ). (kept : ℕ) × (kept < length t) × Appends old new (take kept t)) c.deref.ensures.value c.in-Err.ensures.beginning))
