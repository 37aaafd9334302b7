use Rattle.std.proofs.Common.{ℕ, ◌<◌, List, length, take, subst}
use Rattle.std.proofs.lemmas.Result.{err_from_is_err_and}
use Rattle.std.specs.Io.KnownBytes.{Appends}
use Rattle.wh_report.proofs.Outputs.{cut_off}
use Rattle.wh_report.proofs.sales_report.write_worked.Goals as goal

pub returns-in_err-write_whole-clause-out : goal.returns-in_err-write_whole-clause-out
returns-in_err-write_whole-clause-out g c =
    let p = err_from_is_err_and c.from_residual-in_err-write_whole.result c.from_residual-in_err-write_whole.ensures.1 in
    let old = g.W.Write.contents c.args.out.now in
    let new = g.W.Write.contents c.write_whole.new.out in
    rw (c.in_ok-text.was, p.1, p.2) (cut_off _ old new (subst (λ (t : List ℕ). (kept : ℕ) × (kept < length t) × Appends old new (take kept t)) c.deref.ensures.value c.in_err-write_whole.ensures.beginning))
