use Rattle.std.proofs.Common.{inr, ap, ◌∙◌}
use Rattle.std.proofs.KnownBytes.{Appends-trans}
use Rattle.wh_program.specs.Answer.{status_code}
use Rattle.wh_program.proofs.OutputLemmas.{left_by_failure}
use Rattle.wh_program.proofs.output.print_usage.Goals as goal

pub returns : goal.returns
returns g c =
    let cut = left_by_failure c.write_whole.result _ c.write_whole.ensures.beginning c.if-is_ok.ensures.value in
    let said = c.write_failed.ensures.shown in
    inr (cut.0, record { shown = said.0; cut = cut.1; status = c.code.ensures ∙ ap status_code c.write_failed.ensures.status; text = Appends-trans _ _ _ _ _ cut.2 said.1 })
