use Rattle.std.proofs.Common.{◌∙◌, sym, ap, not}
use Rattle.std.specs.Prelude.{is_some}
use Rattle.wh_model.specs.Defined.{fact_at}
use Rattle.wh_model.proofs.Formatted.{facts_in_are}
use Rattle.wh_model.proofs.SameLines.{fact_stored}
use Rattle.wh_engine.proofs.admission.is_line_missing.Goals as goal
use Rattle.wh_admission.proofs.StaysAccepted.{turned_twice}

pub returns-clause-missing : goal.returns-clause-missing
returns-clause-missing g c clean limits commands t are rests same =
    let void = c.args.void.now in
    let ticket = c.in_ok-new.ensures ∙ c.as_str.ensures in
    let stored = ap is_some (c.in_ok-fact.ensures.rows clean t rests ∙ facts_in_are limits commands t are c.args.format same _)
    ∙ ap (λ text. is_some (fact_at commands (record { ticket = text; line = void.line }))) ticket
    ∙ fact_stored commands (record { ticket = void.ticket; line = void.line }) in
    sym (turned_twice c.is_none.result) ∙ ap not (sym c.is_none.ensures ∙ stored)
