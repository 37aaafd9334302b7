use Rattle.std.proofs.Common.{◌∙◌, sym, ap}
use Rattle.std.specs.Prelude.{is_some}
use Rattle.wh_history.specs.Accepted.{withdraws_line}
use Rattle.wh_model.proofs.SameLines.{void_stored}
use Rattle.wh_engine.proofs.admission.is_withdrawn.Goals as goal

pub returns-in-One-clause-withdrawn : goal.returns-in-One-clause-withdrawn
returns-in-One-clause-withdrawn g c clean limits commands t are rests same accepted =
    let line = c.args.line.now in
    sym (void_stored commands line ∙ ap (withdraws_line line.ticket line.line) (accepted.unwithdrawn (sym same ∙ c.in-One.is)))

pub returns-in_ok-row-in-Two-clause-withdrawn : goal.returns-in_ok-row-in-Two-clause-withdrawn
returns-in_ok-row-in-Two-clause-withdrawn g c clean limits commands t are rests same accepted = c.is_some.ensures ∙ ap is_some (c.in_ok-row-in-Two.ensures.rows clean t rests ∙ are.void c.args.line.now)
