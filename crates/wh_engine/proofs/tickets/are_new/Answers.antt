use Rattle.std.proofs.Common.{◌≡◌, true, false, subst₂}
use Rattle.std.specs.List.{list_any}
use Rattle.std.proofs.lemmas.Result.{IfOk-weaker}
use Rattle.wh_history.specs.Accepted.{sold}
use Rattle.wh_policy.specs.declared.record.SaleRecord.{SaleRecord}
use Rattle.wh_model.specs.Sound.{same_line}
use Rattle.wh_engine.specs.Tickets.{is_between}
use Rattle.wh_engine.proofs.NoLines.{none_is_there}
use Rattle.wh_engine.proofs.tickets.are_new.Goals as goal

pub returns-in-Some-clause-new : goal.returns-in-Some-clause-new
returns-in-Some-clause-new g c clean limits commands t are rests same accepted =
    IfOk-weaker c.has_no_line.result _ _
    (λ none lines yes. none_is_there (sold commands) c.as_str-ticket.result.now c.args.sales.now
    (subst₂ (λ first last. (s : SaleRecord) → is_between first last s.ticket ≡ true → list_any (λ t. same_line t s) (sold commands) ≡ false) c.least_ticket-first.ensures c.greatest_ticket-last.ensures (lines yes)))
    (c.has_no_line.ensures.none clean limits commands t are rests same accepted)
