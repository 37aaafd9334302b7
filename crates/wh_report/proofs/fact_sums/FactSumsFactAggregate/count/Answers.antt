use Rattle.std.proofs.Common.{inl, inr, sym, ◌∙◌, ap}
use Rattle.wh_report.specs.Request.{is_asked_of}
use Rattle.wh_report.proofs.SummedFacts.{not_counted, one_refused}
use Rattle.wh_report.proofs.fact_sums.FactSumsFactAggregate.count.Goals as goal
use Rattle.wh_report.proofs.fact_sums.FactSumsFactAggregate.count.Goals.{then-is_some-via-then-is_some, then-is_some-via-else-is_some+then-not-contains}

pub returns-then-is_some : goal.returns-then-is_some
returns-then-is_some c first sales before = record {
  request = before.request;
  made = not_counted first.request.now sales c.args.sale c.args.self.now.sums c.args.self.now.fault
      (elim c.then-is_some.branch [
        | then-is_some-via-then-is_some w ↦ inl (sym c.is_some.ensures ∙ w.if-is_some.true)
        | then-is_some-via-else-is_some+then-not-contains w ↦ inr (ap (λ q. is_asked_of q.now c.args.sale.day) (sym before.request) ∙ sym w.contains.ensures ∙ w.if-not-contains.true)
      ]) before.made;
}

pub returns-in-Err : goal.returns-in-Err
returns-in-Err c first sales before = record {
  request = before.request;
  made = one_refused first.request.now sales c.args.sale c.args.self.now.sums c.add.new.self c.args.self.now.fault c.in-Err.fault (sym c.is_some.ensures ∙ c.if-is_some.false) before.made (λ are. c.in-Err.ensures.damaged _ are);
}
