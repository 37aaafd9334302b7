use Rattle.std.proofs.Common.{◌≡◌, IfOk, sym, subst}
use Rattle.std.specs.FinMap.{values}
use Rattle.wh_rows.specs.Facts.{facts_in, fact_layout}
use Rattle.wh_engine.specs.Tickets.{first_behind}
use Rattle.wh_engine.proofs.tickets.first_fact.Goals as goal

pub returns-in-One-clause-first : goal.returns-in-One-clause-first
returns-in-One-clause-first g c clean t rests =
    subst (λ format. IfOk c.first_key.result (λ first. first ≡ first_behind (fact_layout format) c.args.part.now.after (values (facts_in format t)))) (sym c.in-One.is)
    (c.first_key.ensures.first clean t rests)

pub returns-in-Two-clause-first : goal.returns-in-Two-clause-first
returns-in-Two-clause-first g c clean t rests =
    subst (λ format. IfOk c.first_key-in-Two.result (λ first. first ≡ first_behind (fact_layout format) c.args.part.now.after (values (facts_in format t)))) (sym c.in-Two.is)
    (c.first_key-in-Two.ensures.first clean t rests)
