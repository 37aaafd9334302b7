use Rattle.std.proofs.Common.{◌≡◌, ◌∙◌, ◌||◌, false, sym, ap}
use Rattle.std.specs.Prelude.{is_some}
use Rattle.std.proofs.lemmas.Result.{IfOk-weaker}
use Rattle.wh_model.specs.Defined.{fact_at, void_at}
use Rattle.wh_model.proofs.Formatted.{facts_in_are}
use Rattle.wh_model.proofs.SameLines.{line_known}
use Rattle.wh_engine.proofs.admission.is_line_there.Goals as goal
use Rattle.wh_sql.proofs.Sparing.{tables_again}
use Rattle.wh_sql.proofs.InTurn.{then_reads}

pub returns-then-is_some-clause-there : goal.returns-then-is_some-clause-there
returns-then-is_some-clause-there g c clean limits commands t are rests same accepted =
    let sale = c.args.sale.now in
    let ticket = c.in_ok-new.ensures ∙ c.as_str.ensures in
    let fact = c.is_some.ensures ∙ ap is_some (c.in_ok-fact.ensures.rows clean t rests ∙ facts_in_are limits commands t are c.args.format same _) ∙ ap (λ text. is_some (fact_at commands (record { ticket = text; line = sale.line }))) ticket in
    sym (line_known commands sale limits accepted ∙ ap (λ b. b || is_some (void_at commands (record { ticket = sale.ticket; line = sale.line }))) (sym fact ∙ c.if-is_some.true))

pub returns-clause-there : goal.returns-clause-there
returns-clause-there g c clean limits commands t are rests same accepted =
    let sale = c.args.sale.now in
    let before = c.is_withdrawn.ensures.reads.spares.clean clean in
    let still = tables_again c.in_ok-fact.ensures.reads.spares before t rests tt in
    let ticket = c.in_ok-new.ensures ∙ c.as_str.ensures in
    let fact = c.is_some.ensures ∙ ap is_some (c.in_ok-fact.ensures.rows before t rests ∙ facts_in_are limits commands t are c.args.format same _) ∙ ap (λ text. is_some (fact_at commands (record { ticket = text; line = sale.line }))) ticket in
    let none : is_some (fact_at commands (record { ticket = sale.ticket; line = sale.line })) ≡ false = sym fact ∙ c.if-is_some.false in
    IfOk-weaker c.is_withdrawn.result _ _
    (λ withdrawn is. is ∙ ap (λ text. is_some (void_at commands (record { ticket = text; line = sale.line }))) ticket
    ∙ sym (line_known commands sale limits accepted ∙ ap (λ b. b || is_some (void_at commands (record { ticket = sale.ticket; line = sale.line }))) none))
    (c.is_withdrawn.ensures.withdrawn clean limits commands t are still same accepted)

pub returns-clause-reads : goal.returns-clause-reads
returns-clause-reads g c = then_reads c.in_ok-fact.ensures.reads c.is_withdrawn.ensures.reads
