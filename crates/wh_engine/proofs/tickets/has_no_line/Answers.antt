use Rattle.std.proofs.Common.{◌∙◌, ◌||◌, sym, ap}
use Rattle.std.specs.Prelude.{is_some}
use Rattle.std.proofs.lemmas.Result.{IfOk-weaker}
use Rattle.wh_rows.specs.declared.key.LineKey.{LineKey}
use Rattle.wh_model.specs.Defined.{void_at}
use Rattle.wh_model.proofs.Formatted.{facts_in_are}
use Rattle.wh_model.proofs.SameLines.{line_known}
use Rattle.wh_engine.proofs.tickets.has_no_line.Goals as goal
use Rattle.wh_sql.proofs.InTurn.{then_reads}
use Rattle.wh_sql.proofs.Sparing.{tables_again}

pub returns-clause-none : goal.returns-clause-none
returns-clause-none g c clean limits commands t are rests same accepted =
    let before = c.has_no_void.ensures.reads.spares.clean clean in
    let still = tables_again c.in_ok-has_no_fact.ensures.reads.spares before t rests tt in
    let facts = c.in_ok-has_no_fact.ensures.none before t rests c.if-not-branch.false in
    IfOk-weaker c.has_no_void.result _ _
    (λ none voids yes s within.
    let key : LineKey = record { ticket = s.ticket; line = s.line } in
    let no_fact = sym (facts_in_are limits commands t are c.args.format same key) ∙ facts key within in
    line_known commands s limits accepted
    ∙ ap (λ o. is_some o || is_some (void_at commands key)) no_fact
    ∙ ap is_some (voids yes key within))
    (c.has_no_void.ensures.none clean limits commands t are still same accepted)

pub returns-clause-reads : goal.returns-clause-reads
returns-clause-reads g c = then_reads c.in_ok-has_no_fact.ensures.reads c.has_no_void.ensures.reads
