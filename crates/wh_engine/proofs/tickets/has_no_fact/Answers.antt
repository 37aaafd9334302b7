use Rattle.std.proofs.Common.{◌≡◌, ◌∙◌, true, None, IfOk, sym, ap, subst}
use Rattle.std.specs.Prelude.{IsTrue}
use Rattle.std.specs.FinMap.{get, values}
use Rattle.std.proofs.lemmas.Result.{IfOk-weaker}
use Rattle.wh_rows.specs.Facts.{facts_in, fact_layout}
use Rattle.wh_rows.specs.declared.key.LineKey.{LineKey}
use Rattle.wh_sql.specs.Answers.{ReadsOnly, state_of}
use Rattle.wh_engine.specs.Tickets.{first_behind, is_between, is_past}
use Rattle.wh_engine.proofs.NoLines.{no_fact, none_told, reads_told}
use Rattle.wh_engine.proofs.tickets.has_no_fact.Goals as goal

pub returns-clause-reads : goal.returns-clause-reads
returns-clause-reads g c =
    subst (ReadsOnly (state_of g.S.Store c.args.tables.now) (state_of g.S.Store c.first_fact.new.tables)) (sym c.tells_none.ensures) (reads_told c.args.last.now c.first_fact.result c.first_fact.ensures.reads)

pub returns-clause-none : goal.returns-clause-none
returns-clause-none g c clean t rests =
    let first = c.args.first.now in
    let last = c.args.last.now in
    let format = c.args.format in
    let None_is : _ = (key : LineKey) → is_between first last key.ticket ≡ true → get (facts_in format t) key ≡ None in
    subst (λ r. IfOk r (λ none. IsTrue none → None_is)) (sym c.tells_none.ensures)
    (none_told None_is last c.first_fact.result
    (IfOk-weaker c.first_fact.result _ _
    (λ key is past. no_fact first last _ t rests.now.tables format (ap (λ o. is_past last (first_behind (fact_layout format) o (values (facts_in format t)))) (sym c.in_ok-part.ensures) ∙ ap (is_past last) (sym is) ∙ past))
    (c.first_fact.ensures.first clean t rests)))
