use Rattle.std.proofs.Common.{◌≡◌, ◌∙◌, true, None, IfOk, sym, ap, subst}
use Rattle.std.specs.Prelude.{IsTrue}
use Rattle.std.specs.FinMap.{values}
use Rattle.std.proofs.lemmas.Result.{IfOk-weaker}
use Rattle.wh_history.specs.Accepted.{withdraws_line}
use Rattle.wh_model.specs.Defined.{void_at}
use Rattle.wh_model.proofs.SameLines.{void_stored}
use Rattle.wh_rows.specs.Rows.{void}
use Rattle.wh_rows.specs.declared.key.LineKey.{LineKey}
use Rattle.wh_sql.specs.Answers.{ReadsOnly, state_of}
use Rattle.wh_engine.specs.Tickets.{first_behind, is_between, is_past}
use Rattle.wh_engine.proofs.NoLines.{no_void, not_some, none_told, reads_told}
use Rattle.wh_engine.proofs.tickets.has_no_void.Goals as goal

pub returns-in-One-clause-none : goal.returns-in-One-clause-none
returns-in-One-clause-none g c clean limits commands t are rests same accepted none key within =
    not_some (void_at commands key) (void_stored commands key ∙ ap (withdraws_line key.ticket key.line) (accepted.unwithdrawn (sym same ∙ c.in-One.is)))

pub returns-in_ok-part-in-Two-clause-reads : goal.returns-in_ok-part-in-Two-clause-reads
returns-in_ok-part-in-Two-clause-reads g c =
    subst (ReadsOnly (state_of g.S.Store c.args.tables.now) (state_of g.S.Store c.first_key.new.tables)) (sym c.tells_none.ensures) (reads_told c.args.last.now c.first_key.result c.first_key.ensures.reads)

pub returns-in_ok-part-in-Two-clause-none : goal.returns-in_ok-part-in-Two-clause-none
returns-in_ok-part-in-Two-clause-none g c clean limits commands t are rests same accepted =
    let first = c.args.first.now in
    let last = c.args.last.now in
    let None_is : _ = (key : LineKey) → is_between first last key.ticket ≡ true → void_at commands key ≡ None in
    subst (λ r. IfOk r (λ none. IsTrue none → None_is)) (sym c.tells_none.ensures)
    (none_told None_is last c.first_key.result
    (IfOk-weaker c.first_key.result _ _
    (λ found is past key within. sym (are.void key) ∙ no_void first last _ t rests.now.tables (ap (λ o. is_past last (first_behind void o (values t.void))) (sym c.in_ok-part-in-Two.ensures) ∙ ap (is_past last) (sym is) ∙ past) key within)
    (c.first_key.ensures.first clean t rests)))
