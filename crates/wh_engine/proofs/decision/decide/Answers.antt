use Rattle.std.proofs.Common.{◌≡◌, ◌∙◌, true, None, Some, Ok, sym, ap, refl}
use Rattle.sqlite.specs.Effect.{Database}
use Rattle.wh_rows.specs.Types.{is_key}
use Rattle.wh_sql.specs.Present.{is_second_taken}
use Rattle.wh_plan.specs.Reading.{command_with}
use Rattle.wh_engine.proofs.Decisions.{known_answer, is_new}
use Rattle.std.proofs.lemmas.Result.{err_from_is_err_and}
use Rattle.wh_engine.specs.declared.decision.Decision.TheVariants.{Repeat}
use Rattle.wh_engine.proofs.Repeating.{only_reused, repeats_kept}
use Rattle.wh_engine.proofs.decision.decide.Goals as goal
use Rattle.wh_sql.proofs.Sparing.{spares_where, tables_again}

pub returns-in_ok-receipt_again-in-Some-clause-decided : goal.returns-in_ok-receipt_again-in-Some-clause-decided
returns-in_ok-receipt_again-in-Some-clause-decided g c clean commands t held rests =
    let limits = c.args.session.now.limits in
    let command = c.args.command.now in
    let good : is_key 40 command.id ≡ true = rw (c.as_bytes.ensures.value ∙ c.as_str.ensures) at (sym c.is_key.ensures ∙ c.if-not-is_key.false) in
    let row : command_with commands command.id ≡ Some c.in-Some.row = sym (c.in_ok-row.ensures.command clean limits commands t held.are rests held.accepted.distinct) ∙ c.in-Some.is in
    rw (known_answer limits commands command c.in-Some.row good row, ← c.in_ok-receipt_again-in-Some.ensures) refl

pub returns-in_err-receipt_again-in-Some-clause-decided : goal.returns-in_err-receipt_again-in-Some-clause-decided
returns-in_err-receipt_again-in-Some-clause-decided g c clean commands t held rests =
    let limits = c.args.session.now.limits in
    let command = c.args.command.now in
    let good : is_key 40 command.id ≡ true = rw (c.as_bytes.ensures.value ∙ c.as_str.ensures) at (sym c.is_key.ensures ∙ c.if-not-is_key.false) in
    let row : command_with commands command.id ≡ Some c.in-Some.row = sym (c.in_ok-row.ensures.command clean limits commands t held.are rests held.accepted.distinct) ∙ c.in-Some.is in
    let p = err_from_is_err_and c.from_residual-in_err-receipt_again-in-Some.result c.from_residual-in_err-receipt_again-in-Some.ensures.1 in
    rw (p.1, p.2, known_answer limits commands command c.in-Some.row good row, ← c.in_err-receipt_again-in-Some.ensures) refl

pub returns-in-None-clause-decided : goal.returns-in-None-clause-decided
returns-in-None-clause-decided g c clean commands t held rests =
    let limits = c.args.session.now.limits in
    let command = c.args.command.now in
    let before = c.decide_new.ensures.reads.spares.clean clean in
    let good : is_key 40 command.id ≡ true = rw (c.as_bytes.ensures.value ∙ c.as_str.ensures) at (sym c.is_key.ensures ∙ c.if-not-is_key.false) in
    let none : command_with commands command.id ≡ None = sym (c.in_ok-row.ensures.command before limits commands t held.are rests held.accepted.distinct) ∙ c.in-None.is in
    let still = tables_again c.in_ok-row.ensures.reads.spares before t rests tt in
    c.decide_new.ensures.decided clean commands t held still good (is_new limits commands command none)

pub returns-in_ok-receipt_again-in-Some-clause-reads : goal.returns-in_ok-receipt_again-in-Some-clause-reads
returns-in_ok-receipt_again-in-Some-clause-reads g c = record { spares = spares_where (λ _. tt) c.in_ok-row.ensures.reads.spares; blames = λ clean stored rests. tt; work = tt; taken = tt }

pub returns-in_err-receipt_again-in-Some-clause-reads : goal.returns-in_err-receipt_again-in-Some-clause-reads
returns-in_err-receipt_again-in-Some-clause-reads g c =
    let p = err_from_is_err_and c.from_residual-in_err-receipt_again-in-Some.result c.from_residual-in_err-receipt_again-in-Some.ensures.1 in
    rw (p.1, p.2, only_reused c.in-Some.row c.args.command.now c.in_err-receipt_again-in-Some.field-0.0 (sym c.in_err-receipt_again-in-Some.ensures))
    (record { spares = spares_where (λ _. tt) c.in_ok-row.ensures.reads.spares; blames = λ clean stored rests. tt; work = tt; taken = tt })

pub returns-in_ok-receipt_again-in-Some-clause-again : goal.returns-in_ok-receipt_again-in-Some-clause-again
returns-in_ok-receipt_again-in-Some-clause-again g c clean stored rests =
    repeats_kept stored c.args.command.now c.in-Some.row (Ok (Repeat c.in_ok-receipt_again-in-Some.field-0)) (rw c.in-Some.is at (c.in_ok-row.ensures.stored clean stored rests)) (rw (← c.in_ok-receipt_again-in-Some.ensures) refl)

-- ---- of any database

pub returns-in-None-clause-untaken : goal.returns-in-None-clause-untaken
returns-in-None-clause-untaken g c clean kind taken =
    let before = c.decide_new.ensures.reads.spares.clean clean in
    let still = c.in_ok-row.ensures.reads.spares.same before tt in
    c.decide_new.ensures.untaken clean kind (ap (λ (d : Database). is_second_taken d.schema) still.now ∙ taken)
