use Rattle.std.proofs.Common.{◌≡◌, ◌∙◌, ℕ, suc, length, true, false, true≢false, sym, ap, subst, refl, rules, Ok}
use Rattle.wh_policy.specs.Formats.{is_two}
use Rattle.wh_history.specs.Accepted.{Upgrades, format_of, records_by}
use Rattle.wh_admission.specs.Admission.{accepted_as, answer, content_of, current_policy, number_for, upgrades_again}
use Rattle.wh_admission.specs.Repeated.{row_of_command}
use Rattle.wh_admission.specs.Said.{says}
use Rattle.wh_admission.specs.declared.command.Reply.TheVariants.{Accepted as Accepts}
use Rattle.wh_engine.specs.Decided.{Decides}
use Rattle.wh_sql.specs.Present.{is_second_taken}
use Rattle.wh_sql.proofs.Worked.{second_taken}
use Rattle.wh_sql.specs.Answers.{state_of}
use Rattle.wh_batch.specs.declared.kind.CommandKind.TheVariants.{Upgrade}
use Rattle.wh_engine.proofs.Contents.{brought, says_upgrades, fault_judged, placeholders_told, unread_reads, unread_refused}
use Rattle.wh_engine.proofs.Decisions.{command_accepted, content_refused, judged_err, judged_ok, next_number, not_again, number_refused}
use Rattle.wh_engine.proofs.decision.decide_new.Goals as goal
use Rattle.wh_engine.proofs.Scanning.{failed_after, fails_after, unread_judged}
use Rattle.wh_sql.proofs.Sparing.{spares_itself, tables_again}

pub returns-in_err-content-clause-reads : goal.returns-in_err-content-clause-reads
returns-in_err-content-clause-reads g c =
    unread_reads g.S.Store _ c.args.command.now.kind c.args.session.now.format c.args.session.now.policy _ c.in_err-content.field-0.0 c.from_residual.result c.in_err-content.ensures c.from_residual.ensures

pub returns-in_err-content-clause-decided : goal.returns-in_err-content-clause-decided
returns-in_err-content-clause-decided g c clean commands t held rests good new =
    let limits = c.args.session.now.limits in
    let command = c.args.command.now in
    let fails = rw (held.format, held.policy, c.as_slice-bytes.ensures) at c.in_err-content.ensures in
    unread_refused (Decides commands command) c.in_err-content.field-0.0 c.from_residual.result (content_of command.kind (format_of commands) (current_policy commands) command.bytes) (answer limits commands command) fails c.from_residual.ensures
    (λ why is. content_refused limits commands command good new why is)

pub returns-in_err-number-clause-reads : goal.returns-in_err-number-clause-reads
returns-in_err-number-clause-reads g c = fails_after g.S.Store _ _ _ c.in_err-number.field-0.0 c.from_residual-in_err-number.result spares_itself c.in_err-number.ensures.reads c.from_residual-in_err-number.ensures

pub returns-in_err-number-clause-decided : goal.returns-in_err-number-clause-decided
returns-in_err-number-clause-decided g c clean commands t held rests good new =
    let limits = c.args.session.now.limits in
    let command = c.args.command.now in
    let content = says c.in_ok-content.content in
    let read : content_of command.kind (format_of commands) (current_policy commands) command.bytes ≡ Ok content = rw (held.format, held.policy, c.as_slice-bytes.ensures) at c.in_ok-content.ensures in
    let judged = judged_err (λ (number next : ℕ). number ≡ next) (Decides commands command) c.in_err-number.field-0.0 (number_for limits commands content) (answer limits commands command) (c.in_err-number.ensures.number clean t rests commands held.are held.accepted held.format)
    (λ why none. number_refused limits commands command good new content why read none) in
    fault_judged (Decides commands command) (Decides commands command) c.in_err-number.field-0.0 c.from_residual-in_err-number.result (answer limits commands command) c.from_residual-in_err-number.ensures judged

pub returns-in_err-edits-clause-reads : goal.returns-in_err-edits-clause-reads
returns-in_err-edits-clause-reads g c = failed_after g.S.Store _ _ _ c.in_err-edits.field-0.0 c.from_residual-in_err-edits.result c.in_ok-number.ensures.reads.spares c.in_err-edits.ensures.reads c.from_residual-in_err-edits.ensures

pub returns-in_err-edits-clause-decided : goal.returns-in_err-edits-clause-decided
returns-in_err-edits-clause-decided g c clean commands t held rests good new =
    let before = c.in_err-edits.ensures.reads.spares.clean clean in
    let still = tables_again c.in_ok-number.ensures.reads.spares before t rests tt in
    unread_judged (Decides commands c.args.command.now) c.from_residual-in_err-edits.result _ c.in_err-edits.field-0.0 c.from_residual-in_err-edits.ensures (c.in_err-edits.ensures.reads.sound clean t still)

pub returns-clause-decided : goal.returns-clause-decided
returns-clause-decided g c clean commands t held rests good new =
    let limits = c.args.session.now.limits in
    let command = c.args.command.now in
    let number = c.in_ok-number.number in
    let content = says c.in_ok-content.content in
    let before = c.in_ok-edits.ensures.reads.spares.clean clean in
    let read : content_of command.kind (format_of commands) (current_policy commands) command.bytes ≡ Ok content = rw (held.format, held.policy, c.as_slice-bytes.ensures) at c.in_ok-content.ensures in
    let numbered = judged_ok (λ number next. number ≡ next) number (number_for limits commands content) (c.in_ok-number.ensures.number before t rests commands held.are held.accepted held.format) in
    let room : number_for limits commands content ≡ Ok number = numbered.1 ∙ ap Ok (sym numbered.2) in
    let still = tables_again c.in_ok-number.ensures.reads.spares before t rests tt in
    let row = c.in_ok-row.ensures ∙ ap (row_of_command command number) c.records.ensures in
    let edits = c.in_ok-edits.ensures.edits clean commands t held still command number (record { good = good; new = new; read = read; numbered = room }) row in
    let next = next_number limits commands command good new content read number room in
    rw (command_accepted limits commands command good new content read number room, c.records-2.ensures, c.placeholders_in.ensures, c.into_policy.ensures, next)
    (ap (λ (n : ℕ). Accepts (record { number = suc (length commands); records = records_by content; placeholders = n })) (placeholders_told commands command content c.in_ok-edits.edits edits), record { content = content; read = read; edits_are = edits; newer_is = refl })

pub returns-clause-brings : goal.returns-clause-brings
returns-clause-brings g c =
    let command = c.args.command.now in
    let session = c.args.session.now in
    let read = rw c.as_slice-bytes.ensures at c.in_ok-content.ensures in
    rw c.into_policy.ensures (brought command.kind session.format session.policy command.bytes (says c.in_ok-content.content) read)

pub returns-then-is_second_taken-clause-decided : goal.returns-then-is_second_taken-clause-decided
returns-then-is_second_taken-clause-decided g c clean commands t held rests good new =
    let limits = c.args.session.now.limits in
    let command = c.args.command.now in
    let number = c.in_ok-number.number in
    let content = says c.in_ok-content.content in
    let read : content_of command.kind (format_of commands) (current_policy commands) command.bytes ≡ Ok content = rw (held.format, held.policy, c.as_slice-bytes.ensures) at c.in_ok-content.ensures in
    let kind : command.kind ≡ Upgrade = search rules in
    let numbered = judged_ok (λ number next. number ≡ next) number (number_for limits commands content) (c.in_ok-number.ensures.number clean t rests commands held.are held.accepted held.format) in
    let room : number_for limits commands content ≡ Ok number = numbered.1 ∙ ap Ok (sym numbered.2) in
    let first : is_two (format_of commands) ≡ false =
    subst (λ said. upgrades_again commands said ≡ false) (says_upgrades command.kind (format_of commands) (current_policy commands) command.bytes content kind read) (not_again limits commands content number room) in
    let still = tables_again c.in_ok-number.ensures.reads.spares clean t rests tt in
    let taken : is_second_taken (state_of g.S.Store c.number_for.new.tables).now.schema ≡ true = sym c.is_second_taken.ensures ∙ c.if-is_second_taken.true in
    let second : is_two (format_of commands) ≡ true = ap is_two (sym held.are.format) ∙ sym (second_taken t.format) ∙ ap is_second_taken (sym still.now.schema) ∙ taken in
    absurd (true≢false (sym second ∙ first))
