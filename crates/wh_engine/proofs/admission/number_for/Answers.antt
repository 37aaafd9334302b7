use Rattle.std.proofs.Common.{◌≡◌, ◌∙◌, ◌<◌, ◌+◌, length, Ok, sym, ap, arith, ℕ}
use Rattle.wh_admission.specs.Admission.{number_for}
use Rattle.wh_admission.specs.Said.{says}
use Rattle.wh_plan.proofs.FoundCommands.{commands_counted}
use Rattle.wh_engine.proofs.Contents.{fault_judged}
use Rattle.wh_engine.proofs.Decisions.{no_room, upgraded_before, judged_ok}
use Rattle.wh_engine.proofs.admission.number_for.Goals as goal
use Rattle.wh_sql.proofs.Sparing.{stored_again, tables_again, then_spares}
use Rattle.wh_engine.proofs.Scanning.{failed_after, fails_after, unread_judged}

pub returns-then-commands-clause-number : goal.returns-then-commands-clause-number
returns-then-commands-clause-number g c clean t rests commands are accepted same =
    let limits = c.args.session.now.limits in
    let number = c.in_ok-commands.ensures.count clean t rests ∙ commands_counted limits commands t are in
    no_room limits commands (says c.args.content.now) (omega (arith, number, c.commands.ensures, c.if-commands.true))

pub returns-then-upgrades_again-clause-number : goal.returns-then-upgrades_again-clause-number
returns-then-upgrades_again-clause-number g c clean t rests commands are accepted same =
    let limits = c.args.session.now.limits in
    let number = c.in_ok-commands.ensures.count clean t rests ∙ commands_counted limits commands t are in
    let room : length commands < limits.commands = omega (arith, number, c.commands.ensures, c.if-commands.false) in
    upgraded_before limits commands (says c.args.content.now) room (sym (c.upgrades_again.ensures commands same) ∙ c.if-upgrades_again.true)

pub returns-in_err-admit-clause-reads : goal.returns-in_err-admit-clause-reads
returns-in_err-admit-clause-reads g c = fails_after g.S.Store _ _ _ c.in_err-admit.field-0.0 c.from_residual-in_err-admit.result c.in_ok-commands.ensures.reads.spares c.in_err-admit.ensures.reads c.from_residual-in_err-admit.ensures

pub returns-in_err-admit-clause-number : goal.returns-in_err-admit-clause-number
returns-in_err-admit-clause-number g c clean t rests commands are accepted same =
    let limits = c.args.session.now.limits in
    let before = c.in_err-admit.ensures.reads.spares.clean clean in
    let still = tables_again c.in_ok-commands.ensures.reads.spares before t rests tt in
    let number = c.in_ok-commands.ensures.count before t rests ∙ commands_counted limits commands t are in
    let below : c.in_ok-commands.commands < limits.commands = omega (arith, c.commands.ensures, c.if-commands.false) in
    let once = sym (c.upgrades_again.ensures commands same) ∙ c.if-upgrades_again.false in
    fault_judged {X = Unit {0}} (λ admitted (next : ℕ). next ≡ c.in_ok-commands.commands + 1) (λ (number next : ℕ). number ≡ next) c.in_err-admit.field-0.0 c.from_residual-in_err-admit.result (number_for limits commands (says c.args.content.now)) c.from_residual-in_err-admit.ensures
    (c.in_err-admit.ensures.admits clean t still commands are accepted same (sym number) below once)

pub returns-in_err-number-clause-reads : goal.returns-in_err-number-clause-reads
returns-in_err-number-clause-reads g c = failed_after g.S.Store _ _ _ c.in_err-number.field-0.0 c.from_residual-in_err-number.result (then_spares c.in_ok-commands.ensures.reads.spares tt c.in_ok-admit.ensures.reads.spares) c.in_err-number.ensures.reads c.from_residual-in_err-number.ensures

pub returns-in_err-number-clause-number : goal.returns-in_err-number-clause-number
returns-in_err-number-clause-number g c clean t rests commands are accepted same =
    let before = c.in_err-number.ensures.reads.spares.clean clean in
    let still = tables_again (then_spares c.in_ok-commands.ensures.reads.spares tt c.in_ok-admit.ensures.reads.spares) before t rests tt in
    unread_judged (λ (number next : ℕ). number ≡ next) c.from_residual-in_err-number.result _ c.in_err-number.field-0.0 c.from_residual-in_err-number.ensures (c.in_err-number.ensures.reads.sound clean t still)

pub returns-clause-free : goal.returns-clause-free
returns-clause-free g c clean stored rests =
    let before = c.in_ok-number.ensures.reads.spares.clean clean in
    c.in_ok-number.ensures.free clean stored (stored_again (then_spares c.in_ok-commands.ensures.reads.spares tt c.in_ok-admit.ensures.reads.spares) before stored rests tt)

pub returns-clause-number : goal.returns-clause-number
returns-clause-number g c clean t rests commands are accepted same =
    let limits = c.args.session.now.limits in
    let asked = c.in_ok-number.ensures.reads.spares.clean clean in
    let before = c.in_ok-admit.ensures.reads.spares.clean asked in
    let still = tables_again c.in_ok-commands.ensures.reads.spares before t rests tt in
    let passed = tables_again c.in_ok-admit.ensures.reads.spares asked t still tt in
    let number = c.in_ok-commands.ensures.count before t rests ∙ commands_counted limits commands t are in
    let below : c.in_ok-commands.commands < limits.commands = omega (arith, c.commands.ensures, c.if-commands.false) in
    let once = sym (c.upgrades_again.ensures commands same) ∙ c.if-upgrades_again.false in
    let (next, is, fits) = judged_ok (λ admitted next. next ≡ c.in_ok-commands.commands + 1) c.in_ok-admit.field-0 (number_for limits commands (says c.args.content.now)) (c.in_ok-admit.ensures.admits asked t still commands are accepted same (sym number) below once) in
    let free : c.in_ok-number.number ≡ c.in_ok-commands.commands + 1 = c.in_ok-number.ensures.next clean limits commands t are passed (omega (arith, number)) in
    rw is (free ∙ sym fits)
