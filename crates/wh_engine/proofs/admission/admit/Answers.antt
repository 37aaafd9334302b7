use Rattle.std.proofs.Common.{◌≡◌, ◌∙◌, ◌<◌, ◌≤◌, ◌+◌, ◌*◌, true, false, leb, length, None, Some, sym, ap, arith, ℕ}
use Rattle.std.specs.FinMap.{len}
use Rattle.std.proofs.lemmas.Bool.{leb-true, leb-false}
use Rattle.wh_history.specs.Accepted.{sold, sold_by, standing, withdrawn_by}
use Rattle.wh_admission.specs.Admission.{changes_in, first_line_missing, first_line_there}
use Rattle.wh_admission.specs.Said.{says}
use Rattle.wh_model.specs.Sound.{changes_kept}
use Rattle.wh_model.proofs.ListedChanges.{changes_counted}
use Rattle.wh_engine.specs.Decided.{lines_in}
use Rattle.wh_engine.proofs.FoundLines.{lines_kept}
use Rattle.wh_engine.proofs.Decisions.{line_is_missing, line_is_there, too_many_changes, too_many_facts, has_room}
use Rattle.wh_engine.proofs.admission.admit.Goals as goal
use Rattle.wh_store.proofs.Scanning.{none_is}
use Rattle.wh_sql.proofs.Sparing.{tables_again, then_spares}
use Rattle.wh_engine.proofs.Scanning.{failed_after, unread_judged}

pub returns-in-Some-clause-admits : goal.returns-in-Some-clause-admits
returns-in-Some-clause-admits g c clean t rests commands are accepted same counted below once =
    let limits = c.args.session.now.limits in
    let content = says c.args.content.now in
    let room : length commands < limits.commands = omega (arith, counted, below) in
    line_is_missing limits commands content room once c.in-Some.number
    (ap (first_line_missing (standing commands) 1) (sym c.withdrawn.ensures) ∙ sym (c.in_ok-number.ensures.missing clean limits commands t are rests same) ∙ c.in-Some.is)

pub returns-in-Some-2-clause-admits : goal.returns-in-Some-2-clause-admits
returns-in-Some-2-clause-admits g c clean t rests commands are accepted same counted below once =
    let limits = c.args.session.now.limits in
    let content = says c.args.content.now in
    let room : length commands < limits.commands = omega (arith, counted, below) in
    let before = c.in_ok-number-2.ensures.reads.spares.clean clean in
    let still = tables_again c.in_ok-number.ensures.reads.spares before t rests tt in
    let none = none_is _ (λ n. c.in_default.not-Some n) in
    let stand : first_line_missing (standing commands) 1 (withdrawn_by content) ≡ None = ap (first_line_missing (standing commands) 1) (sym c.withdrawn.ensures) ∙ sym (c.in_ok-number.ensures.missing before limits commands t are rests same) ∙ none in
    line_is_there limits commands content room once stand c.in-Some-2.number
    (ap (first_line_there (sold commands) 1) (sym c.sold-sales.ensures) ∙ sym (c.in_ok-number-2.ensures.there clean limits commands t are still same accepted) ∙ c.in-Some-2.is)

pub returns-in_err-number-2-clause-reads : goal.returns-in_err-number-2-clause-reads
returns-in_err-number-2-clause-reads g c = failed_after g.S.Store _ _ _ c.in_err-number-2.field-0.0 c.from_residual-in_err-number-2.result c.in_ok-number.ensures.reads.spares c.in_err-number-2.ensures.reads c.from_residual-in_err-number-2.ensures

pub returns-in_err-number-2-clause-admits : goal.returns-in_err-number-2-clause-admits
returns-in_err-number-2-clause-admits g c clean t rests commands are accepted same counted below once =
    let before = c.in_err-number-2.ensures.reads.spares.clean clean in
    let still = tables_again c.in_ok-number.ensures.reads.spares before t rests tt in
    unread_judged (λ _ (next : ℕ). next ≡ c.args.commands + 1) c.from_residual-in_err-number-2.result _ c.in_err-number-2.field-0.0 c.from_residual-in_err-number-2.ensures (c.in_err-number-2.ensures.reads.sound clean t still)

pub returns-in_err-has_room_for-clause-reads : goal.returns-in_err-has_room_for-clause-reads
returns-in_err-has_room_for-clause-reads g c = failed_after g.S.Store _ _ _ c.in_err-has_room_for.field-0.0 c.from_residual-in_err-has_room_for.result (then_spares c.in_ok-number.ensures.reads.spares tt c.in_ok-number-2.ensures.reads.spares) c.in_err-has_room_for.ensures.reads c.from_residual-in_err-has_room_for.ensures

pub returns-in_err-has_room_for-clause-admits : goal.returns-in_err-has_room_for-clause-admits
returns-in_err-has_room_for-clause-admits g c clean t rests commands are accepted same counted below once =
    let before = c.in_err-has_room_for.ensures.reads.spares.clean clean in
    let still = tables_again (then_spares c.in_ok-number.ensures.reads.spares tt c.in_ok-number-2.ensures.reads.spares) before t rests tt in
    unread_judged (λ _ (next : ℕ). next ≡ c.args.commands + 1) c.from_residual-in_err-has_room_for.result _ c.in_err-has_room_for.field-0.0 c.from_residual-in_err-has_room_for.ensures (c.in_err-has_room_for.ensures.reads.sound clean t still)

pub returns-in_err-has_room_for_lines-clause-reads : goal.returns-in_err-has_room_for_lines-clause-reads
returns-in_err-has_room_for_lines-clause-reads g c = failed_after g.S.Store _ _ _ c.in_err-has_room_for_lines.field-0.0 c.from_residual-in_err-has_room_for_lines.result (then_spares (then_spares c.in_ok-number.ensures.reads.spares tt c.in_ok-number-2.ensures.reads.spares) tt c.in_ok-has_room_for.ensures.reads.spares) c.in_err-has_room_for_lines.ensures.reads c.from_residual-in_err-has_room_for_lines.ensures

pub returns-in_err-has_room_for_lines-clause-admits : goal.returns-in_err-has_room_for_lines-clause-admits
returns-in_err-has_room_for_lines-clause-admits g c clean t rests commands are accepted same counted below once =
    let before = c.in_err-has_room_for_lines.ensures.reads.spares.clean clean in
    let still = tables_again (then_spares (then_spares c.in_ok-number.ensures.reads.spares tt c.in_ok-number-2.ensures.reads.spares) tt c.in_ok-has_room_for.ensures.reads.spares) before t rests tt in
    unread_judged (λ _ (next : ℕ). next ≡ c.args.commands + 1) c.from_residual-in_err-has_room_for_lines.result _ c.in_err-has_room_for_lines.field-0.0 c.from_residual-in_err-has_room_for_lines.ensures (c.in_err-has_room_for_lines.ensures.reads.sound clean t still)

pub returns-then-not-branch-clause-admits : goal.returns-then-not-branch-clause-admits
returns-then-not-branch-clause-admits g c clean t rests commands are accepted same counted below once =
    let limits = c.args.session.now.limits in
    let content = says c.args.content.now in
    let room : length commands < limits.commands = omega (arith, counted, below) in
    let looked = c.in_ok-has_room_for.ensures.reads.spares.clean clean in
    let before = c.in_ok-number-2.ensures.reads.spares.clean looked in
    let still = tables_again c.in_ok-number.ensures.reads.spares before t rests tt in
    let passed = tables_again c.in_ok-number-2.ensures.reads.spares looked t still tt in
    let stand : first_line_missing (standing commands) 1 (withdrawn_by content) ≡ None =
    ap (first_line_missing (standing commands) 1) (sym c.withdrawn.ensures) ∙ sym (c.in_ok-number.ensures.missing before limits commands t are rests same) ∙ none_is _ (λ n. c.in_default.not-Some n) in
    let new : first_line_there (sold commands) 1 (sold_by content) ≡ None =
    ap (first_line_there (sold commands) 1) (sym c.sold-sales.ensures) ∙ sym (c.in_ok-number-2.ensures.there looked limits commands t are still same accepted) ∙ none_is _ (λ n. c.in_default-2.not-Some n) in
    let kept = changes_counted limits commands t are in
    let few : len t.change ≤ c.args.commands * 5000 = omega (arith, kept, counted, accepted.few_a_batch) in
    let within : len t.change ≤ c.changes.result = omega (arith, kept, c.changes.ensures, accepted.changes_within) in
    let none : leb (len t.change + c.changes-changes.result) c.changes.result ≡ false = sym (c.in_ok-has_room_for.ensures.room clean t passed few within) ∙ c.if-not-branch.true in
    too_many_changes limits commands content room once stand new (omega (arith, kept, c.changes-changes.ensures, c.changes.ensures, leb-false (len t.change + c.changes-changes.result) c.changes.result none))

pub returns-then-not-branch-2-clause-admits : goal.returns-then-not-branch-2-clause-admits
returns-then-not-branch-2-clause-admits g c clean t rests commands are accepted same counted below once =
    let limits = c.args.session.now.limits in
    let content = says c.args.content.now in
    let format = c.args.session.now.format in
    let room : length commands < limits.commands = omega (arith, counted, below) in
    let asked = c.in_ok-has_room_for_lines.ensures.reads.spares.clean clean in
    let looked = c.in_ok-has_room_for.ensures.reads.spares.clean asked in
    let before = c.in_ok-number-2.ensures.reads.spares.clean looked in
    let still = tables_again c.in_ok-number.ensures.reads.spares before t rests tt in
    let passed = tables_again c.in_ok-number-2.ensures.reads.spares looked t still tt in
    let there = tables_again c.in_ok-has_room_for.ensures.reads.spares asked t passed tt in
    let stand : first_line_missing (standing commands) 1 (withdrawn_by content) ≡ None =
    ap (first_line_missing (standing commands) 1) (sym c.withdrawn.ensures) ∙ sym (c.in_ok-number.ensures.missing before limits commands t are rests same) ∙ none_is _ (λ n. c.in_default.not-Some n) in
    let new : first_line_there (sold commands) 1 (sold_by content) ≡ None =
    ap (first_line_there (sold commands) 1) (sym c.sold-sales.ensures) ∙ sym (c.in_ok-number-2.ensures.there looked limits commands t are still same accepted) ∙ none_is _ (λ n. c.in_default-2.not-Some n) in
    let kept = changes_counted limits commands t are in
    let few : len t.change ≤ c.args.commands * 5000 = omega (arith, kept, counted, accepted.few_a_batch) in
    let within : len t.change ≤ c.changes.result = omega (arith, kept, c.changes.ensures, accepted.changes_within) in
    let some : leb (len t.change + c.changes-changes.result) c.changes.result ≡ true = sym (c.in_ok-has_room_for.ensures.room asked t passed few within) ∙ c.if-not-branch.false in
    let left : changes_kept commands + changes_in content ≤ limits.changes = omega (arith, kept, c.changes-changes.ensures, c.changes.ensures, leb-true (len t.change + c.changes-changes.result) c.changes.result some) in
    let lines = lines_kept limits commands t are accepted format same in
    let sales : length c.sold-sales.result.now ≡ length (sold_by content) = ap length c.sold-sales.ensures in
    let few_lines : lines_in format t ≤ c.args.commands * 5000 = omega (arith, lines, counted, accepted.few_sales_a_batch) in
    let lines_within : lines_in format t ≤ c.facts.result = omega (arith, lines, c.facts.ensures, accepted.facts_within) in
    let full : leb (lines_in format t + length c.sold-sales.result.now) c.facts.result ≡ false = sym (c.in_ok-has_room_for_lines.ensures.room clean t there few_lines lines_within) ∙ c.if-not-branch-2.true in
    let over : limits.facts < length (sold commands) + length (sold_by content) = omega (arith, lines, sales, c.facts.ensures, leb-false (lines_in format t + length c.sold-sales.result.now) c.facts.result full) in
    too_many_facts limits commands content room once stand new left over

pub returns-clause-admits : goal.returns-clause-admits
returns-clause-admits g c clean t rests commands are accepted same counted below once =
    let limits = c.args.session.now.limits in
    let content = says c.args.content.now in
    let format = c.args.session.now.format in
    let room : length commands < limits.commands = omega (arith, counted, below) in
    let asked = c.in_ok-has_room_for_lines.ensures.reads.spares.clean clean in
    let looked = c.in_ok-has_room_for.ensures.reads.spares.clean asked in
    let before = c.in_ok-number-2.ensures.reads.spares.clean looked in
    let still = tables_again c.in_ok-number.ensures.reads.spares before t rests tt in
    let passed = tables_again c.in_ok-number-2.ensures.reads.spares looked t still tt in
    let there = tables_again c.in_ok-has_room_for.ensures.reads.spares asked t passed tt in
    let stand : first_line_missing (standing commands) 1 (withdrawn_by content) ≡ None =
    ap (first_line_missing (standing commands) 1) (sym c.withdrawn.ensures) ∙ sym (c.in_ok-number.ensures.missing before limits commands t are rests same) ∙ none_is _ (λ n. c.in_default.not-Some n) in
    let new : first_line_there (sold commands) 1 (sold_by content) ≡ None =
    ap (first_line_there (sold commands) 1) (sym c.sold-sales.ensures) ∙ sym (c.in_ok-number-2.ensures.there looked limits commands t are still same accepted) ∙ none_is _ (λ n. c.in_default-2.not-Some n) in
    let kept = changes_counted limits commands t are in
    let few : len t.change ≤ c.args.commands * 5000 = omega (arith, kept, counted, accepted.few_a_batch) in
    let within : len t.change ≤ c.changes.result = omega (arith, kept, c.changes.ensures, accepted.changes_within) in
    let some : leb (len t.change + c.changes-changes.result) c.changes.result ≡ true = sym (c.in_ok-has_room_for.ensures.room asked t passed few within) ∙ c.if-not-branch.false in
    let left : changes_kept commands + changes_in content ≤ limits.changes = omega (arith, kept, c.changes-changes.ensures, c.changes.ensures, leb-true (len t.change + c.changes-changes.result) c.changes.result some) in
    let lines = lines_kept limits commands t are accepted format same in
    let sales : length c.sold-sales.result.now ≡ length (sold_by content) = ap length c.sold-sales.ensures in
    let few_lines : lines_in format t ≤ c.args.commands * 5000 = omega (arith, lines, counted, accepted.few_sales_a_batch) in
    let lines_within : lines_in format t ≤ c.facts.result = omega (arith, lines, c.facts.ensures, accepted.facts_within) in
    let enough : leb (lines_in format t + length c.sold-sales.result.now) c.facts.result ≡ true = sym (c.in_ok-has_room_for_lines.ensures.room clean t there few_lines lines_within) ∙ c.if-not-branch-2.false in
    let facts : length (sold commands) + length (sold_by content) ≤ limits.facts = omega (arith, lines, sales, c.facts.ensures, leb-true (lines_in format t + length c.sold-sales.result.now) c.facts.result enough) in
    rw (has_room limits commands content room once stand new left facts) (omega (arith, counted))
