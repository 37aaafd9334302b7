use Rattle.std.proofs.Common.{◌≡◌, ◌∙◌, subst, slice_get, Some, filter}
use Rattle.std.proofs.lemmas.Result.{err_from_is_err_and}
use Rattle.std.specs.FinMap.{values}
use Rattle.wh_sql.specs.Answers.{state_of}
use Rattle.wh_engine.specs.Opened.{of_command, last_policy_in, IsAsSaid}
use Rattle.wh_rows.specs.Firsts.{last_one, part}
use Rattle.wh_rows.specs.Questions.{gives_policy}
use Rattle.wh_engine.proofs.OpenedTables.{read_of_told, rows_unread}
use Rattle.wh_engine.proofs.OpenedStored.{unread_spares, policy_unread, policy_said, no_policy}
use Rattle.wh_engine.proofs.opening.policy_in.Goals as goal
use Rattle.wh_sql.proofs.Sparing.{tables_again, tables_left}

pub returns-in_err-last-clause-read : goal.returns-in_err-last-clause-read
returns-in_err-last-clause-read g c clean t rests =
    let p = err_from_is_err_and c.from_residual.result c.from_residual.ensures.1 in
    let reads = c.in_err-last.ensures.reads in
    rw (p.1, p.2) (rows_unread t c.in_err-last.field-0.0 (of_command (last_policy_in t)) (state_of g.S.Store c.ask.new.self) (reads.sound clean t rests) (tables_again reads.spares clean t rests) (tables_left reads.spares clean t rests))

pub returns-clause-read : goal.returns-clause-read
returns-clause-read g c clean t rests =
    let new = state_of g.S.Store c.ask.new.self in
    let rows : c.deref.result.now ≡ part (Some last_one) (filter (λ r. gives_policy r.kind) (values t.command)) = c.deref.ensures.value ∙ c.in_ok-last.ensures.rows clean t rests in
    read_of_told c.policy_of.result (of_command (last_policy_in t)) t new
    (subst (λ rows. IsAsSaid c.policy_of.result (of_command (slice_get rows 0))) rows c.policy_of.ensures.said) c.policy_of.ensures.pure (tables_again c.in_ok-last.ensures.reads.spares clean t rests tt)

-- ---- of any stored rows

pub returns-in_err-last-clause-reads : goal.returns-in_err-last-clause-reads
returns-in_err-last-clause-reads g c =
    let p = err_from_is_err_and c.from_residual.result c.from_residual.ensures.1 in
    rw (p.1, p.2) (unread_spares (state_of g.S.Store c.args.tables.now) (state_of g.S.Store c.ask.new.self) c.in_err-last.field-0.0 c.in_err-last.ensures.reads)

pub returns-in_err-last-clause-policyless : goal.returns-in_err-last-clause-policyless
returns-in_err-last-clause-policyless g c clean stored at =
    let p = err_from_is_err_and c.from_residual.result c.from_residual.ensures.1 in
    rw (p.1, p.2) (policy_unread stored c.in_err-last.field-0.0 (c.in_err-last.ensures.damaged clean stored at))

pub returns-clause-stored : goal.returns-clause-stored
returns-clause-stored g c clean stored at =
    policy_said stored c.in_ok-last.last.items c.policy_of.result (c.in_ok-last.ensures.stored clean stored at) (rw c.deref.ensures.value at c.policy_of.ensures.said)

pub returns-clause-policyless : goal.returns-clause-policyless
returns-clause-policyless g c clean stored at =
    no_policy stored c.in_ok-last.last.items c.policy_of.result (c.in_ok-last.ensures.stored clean stored at) (rw c.deref.ensures.value at c.policy_of.ensures.said)
