use Rattle.std.proofs.Common.{ap, refl}
use Rattle.std.proofs.lemmas.Result.{err_from_is_err_and}
use Rattle.wh_sql.specs.Answers.{state_of}
use Rattle.wh_engine.specs.Opened.{of_limits, of_command, last_policy_in, session_in}
use Rattle.wh_engine.proofs.OpenedTables.{fault_goes_on, limits_unread, policy_fault, session_is}
use Rattle.wh_engine.proofs.OpenedStored.{unlimited_spares, limits_refused, policy_refused}
use Rattle.wh_engine.proofs.opening.session_of.Goals as goal
use Rattle.wh_sql.proofs.Sparing.{stored_again, tables_again, tables_left}

pub returns-in_err-limits-clause-read : goal.returns-in_err-limits-clause-read
returns-in_err-limits-clause-read g c clean t rests =
    let p = err_from_is_err_and c.from_residual.result c.from_residual.ensures.1 in
    let reads = c.in_err-limits.ensures.reads in
    rw (p.1, p.2) (limits_unread t c.args.format c.in_err-limits.field-0.0 (state_of g.S.Store c.find_limits.new.tables) (c.in_err-limits.ensures.damaged clean t rests) (tables_again reads clean t rests) (tables_left reads clean t rests))

pub returns-in-Ok-clause-read : goal.returns-in-Ok-clause-read
returns-in-Ok-clause-read g c clean t rests =
    let before = c.policy_in.ensures.reads.clean clean in
    let first = ap of_limits (c.in_ok-limits.ensures.limits before t rests) in
    let second = c.in-Ok.ensures.read clean t (tables_again c.in_ok-limits.ensures.reads before t rests tt) in
    (session_is t c.args.format c.in_ok-limits.limits c.in-Ok.policy first second.0, second.1)

pub returns-in-Err-clause-read : goal.returns-in-Err-clause-read
returns-in-Err-clause-read g c clean t rests =
    let before = c.policy_in.ensures.reads.clean clean in
    let first = ap of_limits (c.in_ok-limits.ensures.limits before t rests) in
    let still = tables_again c.in_ok-limits.ensures.reads before t rests tt in
    fault_goes_on c.in-Err.fault (of_command (last_policy_in t)) (session_in c.args.format t) t (state_of g.S.Store c.policy_in.new.tables) (λ e. policy_fault t c.args.format c.in_ok-limits.limits e first) (c.in-Err.ensures.read clean t still)

-- ---- of any stored rows

pub returns-in_err-limits-clause-reads : goal.returns-in_err-limits-clause-reads
returns-in_err-limits-clause-reads g c =
    let p = err_from_is_err_and c.from_residual.result c.from_residual.ensures.1 in
    rw (p.1, p.2) (unlimited_spares (state_of g.S.Store c.args.tables.now) (state_of g.S.Store c.find_limits.new.tables) c.in_err-limits.field-0.0 c.in_err-limits.ensures.reads)

pub returns-in_err-limits-clause-sessionless : goal.returns-in_err-limits-clause-sessionless
returns-in_err-limits-clause-sessionless g c clean stored at =
    let p = err_from_is_err_and c.from_residual.result c.from_residual.ensures.1 in
    rw (p.1, p.2) (limits_refused stored c.in_err-limits.field-0.0 (c.in_err-limits.ensures.limitless clean stored at))

pub returns-in-Ok-clause-stored : goal.returns-in-Ok-clause-stored
returns-in-Ok-clause-stored g c clean stored at taken =
    let before = c.policy_in.ensures.reads.clean clean in
    (taken, c.in_ok-limits.ensures.stored before stored at, c.in-Ok.ensures.stored clean stored (stored_again c.in_ok-limits.ensures.reads before stored at tt), refl)

pub returns-in-Err-clause-sessionless : goal.returns-in-Err-clause-sessionless
returns-in-Err-clause-sessionless g c clean stored at =
    let before = c.policy_in.ensures.reads.clean clean in
    let still = stored_again c.in_ok-limits.ensures.reads before stored at tt in
    policy_refused stored c.in_ok-limits.limits (c.in_ok-limits.ensures.stored before stored at) c.in-Err.fault (c.in-Err.ensures.policyless clean stored still)
