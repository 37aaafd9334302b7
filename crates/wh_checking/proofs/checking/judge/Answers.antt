use Rattle.std.proofs.Common.{subst}
use Rattle.std.proofs.lemmas.Result.{err_from_is_err_and}
use Rattle.sqlite.specs.Files.{over_files}
use Rattle.wh_admission.specs.Checked.{stored_in}
use Rattle.wh_checking.specs.Meta.{AreLimitsSaid}
use Rattle.wh_checking.specs.Replica.{IsReplicated}
use Rattle.wh_checking.proofs.JudgedTables.{meta_fault, command_fault, command_none, rest_judged}
use Rattle.wh_checking.proofs.checking.judge.Goals as goal
use Rattle.wh_sql.proofs.Sparing.{stored_again, then_spares}

pub returns-in_err-limits-clause-judged : goal.returns-in_err-limits-clause-judged
returns-in_err-limits-clause-judged g c clean stored rests covers =
    let p = err_from_is_err_and c.from_residual.result c.from_residual.ensures.1 in
    rw (p.1, p.2) (meta_fault (stored_in c.args.format stored) c.in_err-limits.field-0.0 (c.in_err-limits.ensures.damaged clean stored rests))

pub returns-in_err-replica-clause-judged : goal.returns-in_err-replica-clause-judged
returns-in_err-replica-clause-judged g c clean stored rests covers =
    let first = c.in_ok-limits.ensures in
    let second = c.in_err-replica.ensures in
    let before = second.reads.spares.clean clean in
    let at = stored_again first.reads before stored rests tt in
    let meta = subst (AreLimitsSaid (stored_in c.args.format stored)) c.in-Some.is (first.said before stored rests) in
    let p = err_from_is_err_and c.from_residual-in_err-replica.result c.from_residual-in_err-replica.ensures.1 in
    rw (p.1, p.2) (command_fault (stored_in c.args.format stored) c.in-Some.limits meta c.in_err-replica.field-0.0 (second.damaged clean stored at))

pub returns-in_default-2-clause-judged : goal.returns-in_default-2-clause-judged
returns-in_default-2-clause-judged g c clean stored rests covers =
    let first = c.in_ok-limits.ensures in
    let second = c.in_ok-replica.ensures in
    let before = second.reads.spares.clean clean in
    let at = stored_again first.reads before stored rests tt in
    let meta = subst (AreLimitsSaid (stored_in c.args.format stored)) c.in-Some.is (first.said before stored rests) in
    command_none (stored_in c.args.format stored) c.in-Some.limits meta (subst (IsReplicated over_files (stored_in c.args.format stored) c.in-Some.limits) c.in_default-2.is (second.replicated clean stored at))

pub returns-clause-judged : goal.returns-clause-judged
returns-clause-judged g c clean stored rests covers =
    let first = c.in_ok-limits.ensures in
    let second = c.in_ok-replica.ensures in
    let third = c.judge_tables.ensures in
    let after = third.reads.spares.clean clean in
    let before = second.reads.spares.clean after in
    let at = stored_again first.reads before stored rests tt in
    let then_at = stored_again second.reads.spares after stored at tt in
    let meta = subst (AreLimitsSaid (stored_in c.args.format stored)) c.in-Some.is (first.said before stored rests) in
    rest_judged (stored_in c.args.format stored) c.in-Some.limits meta over_files c.in-Some-2.replica c.judge_tables.result (subst (IsReplicated over_files (stored_in c.args.format stored) c.in-Some.limits) c.in-Some-2.is (second.replicated after stored at))
    (λ limits commands holds said. third.judged clean stored then_at covers limits commands holds said)

pub returns-clause-reads : goal.returns-clause-reads
returns-clause-reads g c =
    let first = c.in_ok-limits.ensures.reads in
    let second = c.in_ok-replica.ensures.reads in
    let third = c.judge_tables.ensures.reads in
    then_spares (then_spares first tt second.spares) tt third.spares

pub returns-clause-named : goal.returns-clause-named
returns-clause-named g c clean stored rests =
    let first = c.in_ok-limits.ensures.reads in
    let second = c.in_ok-replica.ensures.reads in
    let third = c.judge_tables.ensures.reads in
    let after = third.spares.clean clean in
    third.named clean stored (stored_again second.spares after stored (stored_again first (second.spares.clean after) stored rests tt) tt)
