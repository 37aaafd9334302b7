use Rattle.std.proofs.Common.{◌≡◌, ◌+◌, suc, sym, subst, arith}
use Rattle.std.proofs.lemmas.Result.{err_from_is_err_and}
use Rattle.wh_admission.specs.Checked.{stored_in}
use Rattle.wh_sql.proofs.InTurn.{answers_other, then_reads, fails_other}
use Rattle.wh_checking.specs.Judging.{IsDefinedIn}
use Rattle.wh_checking.proofs.JudgedTables.{other_at, placed, AreDefinedTo, still_holds, one_more, clean_judged, wrong_judged, fault_judged}
use Rattle.wh_checking.proofs.checking.judge_tables.Goals as goal
use Rattle.wh_sql.proofs.Sparing.{stored_again}

pub returns-in_err-is_defined_in-clause-reads : goal.returns-in_err-is_defined_in-clause-reads
returns-in_err-is_defined_in-clause-reads g c =
    let p = err_from_is_err_and c.from_residual.result c.from_residual.ensures.1 in
    rw (p.1, p.2) (fails_other (then_reads c.tables.invariant.reads c.in_err-is_defined_in.ensures.reads))

pub returns-in_err-is_defined_in-clause-judged : goal.returns-in_err-is_defined_in-clause-judged
returns-in_err-is_defined_in-clause-judged g c clean stored rests same limits commands holds said =
    let kept = c.tables.invariant in
    let of = said.formatted in
    let read = c.in_err-is_defined_in.ensures in
    let p = err_from_is_err_and c.from_residual.result c.from_residual.ensures.1 in
    let before = read.reads.spares.clean clean in
    let at = stored_again kept.reads.spares before stored rests tt in
    let defined = subst (AreDefinedTo limits commands (stored_in c.args.format stored)) (sym (placed c.tables.table-index c.tables-test.true)) (kept.defined before stored rests same limits commands of holds) in
    rw (p.1, p.2) (fault_judged limits commands (stored_in c.args.format stored) said (other_at c.tables.table-index) defined c.in_err-is_defined_in.field-0.0 (read.damaged clean stored at))

pub returns-then-not-branch-clause-judged : goal.returns-then-not-branch-clause-judged
returns-then-not-branch-clause-judged g c clean stored rests same limits commands holds said =
    let kept = c.tables.invariant in
    let of = said.formatted in
    let read = c.in_ok-is_defined_in.ensures in
    let table = other_at c.tables.table-index in
    let before = read.reads.spares.clean clean in
    let at = stored_again kept.reads.spares before stored rests tt in
    let defined = subst (AreDefinedTo limits commands (stored_in c.args.format stored)) (sym (placed c.tables.table-index c.tables-test.true)) (kept.defined before stored rests same limits commands of holds) in
    let told = read.defined clean stored at same limits commands of (still_holds g.M.Store limits commands c.args.replica.now c.tables.replica holds (kept.still holds.1.tables (holds.0, holds.1.rests)).1) in
    wrong_judged limits commands (stored_in c.args.format stored) said table defined (subst (IsDefinedIn limits commands (stored_in c.args.format stored) table) c.if-not-branch.true told)

pub tables-preserved : goal.tables-preserved
tables-preserved g c =
    let kept = c.tables.invariant in
    let read = c.in_ok-is_defined_in.ensures in
    let table = other_at c.tables.table-index in
    let less = c.tables-test.true in
    record {
      reads = answers_other (then_reads kept.reads read.reads);
      to = omega (arith, less);
      still = λ t at. read.rests t (kept.still t at);
      defined = λ clean stored rests same limits commands of holds.
          let before = read.reads.spares.clean clean in
          let at = stored_again kept.reads.spares before stored rests tt in
          let told = read.defined clean stored at same limits commands of (still_holds g.M.Store limits commands c.args.replica.now c.tables.replica holds (kept.still holds.1.tables (holds.0, holds.1.rests)).1) in
          let follows : c.tables.table-index + 1 + 2 ≡ suc (c.tables.table-index + 2) = omega arith in
          one_more limits commands (stored_in c.args.format stored) (c.tables.table-index + 2) (c.tables.table-index + 1 + 2) table follows (placed c.tables.table-index less) (kept.defined before stored rests same limits commands of holds) (subst (IsDefinedIn limits commands (stored_in c.args.format stored) table) c.if-not-branch.false told);
    }

pub returns-clause-judged : goal.returns-clause-judged
returns-clause-judged g c clean stored rests same limits commands holds said =
    let kept = c.tables.invariant in
    let of = said.formatted in
    let past = c.tables-test.false in
    let upto = kept.to in
    let is : c.tables.table-index + 2 ≡ 12 = omega (arith, past, upto) in
    clean_judged limits commands (stored_in c.args.format stored) said (subst (AreDefinedTo limits commands (stored_in c.args.format stored)) is (kept.defined clean stored rests same limits commands of holds))
