use Rattle.std.proofs.Common.{◌≡◌, Bool, true, false, List, [], ◌∷◌, Option, refl, sym, subst, subst₂, ◌∙◌, rules}
use Rattle.std.specs.Prelude.{IsTrue, IfSome}
use Rattle.std.proofs.lemmas.Result.{err_from_is_err_and}
use Rattle.sqlite.specs.Order.{Row}
use Rattle.wh_rows.specs.Keys.{bind_number}
use Rattle.wh_rows.specs.Limits.{are_limits}
use Rattle.wh_rows.specs.Parts as texts
use Rattle.wh_rows.specs.Parts.{forward, stands_behind}
use Rattle.wh_rows.specs.Rows as row
use Rattle.wh_rows.specs.declared.rows.CommandRow.{CommandRow}
use Rattle.wh_rows.specs.declared.table.Table.TheVariants.{Command}
use Rattle.wh_rows.proofs.Once as once
use Rattle.wh_rows.proofs.Parts.{command_keyed}
use Rattle.wh_admission.specs.Checked.{stored_in}
use Rattle.wh_sql.specs.Answers.{state_of}
use Rattle.wh_store.specs.Scan.{AreLeft, HandsOutOf}
use Rattle.wh_checking.proofs.Comparing.{part_damaged}
use Rattle.wh_sql.proofs.InTurn.{reads_nothing, answers_other, runs_out, then_reads, fails_other}
use Rattle.wh_checking.proofs.Replicating.{HasReplicated, replicated_none, replicated_next, replicated_past, told_of}
use Rattle.wh_checking.proofs.replica.replicated_tables.Goals as goal
use Rattle.wh_checking.proofs.replica.replicated_tables.Goals.{then-is_list+in_ok-is_list-in-Some, else-is_list}
use Rattle.wh_sql.proofs.Sparing.{stored_again}

pub rows-init : goal.rows-init
rows-init g c =
    let good : are_limits c.args.limits ≡ true = search rules in
    record {
      reads = reads_nothing;
      valid = λ clean stored at. rw c.new-cursor.ensures.none refl;
      replicated = λ clean stored at.
          replicated_none (stored.rows Command) c.args.limits (AreLeft row.command bind_number (stored.rows Command) c.new-cursor.result) c.new-replica.result good c.new-replica.ensures
          (λ left are. c.new-cursor.ensures.left_stored row.command bind_number (stored.rows Command) left are);
    }

pub returns-in_err-row-clause-reads : goal.returns-in_err-row-clause-reads
returns-in_err-row-clause-reads g c =
    let p = err_from_is_err_and c.from_residual.result c.from_residual.ensures.1 in
    rw (p.1, p.2) (fails_other (then_reads c.rows.invariant.reads c.in_err-row.ensures.next.reads))

pub returns-in_err-row-clause-damaged : goal.returns-in_err-row-clause-damaged
returns-in_err-row-clause-damaged g c clean stored at =
    let read = c.in_err-row.ensures in
    let p = err_from_is_err_and c.from_residual.result c.from_residual.ensures.1 in
    rw (p.1, p.2) (part_damaged (forward texts.command.most) row.command Command (stands_behind row.command bind_number c.rows.cursor.unread.after) (stored.rows Command) c.in_err-row.field-0.0
    (read.next.damaged clean stored (stored_again c.rows.invariant.reads.spares (read.next.reads.spares.clean clean) stored at tt)))

pub returns-in_err-is_list-in-Some-clause-reads : goal.returns-in_err-is_list-in-Some-clause-reads
returns-in_err-is_list-in-Some-clause-reads g c =
    let p = err_from_is_err_and c.from_residual-in_err-is_list-in-Some.result c.from_residual-in_err-is_list-in-Some.ensures.1 in
    rw (p.1, p.2) (runs_out (then_reads c.rows.invariant.reads c.in_ok-row.ensures.next.reads))

pub returns-in_err-is_list-in-Some-clause-damaged : goal.returns-in_err-is_list-in-Some-clause-damaged
returns-in_err-is_list-in-Some-clause-damaged g c clean stored at =
    let p = err_from_is_err_and c.from_residual-in_err-is_list-in-Some.result c.from_residual-in_err-is_list-in-Some.ensures.1 in
    rw (p.1, p.2) tt

pub returns-in-None-clause-reads : goal.returns-in-None-clause-reads
returns-in-None-clause-reads g c = answers_other (then_reads c.rows.invariant.reads c.in_ok-row.ensures.next.reads)

pub returns-in-None-clause-replicated : goal.returns-in-None-clause-replicated
returns-in-None-clause-replicated g c clean stored at =
    let kept = c.rows.invariant in
    let read = c.in_ok-row.ensures in
    let before = read.next.reads.spares.clean clean in
    let Left = AreLeft row.command bind_number (stored.rows Command) c.rows.cursor in
    let ends : Left [] = subst (λ (found : Option CommandRow). HandsOutOf row.command bind_number (stored.rows Command) c.rows.cursor found c.next_row.new.cursor) c.in-None.is (read.next.stored clean stored refl (stored_again kept.reads.spares before stored at tt)) in
    told_of (stored_in c.args.format stored) c.args.limits command_keyed (once.command (state_of g.S.Store c.args.tables.now).now stored at.now) Left ends c.rows.replica c.rows.is_list c.replica_tables.result c.replica_tables.ensures (kept.replicated before stored at)

pub rows-preserved : goal.rows-preserved
rows-preserved g c =
    let kept = c.rows.invariant in
    let read = c.in_ok-row.ensures in
    let r = c.in-Some.row in
    record {
      reads = answers_other (then_reads kept.reads read.next.reads);
      valid = λ clean stored at.
          let before = read.next.reads.spares.clean clean in
          (read.valid clean stored refl (stored_again kept.reads.spares before stored at tt) (kept.valid before stored at)).1;
      replicated = λ clean stored at.
          let before = read.next.reads.spares.clean clean in
          let then_at = stored_again kept.reads.spares before stored at tt in
          let Left = AreLeft row.command bind_number (stored.rows Command) c.rows.cursor in
          let Rest = AreLeft row.command bind_number (stored.rows Command) c.next_row.new.cursor in
          let hands : (left : List Row) → Rest left → Left (row.command.encode r ∷ left) = subst (λ (found : Option CommandRow). HandsOutOf row.command bind_number (stored.rows Command) c.rows.cursor found c.next_row.new.cursor) c.in-Some.is (read.next.stored clean stored refl then_at) in
          let good : IsTrue (row.command.is_valid r) = subst (λ (found : Option CommandRow). IfSome found (λ v. IsTrue (row.command.is_valid v))) c.in-Some.is (read.valid clean stored refl then_at (kept.valid before stored at)).0 in
          let now : (is : Bool) → c.rows.is_list ≡ is → HasReplicated (stored.rows Command) c.args.limits Left c.rows.replica is = λ is same. subst (HasReplicated (stored.rows Command) c.args.limits Left c.rows.replica) same (kept.replicated before stored at) in
          elim c.if-is_list.branch [
            | then-is_list+in_ok-is_list-in-Some w ↦
                subst₂ (HasReplicated (stored.rows Command) c.args.limits Rest) (sym w.replica-is) (sym w.is_list-is)
                (replicated_next (stored.rows Command) c.args.limits Left Rest r good hands c.rows.replica w.take_row.new.self _ (λ commands begun held. w.in_ok-is_list-in-Some.ensures c.args.limits commands held) (now true w.if-is_list.true))
            | else-is_list w ↦
                subst₂ (HasReplicated (stored.rows Command) c.args.limits Rest) (sym w.replica-is) (sym (w.is_list-is ∙ w.if-is_list.false))
                (replicated_past (stored.rows Command) c.args.limits Left Rest r good hands c.rows.replica (now false w.if-is_list.false))
          ];
    }
