use Rattle.std.proofs.Common.{◌≡◌, rules, [], ap, subst, Option, refl}
use Rattle.std.specs.Prelude.{flat_map}
use Rattle.std.specs.FinMap.{values}
use Rattle.wh_rows.specs.Rows as row
use Rattle.wh_rows.specs.declared.rows.ChangeRow.{ChangeRow}
use Rattle.wh_rows.proofs.Edits.{filter_all}
use Rattle.wh_store.specs.Scan.{rows_left, HandsOut}
use Rattle.wh_migration.specs.Migration.{stored_by}
use Rattle.wh_plan.specs.Profiles.{with_combinations}
use Rattle.wh_migration.proofs.ScannedRecords.{combined_further, combined_whole}
use Rattle.wh_migration.proofs.profile_plan.combinations_stored.Goals as goal
use Rattle.wh_sql.proofs.Sparing.{tables_again}
use Rattle.wh_sql.proofs.InTurn.{then_failed}

pub records-init : goal.records-init
records-init g c =
    record {
      reads = search rules;
      stored = λ clean t at.
          let left : rows_left row.change t.change c.new-cursor.result ≡ values t.change = rw (c.new-cursor.ensures.none, c.new-cursor.ensures.more, c.new-cursor.ensures.all) (filter_all (values t.change)) in
          rw c.new-found.ensures.items (ap (λ rows. with_combinations [] (flat_map (stored_by c.args.types.now) rows)) left);
    }

pub records-preserved : goal.records-preserved
records-preserved g c =
    let kept = c.records.invariant in
    let read = c.in_ok-row.ensures in
    record {
      reads = search rules;
      stored = λ clean t at.
          let before = read.next.reads.spares.clean clean in
          combined_further c.args.types.now c.records.found.items c.add_stored.new.found.items c.in-Some.row (rows_left row.change t.change c.records.cursor) (rows_left row.change t.change c.next_row.new.cursor) (with_combinations [] (flat_map (stored_by c.args.types.now) (values t.change)))
          c.in_ok-add_stored-in-Some.ensures (subst (λ (found : Option ChangeRow). HandsOut (rows_left row.change t.change c.records.cursor) found (rows_left row.change t.change c.next_row.new.cursor)) c.in-Some.is (read.next.rows clean t refl (tables_again kept.reads.spares before t at tt))) (kept.stored before t at);
    }

pub returns-in-None-clause-stored : goal.returns-in-None-clause-stored
returns-in-None-clause-stored g c clean t at =
    let kept = c.records.invariant in
    let read = c.in_ok-row.ensures in
    let before = read.next.reads.spares.clean clean in
    combined_whole c.args.types.now c.records.found.items (rows_left row.change t.change c.records.cursor) (with_combinations [] (flat_map (stored_by c.args.types.now) (values t.change)))
    (subst (λ (found : Option ChangeRow). HandsOut (rows_left row.change t.change c.records.cursor) found (rows_left row.change t.change c.next_row.new.cursor)) c.in-None.is (read.next.rows clean t refl (tables_again kept.reads.spares before t at tt))).0 (kept.stored before t at)

pub returns-in_err-row-clause-reads : goal.returns-in_err-row-clause-reads
returns-in_err-row-clause-reads g c = then_failed c.records.invariant.reads c.in_err-row.ensures.next.reads c.from_residual.ensures
