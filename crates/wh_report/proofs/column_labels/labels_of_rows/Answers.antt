use Rattle.std.proofs.Common.{rules, [], ◌∙◌}
use Rattle.wh_rows.specs.Keys.{bind_number}
use Rattle.wh_report.specs.Joined.{table_of_dim}
use Rattle.wh_report.specs.Reported.{layout_of_dim}
use Rattle.std.specs.Prelude.{Ok, Err}
use Rattle.std.proofs.lemmas.Result.{err_from_is_err_and}
use Rattle.wh_report.proofs.EngineReading.{through, unread, and_then, answered, faulted, handed_out, out_of_memory}
use Rattle.wh_report.proofs.Arranged.{seen_none, none_ahead, made_more, made_all}
use Rattle.wh_report.proofs.HandedRows.{none_seen, one_seen, all_seen, no_labels, all_left}
use Rattle.wh_report.proofs.Outputs.{row_handed, none_handed}
use Rattle.wh_report.proofs.column_labels.labels_of_rows.Goals as goal
use Rattle.wh_sql.proofs.Sparing.{stored_again, tables_again}

pub rows-init : goal.rows-init
rows-init g c = record {
  reads = unread _ _ tt;
  writes = search rules;
  labels = λ clean t at. none_seen _ _ _ (all_left _ c.new-cursor.ensures.left c.args.dim t) (no_labels _ c.new-labels.ensures);
  stored = λ clean stored on. record { done = []; seen = seen_none (layout_of_dim c.args.dim) (stored.rows (table_of_dim c.args.dim)) _ (c.new-cursor.ensures.left_stored (layout_of_dim c.args.dim) bind_number (stored.rows (table_of_dim c.args.dim))); ahead = none_ahead (layout_of_dim c.args.dim).is_valid _ c.new-cursor.ensures.none; made = no_labels _ c.new-labels.ensures };
}

pub rows-preserved : goal.rows-preserved
rows-preserved g c =
    let kept = c.rows.invariant in
    let read = c.in_ok-row.ensures in
    record {
      reads = handed_out _ _ _ _ _ _ _ c.in_ok-row.field-0 kept.reads (through g.S.Store _ _ _ read.reads read.serves);
      writes = read.reads.writes ∙ kept.writes;
      labels = λ clean t at.
          let before = read.reads.spares.clean clean in
          one_seen _ _ c.in-Some.row _ _ _ (row_handed _ _ _ c.in-Some.row c.in-Some.is (read.rows clean t (tables_again kept.reads.spares before t at tt))) (kept.labels before t at) (λ done made. c.in_ok-add_row-in-Some.ensures done made);
      stored = λ clean stored on.
          let before = read.reads.spares.clean clean in
          let rests = stored_again kept.reads.spares before stored on tt in
          made_more (layout_of_dim c.args.dim) bind_number (stored.rows (table_of_dim c.args.dim)) _ _ _ _ c.in-Some.row _ _ _ _ _ c.in-Some.is (kept.stored before stored on) (read.valid clean stored rests) (read.stored clean stored rests) (λ done made. c.in_ok-add_row-in-Some.ensures done made);
    }

pub returns-in-None-clause-reads : goal.returns-in-None-clause-reads
returns-in-None-clause-reads g c = answered _ _ _ _ _ _ (and_then _ _ _ _ _ _ tt (Ok c.in_ok-row.field-0) c.rows.invariant.reads (through g.S.Store _ _ _ c.in_ok-row.ensures.reads c.in_ok-row.ensures.serves))

pub returns-in-None-clause-labels : goal.returns-in-None-clause-labels
returns-in-None-clause-labels g c clean t at =
    let kept = c.rows.invariant in
    let read = c.in_ok-row.ensures in
    let before = read.reads.spares.clean clean in
    all_seen _ _ _ (none_handed _ _ _ c.in-None.is (read.rows clean t (tables_again kept.reads.spares before t at tt))) (kept.labels before t at)

pub returns-in-None-clause-stored : goal.returns-in-None-clause-stored
returns-in-None-clause-stored g c clean stored on =
    let kept = c.rows.invariant in
    let read = c.in_ok-row.ensures in
    let before = read.reads.spares.clean clean in
    let rests = stored_again kept.reads.spares before stored on tt in
    made_all (layout_of_dim c.args.dim) bind_number (stored.rows (table_of_dim c.args.dim)) _ _ _ _ _ _ _ c.in-None.is (kept.stored before stored on) (read.stored clean stored rests)

pub returns-in_err-row-clause-reads : goal.returns-in_err-row-clause-reads
returns-in_err-row-clause-reads g c =
    let p = err_from_is_err_and c.from_residual.result c.from_residual.ensures.1 in
    rw (p.1, p.2) (faulted _ _ _ _ _ (and_then _ _ _ _ _ _ tt (Err c.in_err-row.field-0.0) c.rows.invariant.reads (through g.S.Store _ _ _ c.in_err-row.ensures.reads c.in_err-row.ensures.serves)))

pub returns-clause-reads : goal.returns-clause-reads
returns-clause-reads g c = out_of_memory _ _ _ _ _ c.rows.invariant.reads

pub returns-in_err-add_row-in-Some-clause-reads : goal.returns-in_err-add_row-in-Some-clause-reads
returns-in_err-add_row-in-Some-clause-reads g c =
    let p = err_from_is_err_and c.from_residual-in_err-add_row-in-Some.result c.from_residual-in_err-add_row-in-Some.ensures.1 in
    rw (p.1, p.2) (out_of_memory _ _ _ _ c.in_ok-row.field-0 (and_then _ _ _ _ _ _ tt (Ok c.in_ok-row.field-0) c.rows.invariant.reads (through g.S.Store _ _ _ c.in_ok-row.ensures.reads c.in_ok-row.ensures.serves)))
