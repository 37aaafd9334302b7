use Rattle.std.proofs.Common.{refl, rules, [], ◌∙◌}
use Rattle.wh_rows.specs.Keys.{bind_number}
use Rattle.wh_rows.specs.declared.table.Table.TheVariants as table
use Rattle.std.specs.Prelude.{Ok, Err}
use Rattle.wh_rows.specs.Rows as row
use Rattle.std.proofs.lemmas.Result.{err_from_is_err_and}
use Rattle.wh_report.proofs.EngineReading.{through, unread, and_then, answered, faulted, handed_out, out_of_memory}
use Rattle.wh_report.proofs.Arranged.{seen_none, none_ahead, made_more, made_all}
use Rattle.wh_report.proofs.HandedRows.{none_seen, one_seen, all_seen, no_labels}
use Rattle.wh_report.proofs.Outputs.{row_handed, none_handed}
use Rattle.wh_report.proofs.column_labels.labels_of_profiles.Goals as goal
use Rattle.wh_sql.proofs.Sparing.{stored_again, tables_again}

pub profiles-init : goal.profiles-init
profiles-init g c = record {
  reads = unread _ _ tt;
  writes = search rules;
  labels = λ clean t at. none_seen _ _ _ (c.new-cursor.ensures.left row.profile t.profile) (no_labels _ c.new-labels.ensures);
  stored = λ clean stored on. record { done = []; seen = seen_none row.profile (stored.rows table.Profile) _ (c.new-cursor.ensures.left_stored row.profile bind_number (stored.rows table.Profile)); ahead = none_ahead row.profile.is_valid _ c.new-cursor.ensures.none; made = no_labels _ c.new-labels.ensures };
}

pub profiles-preserved : goal.profiles-preserved
profiles-preserved g c =
    let kept = c.profiles.invariant in
    let read = c.in_ok-row.ensures in
    record {
      reads = handed_out _ _ _ _ _ _ _ c.in_ok-row.field-0 kept.reads (through g.S.Store _ _ _ read.reads read.serves);
      writes = read.reads.writes ∙ kept.writes;
      labels = λ clean t at.
          let before = read.reads.spares.clean clean in
          one_seen _ _ c.in-Some.row _ _ _ (row_handed _ _ _ c.in-Some.row c.in-Some.is (read.hands.rows clean t refl (tables_again kept.reads.spares before t at tt))) (kept.labels before t at) (λ done made. c.in_ok-add_profile-in-Some.ensures done made);
      stored = λ clean stored on.
          let before = read.reads.spares.clean clean in
          let rests = stored_again kept.reads.spares before stored on tt in
          made_more row.profile bind_number (stored.rows table.Profile) _ _ _ _ c.in-Some.row _ _ _ _ _ c.in-Some.is (kept.stored before stored on) (read.hands.valid clean stored refl rests) (read.hands.stored clean stored refl rests) (λ done made. c.in_ok-add_profile-in-Some.ensures done made);
    }

pub returns-in-None-clause-reads : goal.returns-in-None-clause-reads
returns-in-None-clause-reads g c = answered _ _ _ _ _ _ (and_then _ _ _ _ _ _ tt (Ok c.in_ok-row.field-0) c.profiles.invariant.reads (through g.S.Store _ _ _ c.in_ok-row.ensures.reads c.in_ok-row.ensures.serves))

pub returns-in-None-clause-labels : goal.returns-in-None-clause-labels
returns-in-None-clause-labels g c clean t at =
    let kept = c.profiles.invariant in
    let read = c.in_ok-row.ensures in
    let before = read.reads.spares.clean clean in
    all_seen _ _ _ (none_handed _ _ _ c.in-None.is (read.hands.rows clean t refl (tables_again kept.reads.spares before t at tt))) (kept.labels before t at)

pub returns-in-None-clause-stored : goal.returns-in-None-clause-stored
returns-in-None-clause-stored g c clean stored on =
    let kept = c.profiles.invariant in
    let read = c.in_ok-row.ensures in
    let before = read.reads.spares.clean clean in
    let rests = stored_again kept.reads.spares before stored on tt in
    made_all row.profile bind_number (stored.rows table.Profile) _ _ _ _ _ _ _ c.in-None.is (kept.stored before stored on) (read.hands.stored clean stored refl rests)

pub returns-in_err-row-clause-reads : goal.returns-in_err-row-clause-reads
returns-in_err-row-clause-reads g c =
    let p = err_from_is_err_and c.from_residual.result c.from_residual.ensures.1 in
    rw (p.1, p.2) (faulted _ _ _ _ _ (and_then _ _ _ _ _ _ tt (Err c.in_err-row.field-0.0) c.profiles.invariant.reads (through g.S.Store _ _ _ c.in_err-row.ensures.reads c.in_err-row.ensures.serves)))

pub returns-clause-reads : goal.returns-clause-reads
returns-clause-reads g c = out_of_memory _ _ _ _ _ c.profiles.invariant.reads

pub returns-in_err-add_profile-in-Some-clause-reads : goal.returns-in_err-add_profile-in-Some-clause-reads
returns-in_err-add_profile-in-Some-clause-reads g c =
    let p = err_from_is_err_and c.from_residual-in_err-add_profile-in-Some.result c.from_residual-in_err-add_profile-in-Some.ensures.1 in
    rw (p.1, p.2) (out_of_memory _ _ _ _ c.in_ok-row.field-0 (and_then _ _ _ _ _ _ tt (Ok c.in_ok-row.field-0) c.profiles.invariant.reads (through g.S.Store _ _ _ c.in_ok-row.ensures.reads c.in_ok-row.ensures.serves)))
