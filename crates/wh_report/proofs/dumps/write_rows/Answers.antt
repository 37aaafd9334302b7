use Rattle.std.proofs.Common.{◌∷◌, [], ◌++◌, sym, ap, subst, ◌∙◌, append-nil, rules}
use Rattle.std.specs.Prelude.{Err}
use Rattle.std.proofs.lemmas.Result.{err_from_is_err_and}
use Rattle.wh_rows.specs.Names.{is_there}
use Rattle.wh_engine.specs.declared.fault.Fault.TheVariants as faults
use Rattle.wh_engine.specs.declared.session.Session.{Session}
use Rattle.wh_report.specs.Dump.{header_line, row_line}
use Rattle.wh_report.specs.Output.{IsOutWhole, IsOutBefore}
use Rattle.wh_report.proofs.Arranged.{seen_none, seen_one, seen_all, seen_some, row_hands, none_hands, left_there, valid_hands, none_ahead}
use Rattle.wh_report.proofs.EngineReading.{through, unread, and_then, faulted, handed_out, ended, out_of_memory, never_reopen}
use Rattle.wh_report.proofs.Outputs.{row_handed, none_handed}
use Rattle.wh_report.proofs.Parts.{begun, row_added, row_not_added, last_out, stopped, one_more, told_fault, told_dump, names_none, named_none, named_before, read_to_end, lines_for}
use Rattle.wh_report.proofs.dumps.write_rows.Goals as goal
use Rattle.wh_sql.proofs.Sparing.{stored_again, tables_again}

pub rows-init : goal.rows-init
rows-init g c =
    let layout = g.T.StoredTable.layout in
    record {
      reads = unread _ _ tt;
      writes = search rules;
      gone = λ gathered. record {
        done = [];
        going = begun (header_line layout) (row_line layout) _ _ gathered;
        typed = λ clean t same at. c.new-cursor.ensures.left layout (g.T.StoredTable.rows t);
        stored = λ clean stored same on. (seen_none layout (stored.rows g.T.KeyedTable.name) _ (c.new-cursor.ensures.left_stored layout g.T.KeyedTable.bind (stored.rows g.T.KeyedTable.name)), none_ahead layout.is_valid _ c.new-cursor.ensures.none);
      };
    }

pub rows-preserved : goal.rows-preserved
rows-preserved g c =
    let layout = g.T.StoredTable.layout in
    let kept = c.rows.invariant in
    let read = c.in-Ok-Some.ensures in
    let row = c.in-Ok-Some.row in
    record {
      reads = handed_out _ _ _ _ _ _ _ c.in-Ok-Some.field-0 kept.reads (through g.S.Store _ _ _ read.reads read.serves);
      writes = read.reads.writes ∙ kept.writes;
      gone = λ gathered.
          let it = kept.gone gathered in
          record {
            done = it.done ++ row ∷ [];
            going = row_added (header_line layout) (row_line layout) _ _ _ _ _ it.done row c.in_ok-write_row-in-Ok-Some.field-0 it.going (c.in_ok-write_row-in-Ok-Some.ensures.out it.going.rest it.going.gathered);
            typed = λ clean t same at.
                let before = read.reads.spares.clean clean in
                one_more it.done _ _ _ row (row_handed _ _ _ row c.in-Ok-Some.field-0-is (read.hands.rows clean t (same ∙ sym (ap (λ (s : Session). is_there g.T.KeyedTable.name s.format) kept.reads.noted)) (tables_again kept.reads.spares before t at tt))) (it.typed before t same at);
            stored = λ clean stored same on.
                let before = read.reads.spares.clean clean in
                let there = same ∙ sym (ap (λ (s : Session). is_there g.T.KeyedTable.name s.format) kept.reads.noted) in
                let rests = stored_again kept.reads.spares before stored on tt in
                let seen = it.stored before stored same on in
                let good = valid_hands _ _ _ row c.in-Ok-Some.field-0-is (read.hands.valid clean stored there rests seen.1) in
                (seen_one layout (stored.rows g.T.KeyedTable.name) _ _ it.done row seen.0 good.0 (row_hands layout g.T.KeyedTable.bind (stored.rows g.T.KeyedTable.name) _ _ _ _ row _ c.in-Ok-Some.field-0-is (read.hands.stored clean stored there rests)), good.1);
          };
    }

pub returns-in_err-write_row-in-Ok-Some-clause-reads : goal.returns-in_err-write_row-in-Ok-Some-clause-reads
returns-in_err-write_row-in-Ok-Some-clause-reads g c =
    let read = c.in-Ok-Some.ensures in
    let p = err_from_is_err_and c.from_residual.result c.from_residual.ensures.1 in
    rw (p.1, p.2) (ended {B = Unit {0}} _ _ _ _ tt (Err c.in_err-write_row-in-Ok-Some.field-0.0) c.in_err-write_row-in-Ok-Some.ensures.kinds (handed_out _ _ _ _ _ _ _ c.in-Ok-Some.field-0 c.rows.invariant.reads (through g.S.Store _ _ _ read.reads read.serves)))

pub returns-in_err-write_row-in-Ok-Some-clause-out : goal.returns-in_err-write_row-in-Ok-Some-clause-out
returns-in_err-write_row-in-Ok-Some-clause-out g c gathered unflagged clean t same at =
    let layout = g.T.StoredTable.layout in
    let kept = c.rows.invariant in
    let read = c.in-Ok-Some.ensures in
    let failed = c.in_err-write_row-in-Ok-Some in
    let before = read.reads.spares.clean clean in
    let it = kept.gone gathered in
    let left = row_handed _ _ _ c.in-Ok-Some.row c.in-Ok-Some.field-0-is (read.hands.rows clean t (same ∙ sym (ap (λ (s : Session). is_there g.T.KeyedTable.name s.format) kept.reads.noted)) (tables_again kept.reads.spares before t at tt)) in
    let all = ap (λ rows. it.done ++ rows) (sym left) ∙ it.typed before t same at in
    let p = err_from_is_err_and c.from_residual.result c.from_residual.ensures.1 in
    rw (p.1, p.2) (lines_for (header_line layout) (row_line layout) (Err failed.field-0.0) (g.W.Write.contents c.args.out.now) (g.W.Write.contents c.write_row.new.out) _ _ all
    (row_not_added (header_line layout) (row_line layout) _ c.write_row.new.part _ _ _ it.done c.in-Ok-Some.row _ failed.field-0.0 it.going failed.ensures.kinds (failed.ensures.out it.going.rest it.going.gathered)))

pub returns-in_err-write_row-in-Ok-Some-clause-stored : goal.returns-in_err-write_row-in-Ok-Some-clause-stored
returns-in_err-write_row-in-Ok-Some-clause-stored g c gathered unflagged clean stored same on =
    let layout = g.T.StoredTable.layout in
    let rows = stored.rows g.T.KeyedTable.name in
    let kept = c.rows.invariant in
    let read = c.in-Ok-Some.ensures in
    let failed = c.in_err-write_row-in-Ok-Some in
    let row = c.in-Ok-Some.row in
    let before = read.reads.spares.clean clean in
    let there = same ∙ sym (ap (λ (s : Session). is_there g.T.KeyedTable.name s.format) kept.reads.noted) in
    let rests = stored_again kept.reads.spares before stored on tt in
    let it = kept.gone gathered in
    let seen = it.stored before stored same on in
    let good = valid_hands _ _ _ row c.in-Ok-Some.field-0-is (read.hands.valid clean stored there rests seen.1) in
    let with_row = seen_one layout rows _ _ it.done row seen.0 good.0 (row_hands layout g.T.KeyedTable.bind rows _ _ _ _ row _ c.in-Ok-Some.field-0-is (read.hands.stored clean stored there rests)) in
    let p = err_from_is_err_and c.from_residual.result c.from_residual.ensures.1 in
    rw (p.1, p.2) (record {
      rows = it.done ++ row ∷ [];
      read = seen_some layout rows _ (it.done ++ row ∷ []) with_row (left_there layout g.T.KeyedTable.bind rows _ _ _);
      out = row_not_added (header_line layout) (row_line layout) _ c.write_row.new.part _ _ _ it.done row [] failed.field-0.0 it.going failed.ensures.kinds (failed.ensures.out it.going.rest it.going.gathered);
      named = names_none g.T.KeyedTable.name failed.field-0.0 failed.ensures.kinds;
    })

pub returns-in-Ok-None-clause-reads : goal.returns-in-Ok-None-clause-reads
returns-in-Ok-None-clause-reads g c =
    ended {B = Unit {0}} _ _ _ _ tt c.go_out.result c.go_out.ensures.kinds (handed_out _ _ _ _ _ _ _ c.in-Ok-None.field-0 c.rows.invariant.reads (through g.S.Store _ _ _ c.in-Ok-None.ensures.reads c.in-Ok-None.ensures.serves))

pub returns-in-Ok-None-clause-out : goal.returns-in-Ok-None-clause-out
returns-in-Ok-None-clause-out g c gathered unflagged clean t same at =
    let layout = g.T.StoredTable.layout in
    let kept = c.rows.invariant in
    let read = c.in-Ok-None.ensures in
    let before = read.reads.spares.clean clean in
    let it = kept.gone gathered in
    let none = none_handed _ _ _ c.in-Ok-None.field-0-is (read.hands.rows clean t (same ∙ sym (ap (λ (s : Session). is_there g.T.KeyedTable.name s.format) kept.reads.noted)) (tables_again kept.reads.spares before t at tt)) in
    let all = sym (append-nil it.done) ∙ ap (λ rows. it.done ++ rows) (sym none) ∙ it.typed before t same at in
    lines_for (header_line layout) (row_line layout) _ _ _ _ _ all
    (last_out (header_line layout) (row_line layout) _ _ _ _ it.done c.go_out.result it.going (subst (IsOutWhole c.go_out.result _ _) it.going.gathered.lines c.go_out.ensures.out))

pub returns-in-Ok-None-clause-stored : goal.returns-in-Ok-None-clause-stored
returns-in-Ok-None-clause-stored g c gathered unflagged clean stored same on =
    let layout = g.T.StoredTable.layout in
    let rows = stored.rows g.T.KeyedTable.name in
    let kept = c.rows.invariant in
    let read = c.in-Ok-None.ensures in
    let before = read.reads.spares.clean clean in
    let there = same ∙ sym (ap (λ (s : Session). is_there g.T.KeyedTable.name s.format) kept.reads.noted) in
    let rests = stored_again kept.reads.spares before stored on tt in
    let it = kept.gone gathered in
    let seen = it.stored before stored same on in
    record {
      rows = it.done;
      read = read_to_end layout rows it.done c.go_out.result (seen_all layout rows _ it.done seen.0 (none_hands layout g.T.KeyedTable.bind rows _ _ _ _ _ c.in-Ok-None.field-0-is (read.hands.stored clean stored there rests)));
      out = last_out (header_line layout) (row_line layout) _ _ _ _ it.done c.go_out.result it.going (subst (IsOutWhole c.go_out.result _ _) it.going.gathered.lines c.go_out.ensures.out);
      named = named_none g.T.KeyedTable.name c.go_out.result c.go_out.ensures.kinds;
    }

pub returns-in-Err-clause-reads : goal.returns-in-Err-clause-reads
returns-in-Err-clause-reads g c =
    rw (told_fault _ _ _ _ _ c.go_out_before.ensures) (faulted _ _ _ _ _ (and_then _ _ _ _ _ _ tt (Err c.in-Err.fault) c.rows.invariant.reads (through g.S.Store _ _ _ c.in-Err.ensures.reads c.in-Err.ensures.serves)))

pub returns-in-Err-clause-out : goal.returns-in-Err-clause-out
returns-in-Err-clause-out g c gathered unflagged clean t same at =
    let layout = g.T.StoredTable.layout in
    let kept = c.rows.invariant in
    let read = c.in-Err.ensures in
    let it = kept.gone gathered in
    lines_for (header_line layout) (row_line layout) (Err c.go_out_before.result) (g.W.Write.contents c.args.out.now) (g.W.Write.contents c.go_out_before.new.out) _ _ (it.typed (read.reads.spares.clean clean) t same at)
    (stopped (header_line layout) (row_line layout) _ _ _ _ it.done _ c.in-Err.fault c.go_out_before.result it.going (never_reopen _ _ c.in-Err.fault unflagged kept.reads.noted (λ is. read.reads.shuts.only (ap Err is)))
    (subst (IsOutBefore c.in-Err.fault c.go_out_before.result _ _) it.going.gathered.lines c.go_out_before.ensures))

pub returns-in-Err-clause-stored : goal.returns-in-Err-clause-stored
returns-in-Err-clause-stored g c gathered unflagged clean stored same on =
    let layout = g.T.StoredTable.layout in
    let rows = stored.rows g.T.KeyedTable.name in
    let kept = c.rows.invariant in
    let read = c.in-Err.ensures in
    let before = read.reads.spares.clean clean in
    let it = kept.gone gathered in
    let seen = it.stored before stored same on in
    record {
      rows = it.done;
      read = seen_some layout rows _ it.done seen.0 (left_there layout g.T.KeyedTable.bind rows _ _ _);
      out = lines_for (header_line layout) (row_line layout) (Err c.go_out_before.result) (g.W.Write.contents c.args.out.now) (g.W.Write.contents c.go_out_before.new.out) _ _ (append-nil it.done)
          (stopped (header_line layout) (row_line layout) _ _ _ _ it.done [] c.in-Err.fault c.go_out_before.result it.going (never_reopen _ _ c.in-Err.fault unflagged kept.reads.noted (λ is. read.reads.shuts.only (ap Err is)))
          (subst (IsOutBefore c.in-Err.fault c.go_out_before.result _ _) it.going.gathered.lines c.go_out_before.ensures));
      named = named_before g.T.KeyedTable.name c.in-Err.fault c.go_out_before.result _ _ _ c.go_out_before.ensures (read.hands.named clean stored (stored_again kept.reads.spares before stored on tt));
    }

pub returns-in-Err-clause-kinds : goal.returns-in-Err-clause-kinds
returns-in-Err-clause-kinds g c = told_dump _ _ _ _ _ c.go_out_before.ensures

pub returns-clause-reads : goal.returns-clause-reads
returns-clause-reads g c = rw (told_fault _ _ _ _ _ c.go_out_before-2.ensures) (out_of_memory _ _ _ _ _ c.rows.invariant.reads)

pub returns-clause-out : goal.returns-clause-out
returns-clause-out g c gathered unflagged clean t same at =
    let layout = g.T.StoredTable.layout in
    let it = c.rows.invariant.gone gathered in
    lines_for (header_line layout) (row_line layout) (Err c.go_out_before-2.result) (g.W.Write.contents c.args.out.now) (g.W.Write.contents c.go_out_before-2.new.out) _ _ (it.typed clean t same at)
    (stopped (header_line layout) (row_line layout) _ _ _ _ it.done _ faults.Memory c.go_out_before-2.result it.going (λ e. cc) (subst (IsOutBefore faults.Memory c.go_out_before-2.result _ _) it.going.gathered.lines c.go_out_before-2.ensures))

pub returns-clause-stored : goal.returns-clause-stored
returns-clause-stored g c gathered unflagged clean stored same on =
    let layout = g.T.StoredTable.layout in
    let rows = stored.rows g.T.KeyedTable.name in
    let it = c.rows.invariant.gone gathered in
    let seen = it.stored clean stored same on in
    record {
      rows = it.done;
      read = seen_some layout rows _ it.done seen.0 (left_there layout g.T.KeyedTable.bind rows _ _ _);
      out = lines_for (header_line layout) (row_line layout) (Err c.go_out_before-2.result) (g.W.Write.contents c.args.out.now) (g.W.Write.contents c.go_out_before-2.new.out) _ _ (append-nil it.done)
          (stopped (header_line layout) (row_line layout) _ _ _ _ it.done [] faults.Memory c.go_out_before-2.result it.going (λ e. cc) (subst (IsOutBefore faults.Memory c.go_out_before-2.result _ _) it.going.gathered.lines c.go_out_before-2.ensures));
      named = named_before g.T.KeyedTable.name faults.Memory c.go_out_before-2.result _ _ _ c.go_out_before-2.ensures tt;
    }

pub returns-clause-kinds : goal.returns-clause-kinds
returns-clause-kinds g c = told_dump _ _ _ _ _ c.go_out_before-2.ensures
