use Rattle.std.proofs.Common.{◌≡◌, Bool, true, false, List, [], ◌∷◌, Option, subst, ◌∙◌, refl}
use Rattle.std.specs.Prelude.{IsTrue, IfSome}
use Rattle.std.specs.FinMap.{values, get}
use Rattle.sqlite.specs.Order.{Row}
use Rattle.std.proofs.lemmas.Result.{err_from_is_err_and}
use Rattle.wh_rows.specs.Parts.{forward, stands_behind}
use Rattle.wh_sql.specs.Answers.{state_of}
use Rattle.wh_store.specs.Scan.{AreLeft, HandsOutOf, rows_left}
use Rattle.wh_checking.proofs.Comparing.{HasSeen, seen_none, seen_next, seen_past, compared, compared_other, part_damaged}
use Rattle.wh_checking.proofs.ListedMaps.{rows_or_not, listed}
use Rattle.wh_sql.proofs.InTurn.{answers_other, reads_nothing, runs_out, then_failed, then_reads}
use Rattle.wh_checking.proofs.compare.has_the_same_rows.Goals as goal
use Rattle.wh_checking.proofs.compare.has_the_same_rows.Goals.{then-same+in_ok-same-in-Some, else-same}
use Rattle.wh_sql.proofs.Sparing.{stored_again}

pub rows-init : goal.rows-init
rows-init g c =
    let layout = g.T.StoredTable.layout in
    record {
      reads = reads_nothing;
      rests = λ t at. at;
      valid = λ clean stored at here. rw c.new-cursor.ensures.none refl;
      seen = λ clean stored at here t there rest.
          seen_none layout g.T.KeyedTable.bind g.T.KeyedTable.stands_at g.met.T.PagedTable.keyed (stored.rows g.T.KeyedTable.name) (g.met.T.PagedTable.once (state_of g.S.Store c.args.tables.now).now stored at.now) (values (g.T.StoredTable.rows t))
          (rows_left layout (g.T.StoredTable.rows t) c.new-ahead.result) (AreLeft layout g.T.KeyedTable.bind (stored.rows g.T.KeyedTable.name) c.new-cursor.result)
          (c.new-ahead.ensures.left layout (g.T.StoredTable.rows t)) (λ left are. c.new-cursor.ensures.left_stored layout g.T.KeyedTable.bind (stored.rows g.T.KeyedTable.name) left are);
    }

pub returns-in_err-row-clause-damaged : goal.returns-in_err-row-clause-damaged
returns-in_err-row-clause-damaged g c clean stored at =
    let read = c.in_err-row.ensures in
    let p = err_from_is_err_and c.from_residual.result c.from_residual.ensures.1 in
    rw (p.1, p.2) (part_damaged (forward g.T.PagedTable.part_texts.most) g.T.StoredTable.layout g.T.KeyedTable.name (stands_behind g.T.StoredTable.layout g.T.KeyedTable.bind c.rows.cursor.unread.after) (stored.rows g.T.KeyedTable.name) c.in_err-row.field-0.0
    (read.next.damaged clean stored (stored_again c.rows.invariant.reads.spares (read.next.reads.spares.clean clean) stored at tt)))

pub returns-in_err-end-in-None-clause-reads : goal.returns-in_err-end-in-None-clause-reads
returns-in_err-end-in-None-clause-reads g c =
    let p = err_from_is_err_and c.from_residual-in_err-end-in-None.result c.from_residual-in_err-end-in-None.ensures.1 in
    rw (p.1, p.2) (runs_out (then_reads c.rows.invariant.reads c.in_ok-row.ensures.next.reads))

pub returns-in-None-clause-reads : goal.returns-in-None-clause-reads
returns-in-None-clause-reads g c = answers_other (then_reads c.rows.invariant.reads c.in_ok-row.ensures.next.reads)

pub returns-in-None-clause-rests : goal.returns-in-None-clause-rests
returns-in-None-clause-rests g c t at = c.in_ok-end-in-None.ensures.rests t (c.rows.invariant.rests t at)

pub returns-then-not-same-clause-same : goal.returns-then-not-same-clause-same
returns-then-not-same-clause-same g c clean stored at here t there rest =
    let layout = g.T.StoredTable.layout in
    let bind = g.T.KeyedTable.bind in
    let rows = stored.rows g.T.KeyedTable.name in
    let placed = g.met.T.KeyedTable.means.placed in
    let m = g.T.StoredTable.rows t in
    let second = (state_of g.M.Store c.args.expected.now).now in
    let all = listed layout m (get m) (placed.keyed second t rest.1.now.tables) (placed.valid second t rest.1.now.tables) (λ _. refl) in
    let kept = c.rows.invariant in
    let read = c.in_ok-row.ensures in
    let before = read.next.reads.spares.clean clean in
    let Left = AreLeft layout bind rows c.rows.cursor in
    let ends : Left [] = subst (λ (found : Option _). HandsOutOf layout bind rows c.rows.cursor found c.next_row.new.cursor) c.in-None.is (read.next.stored clean stored here (stored_again kept.reads.spares before stored at tt)) in
    let once = g.met.T.PagedTable.once (state_of g.S.Store c.args.tables.now).now stored at.now in
    let left = rows_left layout m c.rows.ahead in
    let seen : HasSeen layout rows (values m) left Left false = subst (HasSeen layout rows (values m) left Left) c.if-not-same.true (kept.seen before stored at here t there rest) in
    rows_or_not layout placed.total placed.same m all rows false
    (compared_other layout bind g.T.KeyedTable.stands_at g.met.T.PagedTable.keyed rows once (values m) all.rise Left ends left seen)

pub returns-in-None-clause-same : goal.returns-in-None-clause-same
returns-in-None-clause-same g c clean stored at here t there rest =
    let layout = g.T.StoredTable.layout in
    let bind = g.T.KeyedTable.bind in
    let rows = stored.rows g.T.KeyedTable.name in
    let placed = g.met.T.KeyedTable.means.placed in
    let m = g.T.StoredTable.rows t in
    let second = (state_of g.M.Store c.args.expected.now).now in
    let all = listed layout m (get m) (placed.keyed second t rest.1.now.tables) (placed.valid second t rest.1.now.tables) (λ _. refl) in
    let kept = c.rows.invariant in
    let read = c.in_ok-row.ensures in
    let before = read.next.reads.spares.clean clean in
    let Left = AreLeft layout bind rows c.rows.cursor in
    let ends : Left [] = subst (λ (found : Option _). HandsOutOf layout bind rows c.rows.cursor found c.next_row.new.cursor) c.in-None.is (read.next.stored clean stored here (stored_again kept.reads.spares before stored at tt)) in
    let once = g.met.T.PagedTable.once (state_of g.S.Store c.args.tables.now).now stored at.now in
    let left = rows_left layout m c.rows.ahead in
    let seen : HasSeen layout rows (values m) left Left true = subst (HasSeen layout rows (values m) left Left) c.if-not-same.false (kept.seen before stored at here t there rest) in
    let end = c.in_ok-end-in-None.end in
    rows_or_not layout placed.total placed.same m all rows end
    (compared layout bind g.T.KeyedTable.stands_at g.met.T.PagedTable.keyed rows once (values m) all.rise Left ends left end (c.in_ok-end-in-None.ensures.end t there (kept.rests t rest)) seen)

pub rows-preserved : goal.rows-preserved
rows-preserved g c =
    let layout = g.T.StoredTable.layout in
    let bind = g.T.KeyedTable.bind in
    let kept = c.rows.invariant in
    let read = c.in_ok-row.ensures in
    let row = c.in-Some.row in
    record {
      reads = answers_other (then_reads kept.reads read.next.reads);
      rests = λ t at. elim c.if-same.branch [
        | then-same+in_ok-same-in-Some w ↦ rw w.expected-is (w.in_ok-same-in-Some.ensures.rests t (kept.rests t at))
        | else-same w ↦ rw w.expected-is (kept.rests t at)
      ];
      valid = λ clean stored at here.
          let before = read.next.reads.spares.clean clean in
          (read.valid clean stored here (stored_again kept.reads.spares before stored at tt) (kept.valid before stored at here)).1;
      seen = λ clean stored at here t there rest.
          let before = read.next.reads.spares.clean clean in
          let rows = stored.rows g.T.KeyedTable.name in
          let m = g.T.StoredTable.rows t in
          let then_at = stored_again kept.reads.spares before stored at tt in
          let Left = AreLeft layout bind rows c.rows.cursor in
          let Rest = AreLeft layout bind rows c.next_row.new.cursor in
          let hands : (left : List Row) → Rest left → Left (layout.encode row ∷ left) = subst (λ (found : Option _). HandsOutOf layout bind rows c.rows.cursor found c.next_row.new.cursor) c.in-Some.is (read.next.stored clean stored here then_at) in
          let good : IsTrue (layout.is_valid row) = subst (λ (found : Option _). IfSome found (λ r. IsTrue (layout.is_valid r))) c.in-Some.is (read.valid clean stored here then_at (kept.valid before stored at here)).0 in
          let once = g.met.T.PagedTable.once (state_of g.S.Store c.args.tables.now).now stored at.now in
          let keyed = g.met.T.PagedTable.keyed in
          let stands_at = g.T.KeyedTable.stands_at in
          let left = rows_left layout m c.rows.ahead in
          let now : (same : Bool) → c.rows.same ≡ same → HasSeen layout rows (values m) left Left same = λ same is. subst (HasSeen layout rows (values m) left Left) is (kept.seen before stored at here t there rest) in
          elim c.if-same.branch [
            | then-same+in_ok-same-in-Some w ↦
                let next = w.in_ok-same-in-Some.ensures.next t there (kept.rests t rest) in
                rw (w.ahead-is, w.same-is)
                (seen_next layout bind stands_at keyed rows once (values m) Left Rest row good hands left (rows_left layout m w.is_next.new.ahead) w.in_ok-same-in-Some.same (now true w.if-same.true) next)
            | else-same w ↦
                rw (w.ahead-is, w.same-is ∙ w.if-same.false)
                (seen_past layout bind stands_at keyed rows once (values m) Left Rest row good hands left (now false w.if-same.false))
          ];
    }

pub returns-in_err-row-clause-reads : goal.returns-in_err-row-clause-reads
returns-in_err-row-clause-reads g c = then_failed c.rows.invariant.reads c.in_err-row.ensures.next.reads c.from_residual.ensures
