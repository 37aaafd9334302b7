use Rattle.std.proofs.Common.{rules, Some, subst, ◌∙◌, arith}
use Rattle.std.proofs.lemmas.Result.{err_from_is_err_and}
use Rattle.sqlite.specs.Held.{state}
use Rattle.wh_rows.specs.AtRest.{IsWriting, IsCauseOf}
use Rattle.wh_rows.specs.Steps.{with_row}
use Rattle.wh_sql.specs.Edits.{IsValid}
use Rattle.wh_sql.proofs.Refusals.{is_among, one_refused}
use Rattle.wh_sql.proofs.Looping.{next_is, next_may, next_way, way_ends}
use Rattle.wh_sql.proofs.writing.Writing.put_all.Goals as goal

pub loop-row-preserved : goal.loop-row-preserved
loop-row-preserved g c =
    let kept = c.loop-row.invariant in
    record {
      same_reference = c.put.ensures.same_reference ∙ kept.same_reference;
      clean = λ clean. kept.clean (c.put.ensures.writes.clean clean);
      counts = omega (arith, kept.counts, c.in_ok-put.ensures.writes.counts);
      put = λ clean before made at may.
          let was = kept.put (c.put.ensures.writes.clean clean) before made at may in
          let next = next_is c.args.rows.now c.loop-row.row-index c.row-item.result c.loop-row-test.true c.row-item.is in
          let one = next_may g.T.StoredTable.layout (with_row g.T.StoredTable.layout) (IsValid g.T.StoredTable.layout) g.T.StoredTable.rows g.T.StoredTable.with_rows g.met.T.KeyedTable.means.placed c.args.rows.now c.loop-row.row-index c.row-item.result was.0 _ next was.2 in
          (_, c.in_ok-put.ensures.edited clean before was.0 was.1 one, next_way g.T.StoredTable.layout (with_row g.T.StoredTable.layout) (IsValid g.T.StoredTable.layout) g.T.StoredTable.rows g.T.StoredTable.with_rows g.met.T.KeyedTable.means.placed c.args.rows.now c.loop-row.row-index c.row-item.result was.0 _ next was.2);
      counted = omega (arith, c.in_ok-put.ensures.counted, kept.counted);
      noted = c.in_ok-put.ensures.noted ∙ kept.noted;
    }

pub returns-in_err-put : goal.returns-in_err-put
returns-in_err-put g c =
    let p = err_from_is_err_and c.from_residual.result c.from_residual.ensures.1 in
    rw (p.1, p.2) (record {
      same_reference = c.put.ensures.same_reference ∙ c.loop-row.invariant.same_reference;
      writes =
          record {
            clean = λ clean. c.loop-row.invariant.clean (c.put.ensures.writes.clean clean);
            counts = omega (arith, c.loop-row.invariant.counts, c.put.ensures.writes.counts);
            left = λ clean before made at may. let was = c.loop-row.invariant.put (c.put.ensures.writes.clean clean) before made at may in c.put.ensures.writes.left clean before was.0 was.1 tt;
          };
      edited = λ clean before made at may. tt;
      cause = λ clean before made at may types room.
          let was = c.loop-row.invariant.put (c.put.ensures.writes.clean clean) before made at may in
          let among = is_among c.args.rows.now c.loop-row.row-index c.row-item.result c.loop-row-test.true c.row-item.is in
          let next = next_is c.args.rows.now c.loop-row.row-index c.row-item.result c.loop-row-test.true c.row-item.is in
          let one = next_may g.T.StoredTable.layout (with_row g.T.StoredTable.layout) (IsValid g.T.StoredTable.layout) g.T.StoredTable.rows g.T.StoredTable.with_rows g.met.T.KeyedTable.means.placed c.args.rows.now c.loop-row.row-index c.row-item.result was.0 _ next was.2 in
          let refused = c.in_err-put.ensures.cause clean was.1.inside (omega (arith, c.loop-row.invariant.counted, c.loop-row-test.true, room)) one in
          (λ other. one_refused g.S.Store c.args.self.now.tables.now.conn c.loop-row.self.tables.now.conn c.put.new.self.tables.now.conn c.loop-row.invariant.counts IsCauseOf (λ row. (g.T.KeyedTable.texts.put, g.T.StoredTable.layout.encode row)) c.args.rows.now c.row-item.result c.in_err-put.field-0.0 among (refused other));
      counted = tt;
      noted = c.in_err-put.ensures.noted;
    })

pub returns : goal.returns
returns g c = record {
  same_reference = c.loop-row.invariant.same_reference;
  writes =
      record {
        clean = c.loop-row.invariant.clean;
        counts = c.loop-row.invariant.counts;
        left = λ clean before made at may. (c.loop-row.invariant.put clean before made at may).1.left;
      };
  edited = λ clean before made at may.
      let was = c.loop-row.invariant.put clean before made at may in
      subst (λ all. IsWriting before (Some all) (state g.S.Store c.loop-row.self.tables.now.conn)) (way_ends g.T.StoredTable.layout (with_row g.T.StoredTable.layout) (IsValid g.T.StoredTable.layout) g.T.StoredTable.rows g.T.StoredTable.with_rows g.met.T.KeyedTable.means.placed c.args.rows.now c.loop-row.row-index was.0 _ c.loop-row-test.false was.2) was.1;
  cause = λ clean before made at may types room. tt;
  counted = search rules;
  noted = c.loop-row.invariant.noted;
}
