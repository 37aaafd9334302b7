use Rattle.std.proofs.Common.{rules, Some, subst, ◌∙◌, arith}
use Rattle.std.proofs.lemmas.Result.{err_from_is_err_and}
use Rattle.sqlite.specs.Held.{state}
use Rattle.wh_rows.specs.AtRest.{IsWriting, IsCauseOf}
use Rattle.wh_sql.specs.Edits.{with_edit, IsValid, Puts, statement_of}
use Rattle.wh_sql.proofs.Refusals.{is_among, one_refused}
use Rattle.wh_sql.proofs.Looping.{next_is, next_may, next_way, way_ends}
use Rattle.wh_sql.proofs.writing.Writing.edit_all.Goals as goal

pub loop-edit-preserved : goal.loop-edit-preserved
loop-edit-preserved g c =
    let kept = c.loop-edit.invariant in
    record {
      same_reference = c.edit.ensures.same_reference ∙ kept.same_reference;
      clean = λ clean. kept.clean (c.edit.ensures.writes.clean clean);
      counts = omega (arith, kept.counts, c.in_ok-edit.ensures.writes.counts);
      put = λ clean before made at may.
          let was = kept.put (c.edit.ensures.writes.clean clean) before made at may in
          let next = next_is c.args.edits.now c.loop-edit.edit-index c.edit-item.result c.loop-edit-test.true c.edit-item.is in
          let one = next_may g.T.StoredTable.layout (with_edit g.T.StoredTable.layout) (Puts (IsValid g.T.StoredTable.layout)) g.T.StoredTable.rows g.T.StoredTable.with_rows g.met.T.KeyedTable.means.placed c.args.edits.now c.loop-edit.edit-index c.edit-item.result was.0 _ next was.2 in
          (_, c.in_ok-edit.ensures.edited clean before was.0 was.1 one, next_way g.T.StoredTable.layout (with_edit g.T.StoredTable.layout) (Puts (IsValid g.T.StoredTable.layout)) g.T.StoredTable.rows g.T.StoredTable.with_rows g.met.T.KeyedTable.means.placed c.args.edits.now c.loop-edit.edit-index c.edit-item.result was.0 _ next was.2);
      counted = omega (arith, c.in_ok-edit.ensures.counted, kept.counted);
      noted = c.in_ok-edit.ensures.noted ∙ kept.noted;
    }

pub returns-in_err-edit : goal.returns-in_err-edit
returns-in_err-edit g c =
    let p = err_from_is_err_and c.from_residual.result c.from_residual.ensures.1 in
    rw (p.1, p.2) (record {
      same_reference = c.edit.ensures.same_reference ∙ c.loop-edit.invariant.same_reference;
      writes =
          record {
            clean = λ clean. c.loop-edit.invariant.clean (c.edit.ensures.writes.clean clean);
            counts = omega (arith, c.loop-edit.invariant.counts, c.edit.ensures.writes.counts);
            left = λ clean before made at may. let was = c.loop-edit.invariant.put (c.edit.ensures.writes.clean clean) before made at may in c.edit.ensures.writes.left clean before was.0 was.1 tt;
          };
      edited = λ clean before made at may. tt;
      cause = λ clean before made at may typed room.
          let was = c.loop-edit.invariant.put (c.edit.ensures.writes.clean clean) before made at may in
          let among = is_among c.args.edits.now c.loop-edit.edit-index c.edit-item.result c.loop-edit-test.true c.edit-item.is in
          let refused = c.in_err-edit.ensures.cause clean was.1.inside (omega (arith, c.loop-edit.invariant.counted, c.loop-edit-test.true, room)) (typed c.edit-item.result among) in
          (λ other. one_refused g.S.Store c.args.self.now.tables.now.conn c.loop-edit.self.tables.now.conn c.edit.new.self.tables.now.conn c.loop-edit.invariant.counts IsCauseOf (statement_of g.T.StoredTable.layout g.T.KeyedTable.texts g.T.KeyedTable.bind) c.args.edits.now c.edit-item.result c.in_err-edit.field-0.0 among (refused other));
      counted = tt;
      noted = c.in_err-edit.ensures.noted;
    })

pub returns : goal.returns
returns g c = record {
  same_reference = c.loop-edit.invariant.same_reference;
  writes =
      record {
        clean = c.loop-edit.invariant.clean;
        counts = c.loop-edit.invariant.counts;
        left = λ clean before made at may. (c.loop-edit.invariant.put clean before made at may).1.left;
      };
  edited = λ clean before made at may.
      let was = c.loop-edit.invariant.put clean before made at may in
      subst (λ all. IsWriting before (Some all) (state g.S.Store c.loop-edit.self.tables.now.conn)) (way_ends g.T.StoredTable.layout (with_edit g.T.StoredTable.layout) (Puts (IsValid g.T.StoredTable.layout)) g.T.StoredTable.rows g.T.StoredTable.with_rows g.met.T.KeyedTable.means.placed c.args.edits.now c.loop-edit.edit-index was.0 _ c.loop-edit-test.false was.2) was.1;
  cause = λ clean before made at may types room. tt;
  counted = search rules;
  noted = c.loop-edit.invariant.noted;
}
