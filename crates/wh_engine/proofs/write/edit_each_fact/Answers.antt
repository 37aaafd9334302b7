use Rattle.std.proofs.Common.{Some, subst, ◌∙◌, arith}
use Rattle.sqlite.specs.Held.{state}
use Rattle.wh_rows.specs.AtRest.{IsWriting}
use Rattle.wh_sql.proofs.Looping.{next_is}
use Rattle.wh_engine.proofs.PutFacts.{next_may, next_way, way_ends}
use Rattle.wh_engine.proofs.write.edit_each_fact.Goals as goal

pub returns-in_err-edit_fact-clause-writes : goal.returns-in_err-edit_fact-clause-writes
returns-in_err-edit_fact-clause-writes g c = record {
  clean = λ clean. c.loop-edit.invariant.clean (c.edit_fact.ensures.writes.clean clean);
  counts = omega (arith, c.loop-edit.invariant.counts, c.edit_fact.ensures.writes.counts);
  left = λ clean before made at may. let was = c.loop-edit.invariant.put (c.edit_fact.ensures.writes.clean clean) before made at may in c.edit_fact.ensures.writes.left clean before was.0 was.1 tt;
}

pub loop-edit-preserved : goal.loop-edit-preserved
loop-edit-preserved g c =
    let kept = c.loop-edit.invariant in
    record {
      same_reference = c.edit_fact.ensures.same_reference ∙ kept.same_reference;
      clean = λ clean. kept.clean (c.edit_fact.ensures.writes.clean clean);
      counts = omega (arith, kept.counts, c.in_ok-edit_fact.ensures.writes.counts);
      counted = omega (arith, c.in_ok-edit_fact.ensures.counted, kept.counted);
      put = λ clean before made at may.
          let was = kept.put (c.edit_fact.ensures.writes.clean clean) before made at may in
          let next = next_is c.args.edits.now c.loop-edit.edit-index c.edit-item.result c.loop-edit-test.true c.edit-item.is in
          let one = next_may c.args.edits.now c.loop-edit.edit-index c.edit-item.result was.0 _ next c.args.format was.2 in
          (_, c.in_ok-edit_fact.ensures.edited clean before was.0 was.1 one, next_way c.args.edits.now c.loop-edit.edit-index c.edit-item.result was.0 _ next c.args.format was.2);
    }

pub returns-clause-edited : goal.returns-clause-edited
returns-clause-edited g c clean before made at may =
    let was = c.loop-edit.invariant.put clean before made at may in
    subst (λ all. IsWriting before (Some all) (state g.S.Store c.loop-edit.writing.tables.now.conn)) (way_ends c.args.format c.args.edits.now c.loop-edit.edit-index was.0 _ c.loop-edit-test.false was.2) was.1

pub returns-clause-writes : goal.returns-clause-writes
returns-clause-writes g c = record {
  clean = c.loop-edit.invariant.clean;
  counts = c.loop-edit.invariant.counts;
  left = λ clean before made at may. (c.loop-edit.invariant.put clean before made at may).1.left;
}
