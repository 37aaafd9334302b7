use Rattle.std.proofs.Common.{◌≡◌, ◌+◌, ◌++◌, [], Some, subst, sym, ap, ◌∙◌, arith, rules, refl, length, length-append}
use Rattle.std.proofs.lemmas.List.{append_assoc}
use Rattle.std.proofs.lemmas.Result.{err_from_is_err_and}
use Rattle.std.specs.Slice.Iter.{chunks_rest}
use Rattle.sqlite.specs.Held.{state}
use Rattle.sqlite_rules.specs.Lists.{Has}
use Rattle.sqlite_rules.proofs.ListLemmas.{has_left, has_right}
use Rattle.wh_rows.specs.AtRest.{IsWriting}
use Rattle.wh_rows.specs.Steps.{after_all}
use Rattle.wh_sql.specs.Edits.{with_edit, IsValid, Puts, IsOfTypes, runs_of}
use Rattle.wh_sql.proofs.InParts.{run_among, part_refused}
use Rattle.wh_sql.proofs.Looping.{IsOnTheWay, part_may, part_way, way_ends}
use Rattle.wh_sql.proofs.writing.Writing.edit_in_parts.Goals as goal

pub loop-part-init : goal.loop-part-init
loop-part-init g c =
    let table = g.T.StoredTable in
    let step = with_edit table.layout in
    let may_put = Puts (IsValid table.layout) in
    let edits = c.args.edits.now in
    let rest : chunks_rest c.into_iter-part-iterator.result ≡ edits = search rules in
    record {
      can_next = search rules;
      is_finite = tt;
      size = search rules;
      same_reference = refl;
      clean = λ clean. clean;
      counts = omega arith;
      counted = ap (λ es. c.args.self.now.writes + length es) rest;
      noted = refl;
      follows = ([], sym rest);
      put = λ clean before made at may. (
        made,
        at,
        subst (λ es. IsOnTheWay step may_put table.rows table.with_rows es made (table.with_rows (after_all step edits (table.rows made)) made)) (sym rest) (record { may_all = may; leads = refl }),
      );
    }

pub loop-part-preserved : goal.loop-part-preserved
loop-part-preserved g c =
    let table = g.T.StoredTable in
    let step = with_edit table.layout in
    let may_put = Puts (IsValid table.layout) in
    let kept = c.loop-part.invariant in
    let steps = c.in-Some.ensures.steps in
    let part = c.in-Some.part.now in
    let rest = chunks_rest c.next.new.self in
    record {
      can_next = search rules;
      is_finite = tt;
      size = steps.0 ∙ kept.size;
      same_reference = c.edit_part.ensures.same_reference ∙ kept.same_reference;
      clean = λ clean. kept.clean (c.edit_part.ensures.writes.clean clean);
      counts = omega (arith, kept.counts, c.edit_part.ensures.writes.counts);
      counted = let long = ap length steps.1.0 ∙ length-append part rest in omega (arith, c.in_ok-edit_part.ensures.counted, kept.counted, long);
      noted = c.in_ok-edit_part.ensures.noted ∙ kept.noted;
      follows = (kept.follows.0 ++ part, kept.follows.1 ∙ ap (λ es. kept.follows.0 ++ es) steps.1.0 ∙ sym (append_assoc kept.follows.0 part rest));
      put = λ clean before made at may.
          let was = kept.put (c.edit_part.ensures.writes.clean clean) before made at may in
          let whole = table.with_rows (after_all step c.args.edits.now (table.rows made)) made in
          let way = subst (λ es. IsOnTheWay step may_put table.rows table.with_rows es was.0 whole) steps.1.0 was.2 in (
            _,
            c.in_ok-edit_part.ensures.edited clean before was.0 was.1 (part_may table.layout step may_put table.rows table.with_rows g.met.T.KeyedTable.means.placed part rest was.0 whole way),
            part_way table.layout step may_put table.rows table.with_rows g.met.T.KeyedTable.means.placed part rest was.0 whole way,
          );
    }

pub returns-in_err-edit_part : goal.returns-in_err-edit_part
returns-in_err-edit_part g c =
    let p = err_from_is_err_and c.from_residual.result c.from_residual.ensures.1 in
    rw (p.1, p.2) (record {
      same_reference = c.edit_part.ensures.same_reference ∙ c.loop-part.invariant.same_reference;
      writes =
          let table = g.T.StoredTable in
          let step = with_edit table.layout in
          let may_put = Puts (IsValid table.layout) in
          let kept = c.loop-part.invariant in
          let is = c.in-Some.ensures.steps.1.0 in
          record {
            clean = λ clean. kept.clean (c.edit_part.ensures.writes.clean clean);
            counts = omega (arith, kept.counts, c.edit_part.ensures.writes.counts);
            left = λ clean before made at may.
                let was = kept.put (c.edit_part.ensures.writes.clean clean) before made at may in
                let whole = table.with_rows (after_all step c.args.edits.now (table.rows made)) made in
                let way = subst (λ es. IsOnTheWay step may_put table.rows table.with_rows es was.0 whole) is was.2 in
                c.edit_part.ensures.writes.left clean before was.0 was.1 (part_may table.layout step may_put table.rows table.with_rows g.met.T.KeyedTable.means.placed c.in-Some.part.now (chunks_rest c.next.new.self) was.0 whole way);
          };
      edited = λ clean before made at may. tt;
      cause = λ clean before made at may typed room.
          let table = g.T.StoredTable in
          let step = with_edit table.layout in
          let may_put = Puts (IsValid table.layout) in
          let kept = c.loop-part.invariant in
          let steps = c.in-Some.ensures.steps in
          let part = c.in-Some.part.now in
          let rest = chunks_rest c.next.new.self in
          let edits = c.args.edits.now in
          let was = kept.put (c.edit_part.ensures.writes.clean clean) before made at may in
          let whole = table.with_rows (after_all step edits (table.rows made)) made in
          let way = subst (λ es. IsOnTheWay step may_put table.rows table.with_rows es was.0 whole) steps.1.0 was.2 in
          let done = kept.follows.0 in
          let all : edits ≡ done ++ (part ++ rest) = kept.follows.1 ∙ ap (λ es. done ++ es) steps.1.0 in
          let long = ap length steps.1.0 in
          let size = steps.1.1 in
          let some = steps.1.2 in
          let run : Has (runs_of edits) part = subst (λ es. Has (runs_of es) part) (sym all) (run_among done part rest (rw (kept.size, long) at size) (rw long at some)) in
          let own : (edit : _) → Has part edit → IsOfTypes table.layout edit = λ edit here. typed edit (subst (λ es. Has es edit) (sym all) (has_right done (part ++ rest) edit (has_left part rest edit here))) in
          let longer = long ∙ length-append part rest in
          let refused = c.in_err-edit_part.ensures.cause clean before was.0 was.1 (part_may table.layout step may_put table.rows table.with_rows g.met.T.KeyedTable.means.placed part rest was.0 whole way) own (omega (arith, kept.counted, longer, room)) in
          (λ other. part_refused g.S.Store table.layout g.T.KeyedTable.texts g.T.KeyedTable.bind g.T.BatchedTable.insert_means c.args.self.now.tables.now.conn c.edit_part.new.self.tables.now.conn part c.in_err-edit_part.field-0.0
          c.loop-part.self.tables.now.conn kept.counts edits run (refused other));
      counted = tt;
      noted = c.in_err-edit_part.ensures.noted;
    })

pub returns : goal.returns
returns g c = record {
  same_reference = c.loop-part.invariant.same_reference;
  writes =
      record {
        clean = c.loop-part.invariant.clean;
        counts = c.loop-part.invariant.counts;
        left = λ clean before made at may. (c.loop-part.invariant.put clean before made at may).1.left;
      };
  edited = λ clean before made at may.
      let table = g.T.StoredTable in
      let was = c.loop-part.invariant.put clean before made at may in
      subst (λ all. IsWriting before (Some all) (state g.S.Store c.loop-part.self.tables.now.conn)) (way_ends table.layout (with_edit table.layout) (Puts (IsValid table.layout)) table.rows table.with_rows g.met.T.KeyedTable.means.placed (chunks_rest c.loop-part.part-iterator) 0 was.0 _ (omega (arith, c.in-None.ensures.steps.1.0)) was.2) was.1;
  cause = λ clean before made at may typed room. tt;
  counted = omega (arith, c.loop-part.invariant.counted, c.in-None.ensures.steps.1.0);
  noted = c.loop-part.invariant.noted;
}
