use Rattle.std.proofs.Common.{◌≡◌, ◌+◌, Some, subst, sym, ap, ◌∙◌, arith, rules, refl, length, length-append}
use Rattle.std.proofs.lemmas.List.{nil_from_length}
use Rattle.std.specs.Slice.Iter.{chunks_rest}
use Rattle.sqlite.specs.Held.{state}
use Rattle.wh_rows.specs.AtRest.{IsWriting}
use Rattle.wh_rows.specs.Tables.{Tables as TypedTables}
use Rattle.wh_plan.specs.Writable.{IsValidFactEdit}
use Rattle.wh_engine.specs.Writing.{AreValidFactEdits, with_fact_edits}
use Rattle.wh_engine.proofs.PutFacts.{put_none, parts_put}
use Rattle.wh_engine.proofs.write.edit_all_facts.Goals as goal
use Rattle.wh_history.proofs.Lists.{all_apart}

pub loop-part-init : goal.loop-part-init
loop-part-init g c =
    let rest : chunks_rest c.into_iter-part-iterator.result ≡ c.args.edits.now = search rules in
    record {
      can_next = search rules;
      is_finite = tt;
      size = search rules;
      same_reference = refl;
      clean = λ clean. clean;
      counts = omega arith;
      counted = ap (λ es. c.args.writing.now.writes + length es) rest;
      put = λ clean before made at may. (
        made,
        at,
        subst (AreValidFactEdits c.args.format) (sym rest) may,
        ap (λ es. with_fact_edits c.args.format es made) rest,
      );
    }

pub returns-in_err-edit_facts_at_once-clause-writes : goal.returns-in_err-edit_facts_at_once-clause-writes
returns-in_err-edit_facts_at_once-clause-writes g c =
    let kept = c.loop-part.invariant in
    let steps = c.in-Some.ensures.steps in
    record {
      clean = λ clean. kept.clean (c.edit_facts_at_once.ensures.writes.clean clean);
      counts = omega (arith, kept.counts, c.edit_facts_at_once.ensures.writes.counts);
      left = λ clean before made at may.
          let was = kept.put (c.edit_facts_at_once.ensures.writes.clean clean) before made at may in
          let parts = all_apart (IsValidFactEdit c.args.format) c.in-Some.part.now (chunks_rest c.next.new.self) (subst (AreValidFactEdits c.args.format) steps.1.0 was.2) in
          c.edit_facts_at_once.ensures.writes.left clean before was.0 was.1 parts.0;
    }

pub loop-part-preserved : goal.loop-part-preserved
loop-part-preserved g c =
    let kept = c.loop-part.invariant in
    let steps = c.in-Some.ensures.steps in
    let part = c.in-Some.part.now in
    let rest = chunks_rest c.next.new.self in
    let format = c.args.format in
    record {
      can_next = search rules;
      is_finite = tt;
      size = steps.0 ∙ kept.size;
      same_reference = c.edit_facts_at_once.ensures.same_reference ∙ kept.same_reference;
      clean = λ clean. kept.clean (c.edit_facts_at_once.ensures.writes.clean clean);
      counts = omega (arith, kept.counts, c.edit_facts_at_once.ensures.writes.counts);
      counted = let long = ap length steps.1.0 ∙ length-append part rest in omega (arith, c.in_ok-edit_facts_at_once.ensures.counted, kept.counted, long);
      put = λ clean before made at may.
          let was = kept.put (c.edit_facts_at_once.ensures.writes.clean clean) before made at may in
          let mid = was.0 in
          let parts = all_apart (IsValidFactEdit format) part rest (subst (AreValidFactEdits format) steps.1.0 was.2) in
          let now : TypedTables = with_fact_edits format part mid in
          let leads : with_fact_edits format (chunks_rest c.loop-part.part-iterator) mid ≡ with_fact_edits format rest now =
          ap (λ es. with_fact_edits format es mid) steps.1.0 ∙ parts_put format part rest mid in
          (now, c.in_ok-edit_facts_at_once.ensures.edited clean before mid was.1 parts.0, parts.1, sym leads ∙ was.3);
    }

pub returns-clause-edited : goal.returns-clause-edited
returns-clause-edited g c clean before made at may =
    let was = c.loop-part.invariant.put clean before made at may in
    let none = nil_from_length _ c.in-None.ensures.steps.1.0 in
    let ends = ap (λ es. with_fact_edits c.args.format es was.0) none in
    subst (λ all. IsWriting before (Some all) (state g.S.Store c.loop-part.writing.tables.now.conn)) (sym (put_none c.args.format was.0) ∙ sym ends ∙ was.3) was.1

pub returns-clause-counted : goal.returns-clause-counted
returns-clause-counted g c = omega (arith, c.loop-part.invariant.counted, c.in-None.ensures.steps.1.0)

pub returns-clause-writes : goal.returns-clause-writes
returns-clause-writes g c = record {
  clean = c.loop-part.invariant.clean;
  counts = c.loop-part.invariant.counts;
  left = λ clean before made at may. (c.loop-part.invariant.put clean before made at may).1.left;
}
