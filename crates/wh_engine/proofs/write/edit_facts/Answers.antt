use Rattle.std.proofs.Common.{Some, OnOk, sym, subst, arith}
use Rattle.sqlite.specs.Held.{state}
use Rattle.wh_rows.specs.AtRest.{IsWriting}
use Rattle.wh_plan.specs.Edits.{Edits, with_first_facts, with_facts}
use Rattle.wh_plan.specs.Writable.{AreValidFacts}
use Rattle.wh_engine.proofs.write.edit_facts.Goals as goal

pub returns-in_err-edit_all-clause-writes : goal.returns-in_err-edit_all-clause-writes
returns-in_err-edit_all-clause-writes g c = record {
  clean = λ clean. c.edit_all.ensures.writes.clean clean;
  counts = omega (arith, c.edit_all.ensures.writes.counts);
  left = λ clean before made at may.
      let valid = subst AreValidFacts (sym c.edits.view_is) may in
      let left = rw c.deref.ensures.value at c.edit_all.ensures.writes.left in
      left clean before made at valid.profiles;
}

pub returns-in_err-edit_all-2-clause-writes : goal.returns-in_err-edit_all-2-clause-writes
returns-in_err-edit_all-2-clause-writes g c = record {
  clean = λ clean. c.edit_all.ensures.writes.clean (c.edit_all-2.ensures.writes.clean clean);
  counts = omega (arith, c.edit_all.ensures.writes.counts, c.edit_all-2.ensures.writes.counts);
  left = λ clean before made at may.
      let valid = subst AreValidFacts (sym c.edits.view_is) may in
      let edited = rw c.deref.ensures.value at c.in_ok-edit_all.ensures.edited in
      let left = rw c.deref-2.ensures.value at c.edit_all-2.ensures.writes.left in
      let one = c.edit_all-2.ensures.writes.clean clean in
      left clean before _ (edited one before made at valid.profiles) valid.calendar;
}

pub returns-in_err-edit_first_facts-clause-writes : goal.returns-in_err-edit_first_facts-clause-writes
returns-in_err-edit_first_facts-clause-writes g c = record {
  clean = λ clean. c.edit_all.ensures.writes.clean (c.edit_all-2.ensures.writes.clean (c.edit_first_facts.ensures.writes.clean clean));
  counts = omega (arith, c.edit_all.ensures.writes.counts, c.edit_all-2.ensures.writes.counts, c.edit_first_facts.ensures.writes.counts);
  left = λ clean before made at may.
      let valid = subst AreValidFacts (sym c.edits.view_is) may in
      let edited_1 = rw c.deref.ensures.value at c.in_ok-edit_all.ensures.edited in
      let edited_2 = rw c.deref-2.ensures.value at c.in_ok-edit_all-2.ensures.edited in
      let two = c.edit_first_facts.ensures.writes.clean clean in
      let one = c.edit_all-2.ensures.writes.clean two in
      c.edit_first_facts.ensures.writes.left clean before _ (edited_2 two before _ (edited_1 one before made at valid.profiles) valid.calendar) may.facts;
}

pub returns-in_err-edit_all_facts-clause-writes : goal.returns-in_err-edit_all_facts-clause-writes
returns-in_err-edit_all_facts-clause-writes g c = record {
  clean = λ clean. c.edit_all.ensures.writes.clean (c.edit_all-2.ensures.writes.clean (c.edit_first_facts.ensures.writes.clean (c.edit_all_facts.ensures.writes.clean clean)));
  counts = omega (arith, c.edit_all.ensures.writes.counts, c.edit_all-2.ensures.writes.counts, c.edit_first_facts.ensures.writes.counts, c.edit_all_facts.ensures.writes.counts);
  left = λ clean before made at may.
      let valid = subst AreValidFacts (sym c.edits.view_is) may in
      let edited_1 = rw c.deref.ensures.value at c.in_ok-edit_all.ensures.edited in
      let edited_2 = rw c.deref-2.ensures.value at c.in_ok-edit_all-2.ensures.edited in
      let left = rw c.deref-3.ensures.value at c.edit_all_facts.ensures.writes.left in
      let three = c.edit_all_facts.ensures.writes.clean clean in
      let two = c.edit_first_facts.ensures.writes.clean three in
      let one = c.edit_all-2.ensures.writes.clean two in
      left clean before _ (c.in_ok-edit_first_facts.ensures.edited three before _ (edited_2 two before _ (edited_1 one before made at valid.profiles) valid.calendar) may.facts) valid.facts2;
}

pub returns-clause-edited : goal.returns-clause-edited
returns-clause-edited g c clean before made at may =
    let valid = subst AreValidFacts (sym c.edits.view_is) may in
    let edited_1 = rw c.deref.ensures.value at c.in_ok-edit_all.ensures.edited in
    let edited_2 = rw c.deref-2.ensures.value at c.in_ok-edit_all-2.ensures.edited in
    let edited_4 = rw c.deref-3.ensures.value at c.in_ok-edit_all_facts.ensures.edited in
    let edited_5 = rw c.deref-4.ensures.value at c.edit_in_parts.ensures.edited in
    let four = c.edit_in_parts.ensures.writes.clean clean in
    let three = c.edit_all_facts.ensures.writes.clean four in
    let two = c.edit_first_facts.ensures.writes.clean three in
    let one = c.edit_all-2.ensures.writes.clean two in
    subst (λ (e : Edits). OnOk c.edit_in_parts.result (IsWriting before (Some (record (with_facts e made) { fact = with_first_facts c.args.edits.now made.fact })) (state g.S.Store c.edit_in_parts.new.self.tables.now.conn))) c.edits.view_is
    (edited_5 clean before _ (edited_4 four before _ (c.in_ok-edit_first_facts.ensures.edited three before _ (edited_2 two before _ (edited_1 one before made at valid.profiles) valid.calendar) may.facts) valid.facts2) valid.voids)

pub returns-clause-writes : goal.returns-clause-writes
returns-clause-writes g c = record {
  clean = λ clean. c.edit_all.ensures.writes.clean (c.edit_all-2.ensures.writes.clean (c.edit_first_facts.ensures.writes.clean (c.edit_all_facts.ensures.writes.clean (c.edit_in_parts.ensures.writes.clean clean))));
  counts = omega (arith, c.edit_all.ensures.writes.counts, c.edit_all-2.ensures.writes.counts, c.edit_first_facts.ensures.writes.counts, c.edit_all_facts.ensures.writes.counts, c.edit_in_parts.ensures.writes.counts);
  left = λ clean before made at may.
      let valid = subst AreValidFacts (sym c.edits.view_is) may in
      let edited_1 = rw c.deref.ensures.value at c.in_ok-edit_all.ensures.edited in
      let edited_2 = rw c.deref-2.ensures.value at c.in_ok-edit_all-2.ensures.edited in
      let edited_4 = rw c.deref-3.ensures.value at c.in_ok-edit_all_facts.ensures.edited in
      let left = rw c.deref-4.ensures.value at c.edit_in_parts.ensures.writes.left in
      let four = c.edit_in_parts.ensures.writes.clean clean in
      let three = c.edit_all_facts.ensures.writes.clean four in
      let two = c.edit_first_facts.ensures.writes.clean three in
      let one = c.edit_all-2.ensures.writes.clean two in
      left clean before _ (edited_4 four before _ (c.in_ok-edit_first_facts.ensures.edited three before _ (edited_2 two before _ (edited_1 one before made at valid.profiles) valid.calendar) may.facts) valid.facts2) valid.voids;
}
