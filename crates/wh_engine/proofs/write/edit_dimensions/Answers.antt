use Rattle.std.proofs.Common.{Some, OnOk, sym, subst, arith}
use Rattle.sqlite.specs.Held.{state}
use Rattle.wh_rows.specs.AtRest.{IsWriting}
use Rattle.wh_plan.specs.Edits.{with_dimensions}
use Rattle.wh_plan.specs.Writable.{AreValidDimensions}
use Rattle.wh_engine.proofs.write.edit_dimensions.Goals as goal

pub returns-in_err-edit_in_parts-clause-writes : goal.returns-in_err-edit_in_parts-clause-writes
returns-in_err-edit_in_parts-clause-writes g c = record {
  clean = λ clean. c.edit_in_parts.ensures.writes.clean clean;
  counts = omega (arith, c.edit_in_parts.ensures.writes.counts);
  left = λ clean before made at may.
      let valid = subst AreValidDimensions (sym c.edits.view_is) may in
      let left = rw c.deref.ensures.value at c.edit_in_parts.ensures.writes.left in
      left clean before made at valid.products;
}

pub returns-in_err-edit_in_parts-2-clause-writes : goal.returns-in_err-edit_in_parts-2-clause-writes
returns-in_err-edit_in_parts-2-clause-writes g c = record {
  clean = λ clean. c.edit_in_parts.ensures.writes.clean (c.edit_in_parts-2.ensures.writes.clean clean);
  counts = omega (arith, c.edit_in_parts.ensures.writes.counts, c.edit_in_parts-2.ensures.writes.counts);
  left = λ clean before made at may.
      let valid = subst AreValidDimensions (sym c.edits.view_is) may in
      let edited = rw c.deref.ensures.value at c.in_ok-edit_in_parts.ensures.edited in
      let left = rw c.deref-2.ensures.value at c.edit_in_parts-2.ensures.writes.left in
      let one = c.edit_in_parts-2.ensures.writes.clean clean in
      left clean before _ (edited one before made at valid.products) valid.stores;
}

pub returns-clause-edited : goal.returns-clause-edited
returns-clause-edited g c clean before made at may =
    let valid = subst AreValidDimensions (sym c.edits.view_is) may in
    let edited_1 = rw c.deref.ensures.value at c.in_ok-edit_in_parts.ensures.edited in
    let edited_2 = rw c.deref-2.ensures.value at c.in_ok-edit_in_parts-2.ensures.edited in
    let edited_3 = rw c.deref-3.ensures.value at c.edit_in_parts-3.ensures.edited in
    let two = c.edit_in_parts-3.ensures.writes.clean clean in
    let one = c.edit_in_parts-2.ensures.writes.clean two in
    subst (λ e. OnOk c.edit_in_parts-3.result (IsWriting before (Some (with_dimensions e made)) (state g.S.Store c.edit_in_parts-3.new.self.tables.now.conn))) c.edits.view_is
    (edited_3 clean before _ (edited_2 two before _ (edited_1 one before made at valid.products) valid.stores) valid.customers)

pub returns-clause-writes : goal.returns-clause-writes
returns-clause-writes g c = record {
  clean = λ clean. c.edit_in_parts.ensures.writes.clean (c.edit_in_parts-2.ensures.writes.clean (c.edit_in_parts-3.ensures.writes.clean clean));
  counts = omega (arith, c.edit_in_parts.ensures.writes.counts, c.edit_in_parts-2.ensures.writes.counts, c.edit_in_parts-3.ensures.writes.counts);
  left = λ clean before made at may.
      let valid = subst AreValidDimensions (sym c.edits.view_is) may in
      let edited_1 = rw c.deref.ensures.value at c.in_ok-edit_in_parts.ensures.edited in
      let edited_2 = rw c.deref-2.ensures.value at c.in_ok-edit_in_parts-2.ensures.edited in
      let left = rw c.deref-3.ensures.value at c.edit_in_parts-3.ensures.writes.left in
      let two = c.edit_in_parts-3.ensures.writes.clean clean in
      let one = c.edit_in_parts-2.ensures.writes.clean two in
      left clean before _ (edited_2 two before _ (edited_1 one before made at valid.products) valid.stores) valid.customers;
}
