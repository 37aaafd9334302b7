use Rattle.std.proofs.Common.{rules, ◌≡◌, map, length, Some, sym, ap, subst, ◌∙◌, arith}
use Rattle.std.proofs.lemmas.List.{length-map}
use Rattle.std.proofs.lemmas.Result.{err_from_is_err_and}
use Rattle.std.specs.List.{AllByRecursion}
use Rattle.sqlite.specs.Held.{state}
use Rattle.wh_history.specs.declared.plan.Edit.TheVariants.{Put}
use Rattle.wh_rows.specs.AtRest.{IsWriting, IsCauseOf}
use Rattle.wh_rows.specs.Inserting.{bind_rows}
use Rattle.wh_rows.specs.Steps.{after_all}
use Rattle.wh_sql.specs.Refused.{IsOneRefused}
use Rattle.wh_sql.specs.Edits.{with_edit, IsValid, Puts, statement_of, rows_put, part_statements}
use Rattle.wh_sql.proofs.InParts.{puts_lead, valid_put, rows_of_puts, refused_so, insert_refused, edit_refused}
use Rattle.wh_sql.proofs.writing.Writing.edit_part.Goals as goal

pub returns-in_default : goal.returns-in_default
returns-in_default g c = record {
  same_reference = c.edit_all.ensures.same_reference;
  writes = c.edit_all.ensures.writes;
  edited = c.edit_all.ensures.edited;
  cause = λ clean before made at may typed room.
      let layout = g.T.StoredTable.layout in
      let texts = g.T.KeyedTable.texts in
      let bind = g.T.KeyedTable.bind in
      let insert = g.T.BatchedTable.insert_means in
      let edits = c.args.edits.now in
      let old = c.args.self.now.tables.now.conn in
      let new = c.edit_all.new.self.tables.now.conn in
      refused_so (IsOneRefused g.S.Store IsCauseOf (map (statement_of layout texts bind) edits) old new) (IsOneRefused g.S.Store IsCauseOf (part_statements layout texts bind insert edits) old new) c.edit_all.result
      (λ cause one. edit_refused g.S.Store layout texts bind insert old new edits cause old (omega arith) one) (c.edit_all.ensures.cause clean before made at may typed room);
  counted = c.edit_all.ensures.counted;
  noted = c.edit_all.ensures.noted;
}

pub returns-in_err-insert_new : goal.returns-in_err-insert_new
returns-in_err-insert_new g c =
    let p = err_from_is_err_and c.from_residual.result c.from_residual.ensures.1 in
    rw (p.1, p.2) (record {
      same_reference = c.insert_new.ensures.same_reference;
      writes = record { clean = c.insert_new.ensures.writes.clean; counts = c.insert_new.ensures.writes.counts; left = λ clean before made at may. c.insert_new.ensures.writes.left clean before made at tt };
      edited = λ clean before made at may. tt;
      cause = λ clean before made at may typed room.
          let layout = g.T.StoredTable.layout in
          let edits = c.args.edits.now in
          let items = c.in-Ok-Some.rows.items in
          let rows = map (λ r. r.now) items in
          let put : edits ≡ map Put rows = c.in-Ok-Some.ensures c.in-Ok-Some.rows c.in-Ok-Some.field-0-is in
          let long : length edits ≡ length items = ap length put ∙ length-map rows Put ∙ length-map items (λ r. r.now) in
          let are : rows_put edits ≡ rows = ap rows_put put ∙ rows_of_puts _ rows in
          let told = rw c.deref.ensures.value at c.in_err-insert_new.ensures.cause in
          let refused = told clean at.inside (omega (arith, room, long)) (valid_put layout rows (subst (AllByRecursion (Puts (IsValid layout))) put may)) in
          (λ other. insert_refused g.S.Store layout g.T.KeyedTable.texts g.T.KeyedTable.bind g.T.BatchedTable.insert_means c.args.self.now.tables.now.conn c.insert_new.new.self.tables.now.conn edits c.in_err-insert_new.field-0.0
          (subst (λ rs. IsCauseOf g.T.BatchedTable.insert_means (bind_rows layout rs) (state g.S.Store c.args.self.now.tables.now.conn) (state g.S.Store c.insert_new.new.self.tables.now.conn) c.in_err-insert_new.field-0.0) (sym are) (refused other)));
      counted = tt;
      noted = c.in_err-insert_new.ensures.noted;
    })

pub returns-then-branch : goal.returns-then-branch
returns-then-branch g c = record {
  same_reference = c.insert_new.ensures.same_reference;
  writes =
      record {
        clean = c.insert_new.ensures.writes.clean;
        counts = c.insert_new.ensures.writes.counts;
        left = λ clean before made at may. c.insert_new.ensures.writes.left clean before made at tt;
      };
  edited = λ clean before made at may.
      let layout = g.T.StoredTable.layout in
      let table = g.T.StoredTable in
      let rows = map (λ r. r.now) c.in-Ok-Some.rows.items in
      let put : c.args.edits.now ≡ map Put rows = c.in-Ok-Some.ensures c.in-Ok-Some.rows c.in-Ok-Some.field-0-is in
      let inserted = rw (c.if-branch.true, c.deref.ensures.value) at c.in_ok-insert_new.ensures.inserted in
      subst (λ m. IsWriting before (Some (table.with_rows m made)) (state g.S.Store c.insert_new.new.self.tables.now.conn)) (sym (ap (λ es. after_all (with_edit layout) es (table.rows made)) put ∙ puts_lead layout rows (table.rows made)))
      (inserted clean before made at (valid_put layout rows (subst (AllByRecursion (Puts (IsValid layout))) put may)));
  cause = λ clean before made at may typed room. tt;
  counted =
      let put = c.in-Ok-Some.ensures c.in-Ok-Some.rows c.in-Ok-Some.field-0-is in
      let long = ap length put ∙ length-map (map (λ r. r.now) c.in-Ok-Some.rows.items) Put ∙ length-map c.in-Ok-Some.rows.items (λ r. r.now) in
      let counted = rw (c.if-branch.true, c.deref.ensures.value) at c.in_ok-insert_new.ensures.counted in
      omega (arith, counted, long);
  noted = c.in_ok-insert_new.ensures.noted;
}

pub returns : goal.returns
returns g c = record {
  same_reference = c.edit_all-2.ensures.same_reference ∙ c.insert_new.ensures.same_reference;
  writes =
      let layout = g.T.StoredTable.layout in
      let rows = map (λ r. r.now) c.in-Ok-Some.rows.items in
      let put : c.args.edits.now ≡ map Put rows = c.in-Ok-Some.ensures c.in-Ok-Some.rows c.in-Ok-Some.field-0-is in
      let inserted = rw (c.if-branch.false, c.deref.ensures.value) at c.in_ok-insert_new.ensures.inserted in
      let writes = c.edit_all-2.ensures.writes in
      record {
        clean = λ clean. c.insert_new.ensures.writes.clean (writes.clean clean);
        counts = omega (arith, c.insert_new.ensures.writes.counts, writes.counts);
        left = λ clean before made at may. writes.left clean before made (inserted (writes.clean clean) before made at (valid_put layout rows (subst (AllByRecursion (Puts (IsValid layout))) put may))) may;
      };
  edited = λ clean before made at may.
      let layout = g.T.StoredTable.layout in
      let rows = map (λ r. r.now) c.in-Ok-Some.rows.items in
      let put : c.args.edits.now ≡ map Put rows = c.in-Ok-Some.ensures c.in-Ok-Some.rows c.in-Ok-Some.field-0-is in
      let inserted = rw (c.if-branch.false, c.deref.ensures.value) at c.in_ok-insert_new.ensures.inserted in
      c.edit_all-2.ensures.edited clean before made (inserted (c.edit_all-2.ensures.writes.clean clean) before made at (valid_put layout rows (subst (AllByRecursion (Puts (IsValid layout))) put may))) may;
  cause = λ clean before made at may typed room.
      let layout = g.T.StoredTable.layout in
      let texts = g.T.KeyedTable.texts in
      let bind = g.T.KeyedTable.bind in
      let insert = g.T.BatchedTable.insert_means in
      let edits = c.args.edits.now in
      let rows = map (λ r. r.now) c.in-Ok-Some.rows.items in
      let put : edits ≡ map Put rows = c.in-Ok-Some.ensures c.in-Ok-Some.rows c.in-Ok-Some.field-0-is in
      let inserted = rw (c.if-branch.false, c.deref.ensures.value) at c.in_ok-insert_new.ensures.inserted in
      let counted = rw c.if-branch.false at c.in_ok-insert_new.ensures.counted in
      let old = c.args.self.now.tables.now.conn in
      let mid = c.insert_new.new.self.tables.now.conn in
      let new = c.edit_all-2.new.self.tables.now.conn in
      let mid_at = inserted (c.edit_all-2.ensures.writes.clean clean) before made at (valid_put layout rows (subst (AllByRecursion (Puts (IsValid layout))) put may)) in
      refused_so (IsOneRefused g.S.Store IsCauseOf (map (statement_of layout texts bind) edits) mid new) (IsOneRefused g.S.Store IsCauseOf (part_statements layout texts bind insert edits) old new) c.edit_all-2.result
      (λ cause one. edit_refused g.S.Store layout texts bind insert old new edits cause mid c.insert_new.ensures.writes.counts one) (c.edit_all-2.ensures.cause clean before made mid_at may typed (omega (arith, room, counted)));
  counted = search rules;
  noted = search rules;
}
