use Rattle.std.proofs.Common.{Some, subst, sym}
use Rattle.std.specs.Prelude.{OnOk}
use Rattle.wh_rows.specs.AtRest.{IsWriting}
use Rattle.wh_rows.specs.Facts.{fact_layout, facts_in, with_facts_in}
use Rattle.wh_rows.specs.Rows as row
use Rattle.wh_sql.specs.Edits.{with_edit, IsOfTypes, IsValid, Puts}
use Rattle.wh_sql.specs.Answers.{state_of}
use Rattle.wh_sql.proofs.FormatFacts.{IsRefusedEdit, same_edit}
use Rattle.wh_sql.proofs.writing.Writing.edit_fact.Goals as goal

pub returns-in-Two : goal.returns-in-Two
returns-in-Two g c =
    let edit = c.args.edit.now in
    let old = state_of g.S.Store c.args.self.now.tables.now in
    let new = state_of g.S.Store c.edit-in-Two.new.self.tables.now in
    record {
      same_reference = c.edit-in-Two.ensures.same_reference;
      writes = c.edit-in-Two.ensures.writes;
      edited = λ clean before made at may.
          let made_so = c.edit-in-Two.ensures.edited clean before made at (subst (λ format. Puts (IsValid (fact_layout format)) edit) c.in-Two.is may) in
          subst (λ format. OnOk c.edit-in-Two.result (IsWriting before (Some (with_facts_in format (with_edit row.fact edit (facts_in format made)) made)) new)) (sym c.in-Two.is)
          (subst (λ facts. OnOk c.edit-in-Two.result (IsWriting before (Some (record made { fact2 = facts })) new)) (same_edit edit made.fact2) made_so);
      cause = λ clean within room types.
          subst (λ format. IsRefusedEdit format edit old new c.edit-in-Two.result) (sym c.in-Two.is) (c.edit-in-Two.ensures.cause clean within room (subst (λ format. IsOfTypes (fact_layout format) edit) c.in-Two.is types));
      counted = c.edit-in-Two.ensures.counted;
      late = c.edit-in-Two.ensures.late;
      noted = c.edit-in-Two.ensures.noted;
    }
