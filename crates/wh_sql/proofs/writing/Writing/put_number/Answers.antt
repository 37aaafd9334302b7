use Rattle.std.proofs.Common.{◌≡◌, ◌≢◌, Some, OnOk, IfErr, subst, ap, ◌∙◌, pos, true}
use Rattle.sqlite.specs.Held.{state}
use Rattle.wh_rows.specs.AtRest.{IsWriting, IsCauseOf}
use Rattle.wh_rows.specs.declared.cause.Cause.TheVariants.{Memory}
use Rattle.wh_rows.specs.Rows.{encode_meta}
use Rattle.wh_rows.specs.Texts as texts
use Rattle.wh_rows.specs.declared.rows.MetaRow.{MetaRow}
use Rattle.std.specs.Str.{is_utf8}
use Rattle.std.specs.FinMap.{insert}
use Rattle.std.proofs.lemmas.Str.{is_utf8-from_IsUtf8}
use Rattle.wh_sql.proofs.writing.Writing.put_number.Goals as goal

pub returns : goal.returns
returns g c =
    let same : c.in_ok-row.row ≡ (record { name = c.args.name.now; value = pos c.args.count }) = c.in_ok-row.ensures.ok in
    let utf8 : is_utf8 c.args.name.now ≡ true = is_utf8-from_IsUtf8 c.args.name.now c.utf8.name in
    record {
      same_reference = c.put.ensures.same_reference;
      writes = c.put.ensures.writes;
      edited = λ clean before made at may.
          let put = c.put.ensures.edited clean before made at (ap (λ (r : MetaRow). is_utf8 r.name) same ∙ utf8) in
          subst (λ (r : MetaRow). OnOk c.put.result (IsWriting before (Some (record made { meta = insert made.meta r.name r })) (state g.S.Store c.put.new.self.tables.now.conn))) same put;
      cause = λ clean inside room number.
          let told = c.put.ensures.cause clean inside room (ap (λ (r : MetaRow). is_utf8 r.name) same ∙ utf8) in
          subst (λ (r : MetaRow). IfErr c.put.result (λ cause. cause ≢ Memory → IsCauseOf texts.meta.put (encode_meta r) (state g.S.Store c.args.self.now.tables.now.conn) (state g.S.Store c.put.new.self.tables.now.conn) cause)) same told;
      counted = c.put.ensures.counted;
      late = c.put.ensures.late;
      noted = rw c.replace-refused.ensures.value at c.put.ensures.noted;
    }
