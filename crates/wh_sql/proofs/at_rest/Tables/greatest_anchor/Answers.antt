-- The text means a record of the dimension with the greatest anchor.
use Rattle.std.proofs.Common.{ℕ, [], ◌∷◌, filter, pos, Err, Ok, refl, sym, ap, subst, ◌∙◌}
use Rattle.std.specs.Prelude.{slice_get, unwrap_or, option_map}
use Rattle.std.specs.FinMap.{values}
use Rattle.std.specs.Ordering.{eq_by_cmp, nat_cmp}
use Rattle.std.proofs.lemmas.Result.{err_from_is_err_and}
use Rattle.sqlite_value.specs.declared.value.Value.TheVariants.{Int}
use Rattle.sqlite.specs.Held.{state}
use Rattle.sqlite.specs.State.{State}
use Rattle.wh_policy.specs.declared.attribute.Dim.{Dim}
use Rattle.wh_rows.specs.Types.{dim_number}
use Rattle.wh_rows.specs.Rows as row
use Rattle.wh_rows.specs.declared.table.Table.TheVariants.{Change}
use Rattle.wh_rows.specs.Texts as texts
use Rattle.wh_rows.specs.Raw.{IsGreatestAnchor}
use Rattle.wh_rows.specs.Questions.{is_record_of}
use Rattle.wh_rows.proofs.EachTable.Changes.{greatest_anchor, greatest_anchor_stored}
use Rattle.wh_rows.proofs.Places.{change}
use Rattle.wh_sql.proofs.Reading.{IsAnswered, IsLedByGreatest, greatest_answered, rows_are, undamaged, sorted_named, said_again, anchor_stored, anchor_damage}
use Rattle.wh_sql.proofs.at_rest.Tables.greatest_anchor.Goals as goal

asked : (dim : Dim) (old new : State)
    → IsAnswered row.change texts.greatest_anchor (Int (pos (dim_number dim)) ∷ []) old new (λ t. IsLedByGreatest (λ r. r.anchor) (filter (λ r. eq_by_cmp nat_cmp (dim_number dim) (dim_number r.dim)) (values t.change)))
asked dim old new = greatest_answered Change change old new (λ r. eq_by_cmp nat_cmp (dim_number dim) (dim_number r.dim)) (λ r. r.anchor) (λ format. greatest_anchor format dim)

pub rows_shown-requires : goal.rows_shown-requires
rows_shown-requires g c = (asked c.args.dim (state g.S.Store c.args.self.now.conn) (state g.S.Store c.args.self.now.conn)).quiet

pub returns-in_err-rows : goal.returns-in_err-rows
returns-in_err-rows g c =
    let old = state g.S.Store c.args.self.now.conn in
    let new = state g.S.Store c.rows_shown.new.conn in
    let it = asked c.args.dim old new in
    let p = err_from_is_err_and c.from_residual.result c.from_residual.ensures.1 in
    let refused = rw c.dim.ensures at c.in_err-rows.ensures.refused in
    rw (p.1, p.2) (record {
      reads = said_again (c.in_err-rows.ensures.reads it.quiet (λ clean t at. undamaged it {A = ℕ} (Err c.in_err-rows.field-0.0) Change (refused clean) t at.now.tables)
          (λ clean stored at.
          sorted_named {A = ℕ} row.change Change refl (λ stored damage. damage) texts.greatest_anchor (Int (pos (dim_number c.args.dim)) ∷ []) old new
          1 (λ v w. nat_cmp w.anchor v.anchor) (λ r. eq_by_cmp nat_cmp (dim_number c.args.dim) (dim_number r.dim)) (λ format. greatest_anchor format c.args.dim) (Err c.in_err-rows.field-0.0) (refused clean) stored at.now));
      rows = λ clean t at. tt;
      stored = λ clean stored at. tt;
      damaged = λ clean stored at. anchor_damage (is_record_of c.args.dim) (λ format. greatest_anchor_stored format c.args.dim) old new stored at.now {A = ℕ} (Err c.in_err-rows.field-0.0) (refused clean);
      refused = refused;
    })

pub returns : goal.returns
returns g c =
    let old = state g.S.Store c.args.self.now.conn in
    let new = state g.S.Store c.rows_shown.new.conn in
    let it = asked c.args.dim old new in
    let here = c.in_ok-rows.ensures.reads it.quiet (λ clean t at. tt) (λ clean stored at. tt) in
    let shows = rw c.dim.ensures at c.in_ok-rows.ensures.shows in
    let same = c.first_anchor.ensures ∙ ap (λ rows. unwrap_or (option_map (λ r. r.anchor) (slice_get rows 0)) 0) c.deref.ensures.value in
    record {
      reads = record { spares = here.spares; sound = λ clean t at. tt; named = λ clean stored at. tt };
      rows = λ clean t at. same ∙ sym (rows_are it (Ok c.in_ok-rows.rows) (shows clean) t at.now.tables);
      stored = λ clean stored at. subst (IsGreatestAnchor (filter (is_record_of c.args.dim) (stored.rows Change))) (sym same)
          (anchor_stored (is_record_of c.args.dim) (λ format. greatest_anchor_stored format c.args.dim) old new stored at.now c.in_ok-rows.rows.items (shows clean));
      damaged = λ clean stored at. tt;
      refused = λ clean. tt;
    }
