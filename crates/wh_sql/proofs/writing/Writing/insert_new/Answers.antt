use Rattle.std.proofs.Common.{List, map, length, rules, Some, Ok, Err, inl, inr, refl, sym, subst, ◌∙◌, Bor}
use Rattle.std.proofs.lemmas.List.{length-map}
use Rattle.std.proofs.lemmas.Result.{err_from_is_err_and}
use Rattle.sqlite.specs.Held.{state}
use Rattle.wh_rows.specs.AtRest.{IsWriting}
use Rattle.sqlite.specs.Listing.{understood}
use Rattle.wh_rows.specs.Inserting.{rows_at_once, bind_rows}
use Rattle.wh_rows.specs.Meaning.{Means, InsertsEach}
use Rattle.wh_rows.specs.Schema.{schema_in}
use Rattle.wh_rows.specs.Names.{is_there}
use Rattle.std.specs.Prelude.{if◌then◌else◌}
use Rattle.wh_rows.specs.Steps.{with_rows}
use Rattle.wh_sql.proofs.Putting.{insert_leaves, inserts_on, refuses_on, rows_told, not_put, bound_or_refused}
use Rattle.wh_sql.proofs.writing.Writing.insert_new.Goals as goal

abbrev rows_of : {V : Type 0} → List (Bor V) → List V
rows_of {V} rows = map (λ (r : Bor V). r.now) rows

pub returns-in_err-inserted : goal.returns-in_err-inserted
returns-in_err-inserted g c =
    let layout = g.T.StoredTable.layout in
    let rows = rows_of c.args.rows.now in
    let params = bind_rows layout rows in
    let told = c.insert_sixteen.ensures in
    let bound = c.bind_rows-values.ensures.ok in
    let p = err_from_is_err_and c.from_residual-in_err-inserted.result c.from_residual-in_err-inserted.ensures.1 in
    let cause = rw c.insert_text.ensures at c.in_err-inserted.ensures.cause in
    rw (p.1, p.2) (record {
      same_reference = refl;
      writes =
          record {
            clean = told.clean;
            counts = told.counts;
            left = λ clean before made at may. insert_leaves _ params (state g.S.Store c.args.self.now.tables.now.conn) (state g.S.Store c.insert_sixteen.new.conn) before made at clean (told.survives params bound) layout (is_there g.T.KeyedTable.name made.format) (rw c.insert_text.ensures (g.met.T.BatchedTable.inserts made.format));
          };
      inserted = λ clean before made at may. tt;
      sixteen = tt;
      refused = λ clean. tt;
      counted = tt;
      cause = λ clean inside room valid. bound_or_refused layout.is_valid rows valid g.T.BatchedTable.insert_means params (state g.S.Store c.args.self.now.tables.now.conn) (state g.S.Store c.insert_sixteen.new.conn) c.bind_rows-values.result c.bind_rows-values.ensures.err (Err c.in_err-inserted.field-0.0) (cause clean inside params bound);
      late = λ off. (refl, (told.late off).1);
      noted = search rules;
    })

pub returns : goal.returns
returns g c =
    let layout = g.T.StoredTable.layout in
    let rows = rows_of c.args.rows.now in
    let params = bind_rows layout rows in
    let text = c.insert_text.result.now in
    let told = c.insert_sixteen.ensures in
    let bound = c.bind_rows-values.ensures.ok in
    let old = state g.S.Store c.args.self.now.tables.now.conn in
    let new = state g.S.Store c.insert_sixteen.new.conn in
    record {
      same_reference = refl;
      writes =
          record {
            clean = told.clean;
            counts = told.counts;
            left = λ clean before made at may. insert_leaves _ params old new before made at clean (told.survives params bound) layout (is_there g.T.KeyedTable.name made.format) (rw c.insert_text.ensures (g.met.T.BatchedTable.inserts made.format));
          };
      inserted = λ clean before made at valid.
          let survives = told.survives params bound in
          let means : Means (is_there g.T.KeyedTable.name made.format) (InsertsEach (schema_in made.format) layout rows_at_once text) (understood (schema_in made.format) text) = rw c.insert_text.ensures (g.met.T.BatchedTable.inserts made.format) in
          let left = insert_leaves text params old new before made at clean survives layout (is_there g.T.KeyedTable.name made.format) means in
          rows_told (λ done. IsWriting before (Some (if done then g.T.StoredTable.with_rows (with_rows layout rows (g.T.StoredTable.rows made)) made else made)) new) _ text params (length c.args.rows.now) old new (Ok c.in_ok-inserted.inserted) (c.in_ok-inserted.ensures.put clean params bound) c.in_ok-inserted.ensures.sixteen (c.in_ok-inserted.ensures.refused clean params bound)
          (λ sixteen run. inserts_on text params old new before made at clean survives layout g.T.StoredTable.rows g.T.StoredTable.with_rows g.T.KeyedTable.name g.met.T.KeyedTable.means.placed g.met.T.KeyedTable.means.named
          g.T.KeyedTable.bind g.T.KeyedTable.stands_at g.T.KeyedTable.texts.get (g.met.T.KeyedTable.means.finds_stored made.format) g.met.T.PagedTable.once means run.0 run.1 rows refl (length-map c.args.rows.now (λ r. r.now) ∙ sixteen) valid)
          (λ not_put. elim not_put [ inl few ↦ subst (λ conn. IsWriting before (Some made) (state g.S.Store conn)) (sym few.1) at | inr broken ↦ refuses_on text params old new before made at clean survives left broken ]);
      sixteen = c.in_ok-inserted.ensures.sixteen;
      refused = λ clean.
          let refused = rw c.insert_text.ensures at c.in_ok-inserted.ensures.refused in
          not_put _ g.T.BatchedTable.insert_means params (length c.args.rows.now) _ refl old new (Ok c.in_ok-inserted.inserted) (refused clean params bound);
      counted = search rules;
      cause = λ clean inside room valid. tt;
      late = λ off. search rules;
      noted = search rules;
    }
