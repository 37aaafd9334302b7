-- The text means the rows of the key.
use Rattle.std.proofs.Common.{ℕ, filter, None, Ok, Err, arith, ◌≡◌, length}
use Rattle.std.proofs.lemmas.Result.{err_from_is_err_and}
use Rattle.std.specs.Prelude.{vec_len}
use Rattle.std.specs.FinMap.{get}
use Rattle.std.specs.Ordering.{eq_by_cmp}
use Rattle.sqlite.specs.Held.{state}
use Rattle.wh_sql.proofs.Reading.{key_answered, rows_are, undamaged, part_named, some_quiet, last_is, finds_damage, reads_stored, not_asked, unasked_harmless, unasked_shows, said_again}
use Rattle.wh_rows.proofs.Raw.{last_found}
use Rattle.wh_sql.proofs.at_rest.Tables.get.Goals as goal

pub rows_shown-requires : goal.rows_shown-requires
rows_shown-requires g c = rw c.statements.ensures.3 (some_quiet g.T.KeyedTable.name g.T.StoredTable.layout (g.T.KeyedTable.bind c.args.key.now) (λ row. eq_by_cmp g.T.StoredTable.layout.order c.args.key.now (g.T.StoredTable.layout.key row)) g.T.KeyedTable.texts.get (λ format. g.met.T.KeyedTable.means.finds format c.args.key.now))

pub returns-in_err-values : goal.returns-in_err-values
returns-in_err-values g c =
    let p = err_from_is_err_and c.from_residual.result c.from_residual.ensures.1 in
    let cause = c.in_err-values.field-0.0 in
    rw (p.1, p.2) (record {
      reads = not_asked (state g.S.Store c.args.self.now.conn) cause;
      counts = omega arith;
      rows = λ clean t at. tt;
      stored = λ clean stored at. tt;
      damaged = λ clean stored at. unasked_harmless None g.T.StoredTable.layout g.T.KeyedTable.name _ cause;
      refused = λ clean row valid is. unasked_shows g.T.StoredTable.layout g.T.KeyedTable.name _ _ _ _ cause (λ other. (c.in_err-values.ensures.err other).1 row valid is);
    })

pub returns-in_err-rows : goal.returns-in_err-rows
returns-in_err-rows g c =
    let table = g.T.KeyedTable in
    let means = g.met.T.KeyedTable.means in
    let layout = g.T.StoredTable.layout in
    let key = c.args.key.now in
    let old = state g.S.Store c.args.self.now.conn in
    let new = state g.S.Store c.rows_shown.new.conn in
    let asked = key_answered table.name means.placed old new key (λ format. means.finds format key) in
    let p = err_from_is_err_and c.from_residual-in_err-rows.result c.from_residual-in_err-rows.ensures.1 in
    let refused = rw (c.statements.ensures.3, c.deref.ensures.value, c.in_ok-values.ensures.ok) at c.in_err-rows.ensures.refused in
    let reads = rw c.statements.ensures.3 at c.in_err-rows.ensures.reads in
    rw (p.1, p.2) (record {
      reads = said_again (reads asked.quiet (λ clean t at. undamaged asked {A = ℕ} (Err c.in_err-rows.field-0.0) table.name (refused clean) t at.now.tables)
          (λ clean stored at. part_named {A = ℕ} layout table.name means.named means.harmed table.texts.get (table.bind key) old new None (λ row. eq_by_cmp layout.order key (layout.key row)) (λ format. means.finds format key) (Err c.in_err-rows.field-0.0) (refused clean) stored at.now));
      counts = c.rows_shown.ensures.survives.counts;
      rows = λ clean t at. tt;
      stored = λ clean stored at. tt;
      damaged = λ clean stored at. finds_damage layout table.name means.named _ _ _ _ (λ format. means.finds_stored format key) old new stored at.now {A = ℕ} (Err c.in_err-rows.field-0.0) (refused clean);
      refused = λ clean row valid is. refused clean;
    })

pub returns : goal.returns
returns g c =
    let table = g.T.KeyedTable in
    let means = g.met.T.KeyedTable.means in
    let layout = g.T.StoredTable.layout in
    let key = c.args.key.now in
    let old = state g.S.Store c.args.self.now.conn in
    let new = state g.S.Store c.rows_shown.new.conn in
    let asked = key_answered table.name means.placed old new key (λ format. means.finds format key) in
    let shows = rw (c.statements.ensures.3, c.deref.ensures.value, c.in_ok-values.ensures.ok) at c.in_ok-rows.ensures.shows in
    let reads = rw c.statements.ensures.3 at c.in_ok-rows.ensures.reads in
    let here = reads asked.quiet (λ clean t at. tt) (λ clean stored at. tt) in
    let rows = c.in_ok-rows.rows in
    let len : vec_len rows ≡ length rows.items = omega arith in
    record {
      reads = record { spares = here.spares; sound = λ clean t at. tt; named = λ clean stored at. tt };
      counts = c.rows_shown.ensures.survives.counts;
      rows = λ clean t at. last_is (get (g.T.StoredTable.rows t) key) c.pop.result rows.items c.pop.new.self.items (vec_len rows) len (rows_are asked (Ok rows) (shows clean) t at.now.tables) c.pop.ensures.items c.pop.ensures.variant;
      stored = λ clean stored at. last_found layout (filter (table.stands_at key) (stored.rows table.name)) c.pop.result rows.items c.pop.new.self.items (vec_len rows) len c.pop.ensures.items c.pop.ensures.variant
          (reads_stored layout table.name means.named _ _ _ _ (λ format. means.finds_stored format key) old new stored at.now (Ok rows) (shows clean));
      damaged = λ clean stored at. tt;
      refused = λ clean. tt;
    }
