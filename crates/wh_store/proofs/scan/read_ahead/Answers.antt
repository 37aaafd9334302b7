use Rattle.std.proofs.Common.{◌≡◌, ◌-◌, ◌++◌, map, option_map, slice_get, length, sym, ap, ◌∙◌, arith}
use Rattle.std.specs.Prelude.{vec_len}
use Rattle.sqlite.specs.Held.{state}
use Rattle.wh_store.proofs.Scanning.{part_read, key_found}
use Rattle.wh_store.proofs.ScanningStored.{part_left}
use Rattle.wh_store.proofs.scan.read_ahead.Goals as goal

pub returns-clause-rows : goal.returns-clause-rows
returns-clause-rows g c clean t at fresh none =
    let d = g.T.StoredTable in
    let rows = c.in_ok-rows.rows in
    let len : vec_len rows ≡ length rows.items = omega arith in
    let last = c.in_ok-after.ensures ∙ ap (λ l. option_map d.layout.key (slice_get l (length l - 1))) c.deref.ensures.value in
    let whole = part_read d.layout d.rows d.with_rows g.met.T.KeyedTable.means.placed (state g.S.Store c.args.tables.now.conn) t at g.T.PagedTable.part_texts.most g.T.PagedTable.part_texts.some c.args.cursor.now.unread.after c.in_ok-after.after rows.items c.len.result (c.in_ok-rows.ensures.rows clean t at) last (c.len.ensures ∙ len) in
    rw (c.into_iter.ensures.rest, none, fresh, c.part_statements.ensures.2) whole

pub returns-clause-keyed : goal.returns-clause-keyed
returns-clause-keyed g c clean stored at =
    let rows = c.in_ok-rows.rows in
    rw (c.in_ok-after.ensures, c.deref.ensures.value) (key_found g.T.StoredTable.layout rows.items (length rows.items - 1) (c.in_ok-rows.ensures.stored clean stored at).1)

pub returns-clause-stored : goal.returns-clause-stored
returns-clause-stored g c clean stored at fresh none left are =
    let d = g.T.StoredTable in
    let rows = c.in_ok-rows.rows in
    let len : vec_len rows ≡ length rows.items = omega arith in
    let last = c.in_ok-after.ensures ∙ ap (λ l. option_map d.layout.key (slice_get l (length l - 1))) c.deref.ensures.value in
    let front = (c.in_ok-rows.ensures.stored clean stored at).0 in
    let arranged = part_left d.layout g.T.KeyedTable.bind g.T.KeyedTable.stands_at g.met.T.PagedTable.keyed (stored.rows g.T.KeyedTable.name) (g.met.T.PagedTable.once (state g.S.Store c.args.tables.now.conn).now stored at.now)
    g.T.PagedTable.part_texts.most g.T.PagedTable.part_texts.some c.args.cursor.now.unread.after c.in_ok-after.after rows.items c.len.result front last (c.len.ensures ∙ len) are.0 (rw c.part_statements.ensures.2 at are.1) in
    (map d.layout.encode rows.items ++ are.0, rw fresh arranged, are.2 ∙ ap (λ vs. map d.layout.encode vs ++ are.0) c.into_iter.ensures.rest ∙ ap (λ vs. map d.layout.encode vs ++ (map d.layout.encode rows.items ++ are.0)) (sym none))
