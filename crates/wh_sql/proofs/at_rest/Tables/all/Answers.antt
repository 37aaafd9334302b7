-- The text means all rows.
use Rattle.std.proofs.Common.{[], true, None}
use Rattle.sqlite.specs.Held.{state}
use Rattle.wh_rows.proofs.Edits.{filter_all}
use Rattle.wh_sql.proofs.Reading.{all_answered, rows_are, undamaged, part_named, some_quiet, reads_stored, finds_damage}
use Rattle.wh_sql.proofs.at_rest.Tables.all.Goals as goal

pub rows_shown-requires : goal.rows_shown-requires
rows_shown-requires g c = rw c.statements.ensures.2 (some_quiet g.T.KeyedTable.name g.T.StoredTable.layout [] (λ row. true) g.T.KeyedTable.texts.all g.met.T.KeyedTable.means.lists)

pub returns : goal.returns
returns g c =
    let table = g.T.KeyedTable in
    let means = g.met.T.KeyedTable.means in
    let layout = g.T.StoredTable.layout in
    let old = state g.S.Store c.args.self.now.conn in
    let new = state g.S.Store c.rows_shown.new.conn in
    let asked = all_answered table.name means.placed old new means.lists in
    let shows = rw c.statements.ensures.2 at c.rows_shown.ensures.shows in
    let refused = rw c.statements.ensures.2 at c.rows_shown.ensures.refused in
    let reads = rw c.statements.ensures.2 at c.rows_shown.ensures.reads in
    record {
      reads = reads (some_quiet table.name layout [] (λ row. true) table.texts.all means.lists) (λ clean t at. undamaged asked c.rows_shown.result table.name (refused clean) t at.now.tables)
          (λ clean stored at. part_named layout table.name means.named means.harmed table.texts.all [] old new None (λ row. true) means.lists c.rows_shown.result (refused clean) stored at.now);
      rows = λ clean t at. rows_are asked c.rows_shown.result (shows clean) t at.now.tables;
      stored = λ clean stored at. rw (filter_all (stored.rows table.name)) at (reads_stored layout table.name means.named _ _ _ _ means.lists_stored old new stored at.now c.rows_shown.result (shows clean));
      damaged = λ clean stored at. rw (filter_all (stored.rows table.name)) at (finds_damage layout table.name means.named _ _ _ _ means.lists_stored old new stored at.now c.rows_shown.result (refused clean));
      refused = refused;
    }
