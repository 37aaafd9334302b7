use Rattle.std.proofs.Common.{Some, filter}
use Rattle.std.proofs.lemmas.Result.{err_from_is_err_and}
use Rattle.wh_rows.specs.Parts.{forward, stands_behind}
use Rattle.wh_engine.proofs.Scanning.{names_it}
use Rattle.wh_engine.proofs.scan.row_after.Goals as goal

pub returns-in_err-found-clause-hands : goal.returns-in_err-found-clause-hands
returns-in_err-found-clause-hands g c =
    let p = err_from_is_err_and c.from_residual.result c.from_residual.ensures.1 in
    rw (p.1, p.2) (record {
      rows = λ clean t same at. tt;
      stored = λ clean stored same on. tt;
      valid = λ clean stored same on valid. tt;
      named = λ clean stored on. (
          let layout = g.T.StoredTable.layout in
          names_it (Some (forward g.T.PagedTable.part_texts.most)) layout g.T.KeyedTable.name (filter (stands_behind layout g.T.KeyedTable.bind c.args.cursor.now.unread.after) (stored.rows g.T.KeyedTable.name)) c.in_err-found.field-0.0 (c.in_err-found.ensures.next.damaged clean stored on));
    })
