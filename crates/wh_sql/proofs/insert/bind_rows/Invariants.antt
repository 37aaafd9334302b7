use Rattle.std.proofs.Common.{◌≡◌, ◌++◌, map, drop}
use Rattle.sqlite.specs.Values.{bound}
use Rattle.wh_rows.specs.Inserting.{bind_rows}
use Rattle.wh_sql.proofs.insert.bind_rows.Given as goal

abbrev pub invariant-loop-row : goal.invariant-loop-row
invariant-loop-row g l = bound l.values.items ++ bind_rows g.T.StoredTable.layout (map (λ r. r.now) (drop l.row-index l.rows)) ≡ bind_rows g.T.StoredTable.layout (map (λ r. r.now) l.rows)
