use Rattle.std.specs.Prelude.{◌≡◌, Ok, Some}
use Rattle.std.specs.FinMap.{values}
use Rattle.wh_rows.specs.Names.{is_there}
use Rattle.wh_rows.specs.Tables.{Tables as TypedTables}
use Rattle.wh_store.specs.Faithful.{RestsFaithfully}
use Rattle.wh_sql.specs.Answers.{ReadsOnly, state_of, SaysAsStored}
use Rattle.wh_store.specs.Scan.{AreLeft, AreValid, rows_left}
use Rattle.wh_checking.proofs.Comparing.{HasSeen}
use Rattle.wh_checking.proofs.compare.has_the_same_rows.Given as goal

-- what was handed out so far of any stored rows, against those that the second warehouse holds
abbrev pub invariant-rows : goal.invariant-rows
invariant-rows g l = record {
  reads : ReadsOnly (state_of g.S.Store l.fn.tables) (state_of g.S.Store l.tables) (Ok l.same);
  rests : (t : TypedTables) → RestsFaithfully g.M.Store (Some t) l.fn.expected.conn → RestsFaithfully g.M.Store (Some t) l.expected.conn;
  valid : SaysAsStored (state_of g.S.Store l.fn.tables) (state_of g.S.Store l.tables) (λ stored. is_there g.T.KeyedTable.name stored.format ≡ is_there g.T.KeyedTable.name l.format → AreValid g.T.StoredTable.layout l.cursor);
  seen : SaysAsStored (state_of g.S.Store l.fn.tables) (state_of g.S.Store l.tables) (λ stored. is_there g.T.KeyedTable.name stored.format ≡ is_there g.T.KeyedTable.name l.format
      → (t : TypedTables) → is_there g.T.KeyedTable.name t.format ≡ is_there g.T.KeyedTable.name l.format → RestsFaithfully g.M.Store (Some t) l.fn.expected.conn
      → HasSeen g.T.StoredTable.layout (stored.rows g.T.KeyedTable.name) (values (g.T.StoredTable.rows t)) (rows_left g.T.StoredTable.layout (g.T.StoredTable.rows t) l.ahead) (AreLeft g.T.StoredTable.layout g.T.KeyedTable.bind (stored.rows g.T.KeyedTable.name) l.cursor) l.same);
}
