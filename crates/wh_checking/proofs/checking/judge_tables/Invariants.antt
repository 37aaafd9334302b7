use Rattle.std.proofs.Common.{◌≡◌, ◌+◌, ◌≤◌, ◌<◌, List, Some, Ok}
use Rattle.wh_history.specs.Accepted.{Accepted, format_of}
use Rattle.wh_history.specs.Tables.{Limits}
use Rattle.wh_rows.specs.Tables.{Tables as TypedTables}
use Rattle.wh_rows.specs.declared.table.Table.{Table}
use Rattle.wh_admission.specs.Checked.{Covers, IsDefined, stored_in, table_place}
use Rattle.wh_store.specs.Faithful.{RestsFaithfully}
use Rattle.wh_sql.specs.Answers.{ReadsOnly, state_of, SaysAsStored}
use Rattle.wh_checking.specs.Replica.{HoldsAll}
use Rattle.wh_checking.proofs.checking.judge_tables.Given as goal

-- the tables before this one, but for meta and the commands, are as they are defined, and the tables of the second warehouse are as they were
abbrev pub invariant-tables : goal.invariant-tables
invariant-tables g l = record {
  reads : ReadsOnly (state_of g.S.Store l.fn.tables) (state_of g.S.Store l.tables) (Ok l.table-index);
  to : l.table-index ≤ 10;
  still : (t : TypedTables) → RestsFaithfully g.M.Store (Some t) l.fn.replica.conn → RestsFaithfully g.M.Store (Some t) l.replica.conn;
  defined : SaysAsStored (state_of g.S.Store l.fn.tables) (state_of g.S.Store l.tables) (λ stored. Covers stored.format l.format → (limits : Limits) (commands : List Accepted) → l.format ≡ format_of commands → HoldsAll g.M.Store limits commands l.fn.replica
      → (earlier : Table) → 2 ≤ table_place earlier → table_place earlier < l.table-index + 2 → IsDefined limits commands (stored_in l.format stored) earlier);
}
