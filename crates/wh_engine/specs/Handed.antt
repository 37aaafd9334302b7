-- What a reading of a table's next row says of the row, and of the cursor.
use Rattle.std.specs.Prelude.{◌≡◌, Option, None, Result, Ok, IfOk, IfErr, OnErr, IfSome, IsTrue}
use Rattle.std.specs.FinMap.{FinMap}
use Rattle.sqlite_trees.specs.declared.store.Store.{Ghosts}
use Rattle.sqlite.specs.Order.{Row}
use Rattle.wh_policy.specs.declared.format.Format.{Format}
use Rattle.wh_rows.specs.Holds.{Layout}
use Rattle.wh_rows.specs.Tables.{Tables as TypedTables}
use Rattle.wh_rows.specs.declared.table.Table.{Table}
use Rattle.wh_sql.specs.Answers.{SaysInFormat, SaysAsStoredIn}
use Rattle.wh_store.specs.Scan.{rows_left, HandsOut, HandsOutOf, IsOver, AreValid}
use Rattle.wh_store.specs.declared.scan.Cursor.{Cursor}
use Rattle.wh_sql.specs.declared.at_rest.Tables.{Tables}
use Rattle.wh_engine.specs.Faults.{NamesTable}
use Rattle.wh_engine.specs.Scanned.{WhenStored}
use Rattle.wh_engine.specs.declared.fault.Fault.{Fault}

-- Where a warehouse of this format has the table: the row is the table's next one in any tables at rest, so in those of the accepted commands. A scan of any rows, misses none and
-- hands out none twice. Each row handed out is of its type; a row that isn't is reported with this table's name.
pub record HandsNext {S K V : Type 0} (g : Ghosts S) (name : Table) (layout : Layout K V) (bind : K → Row) (rows_of : TypedTables → FinMap layout.order V) (format : Format) (old new : Tables S) (before after : Cursor K V) (result : Result (Option V) Fault) : Type 0 where
  pub rows : SaysInFormat g name format old new (λ t. IfOk result (λ found. HandsOut (rows_left layout (rows_of t) before) found (rows_left layout (rows_of t) after)))
  pub stored : SaysAsStoredIn g name format old new (λ stored. IfOk result (λ found. HandsOutOf layout bind (stored.rows name) before found after))
  pub valid : SaysAsStoredIn g name format old new (λ _. AreValid layout before → IfOk result (λ found. IfSome found (λ row. IsTrue (layout.is_valid row)) × AreValid layout after))
  pub named : WhenStored g old new (λ _. IfErr result (NamesTable name))

-- After a fault no row comes; and where none comes any more, none does, and nothing is read.
pub record Ends {S K V : Type 0} (old new : Tables S) (before after : Cursor K V) (result : Result (Option V) Fault) : Type 0 where
  pub ended : OnErr result (IsOver after)
  pub over : IsOver before → (result ≡ Ok None) × (new ≡ old) × IsOver after
