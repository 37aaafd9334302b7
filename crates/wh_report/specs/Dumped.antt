-- What a dump says of any stored rows.
use Rattle.std.specs.Prelude.{◌≡◌, List, [], ◌++◌, map, Option, Result, Ok, Err, IfErr, IsTrue, ℕ}
use Rattle.std.specs.FinMap.{values}
use Rattle.std.specs.List.{list_all}
use Rattle.sqlite.specs.Order.{Row}
use Rattle.sqlite_trees.specs.declared.store.Store.{Ghosts}
use Rattle.wh_rows.specs.Holds.{Layout}
use Rattle.wh_rows.specs.Parts.{IsArranged}
use Rattle.wh_rows.specs.Raw.{Stored}
use Rattle.wh_rows.specs.declared.table.Table.{Table}
use Rattle.wh_sql.specs.Described.{Described, described}
use Rattle.wh_sql.specs.Answers.{SaysInFormat, SaysAsStoredIn, state_of}
use Rattle.wh_engine.specs.Faults.{NamesTable}
use Rattle.wh_engine.specs.Scanned.{ReadsThrough}
use Rattle.wh_engine.specs.declared.engine.Engine.{Engine}
use Rattle.wh_engine.specs.declared.fault.Fault.TheVariants.{Reopen}
use Rattle.wh_report.specs.Dump.{table_lines}
use Rattle.wh_report.specs.Output.{IsOutInLines, IsOfDump, of_warehouse}
use Rattle.wh_report.specs.declared.output.ReportFault.{ReportFault}
use Rattle.wh_report.specs.declared.output.ReportFault.TheVariants.{Warehouse}

-- stored rows by key: these, of values of their types, and then others
pub record BeginsWith {K R : Type 0} (layout : Layout K R) (stored : List Row) (rows : List R) (later : List Row) : Type 0 where
  pub arranged : IsArranged layout.table stored (map layout.encode rows ++ later)
  pub valid : IsTrue (list_all layout.is_valid rows)

-- all of them; or those that come first, where a fault ended it
abbrev pub AreReadOf : {K R : Type 0} → Layout K R → List Row → Result (Unit {0}) ReportFault → List R → Type 0
AreReadOf layout stored (Ok done) rows = BeginsWith layout stored rows []
AreReadOf layout stored (Err fault) rows = (later : List Row) × BeginsWith layout stored rows later

-- Their lines went out. Where one is damaged, it is this table that is named.
pub record IsDumpOf {K R : Type 0} (layout : Layout K R) (name : Table) (stored : List Row) (result : Result (Unit {0}) ReportFault) (old new : Option (List ℕ)) : Type 0 where
  pub rows : List R
  pub read : AreReadOf layout stored result rows
  pub out : IsOutInLines result old new (table_lines layout rows)
  pub named : IfErr (of_warehouse result) (NamesTable name)

abbrev pub DumpsStored : Table → Stored → Result (Unit {0}) ReportFault → Option (List ℕ) → Option (List ℕ) → Type 0
DumpsStored table stored = IsDumpOf (described table).layout table (stored.rows table)

-- What writing the text of a table out does to an engine and a writer.
pub record IsWrittenOut {S : Type 0} (g : Ghosts S) (table : Table) (of : Described) (old new : Engine S) (before after : Option (List ℕ)) (result : Result (Unit {0}) ReportFault) : Type 0 where
  pub reads : ReadsThrough old.session new.session (state_of g old.tables) (state_of g new.tables) (of_warehouse result)
  pub writes : new.writes ≡ old.writes
  pub out : SaysInFormat g table old.session.format old.tables new.tables (λ t. IsOutInLines result before after (table_lines of.layout (values (of.rows t))))
  pub stored : SaysAsStoredIn g table old.session.format old.tables new.tables (λ stored. IsDumpOf of.layout table (stored.rows table) result before after)
  pub reopen : IsTrue old.session.must_reopen → (result ≡ Err (Warehouse Reopen)) × (new.tables ≡ old.tables) × (new.session ≡ old.session) × (after ≡ before)
  pub only : result ≡ Err (Warehouse Reopen) → IsTrue old.session.must_reopen
  pub kinds : IfErr result IsOfDump
