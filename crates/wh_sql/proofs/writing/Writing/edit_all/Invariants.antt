use Rattle.std.proofs.Common.{◌≡◌, ◌+◌, ◌≤◌, Option, Some, drop}
use Rattle.std.specs.List.{AllByRecursion}
use Rattle.sqlite.specs.Held.{state}
use Rattle.sqlite.specs.State.{HasCleanDisk}
use Rattle.wh_rows.specs.AtRest.{IsWriting}
use Rattle.wh_rows.specs.Tables.{Tables as TypedTables}
use Rattle.wh_rows.specs.Steps.{after_all}
use Rattle.wh_sql.specs.Edits.{with_edit, IsValid, Puts}
use Rattle.wh_sql.proofs.Looping.{IsOnTheWay}
use Rattle.wh_sql.proofs.writing.Writing.edit_all.Given as goal

abbrev pub invariant-loop-edit : goal.invariant-loop-edit
invariant-loop-edit g l =
    let old = state g.S.Store l.fn.self.tables.now.conn in
    let now = state g.S.Store l.self.tables.now.conn in
    let table = g.T.StoredTable in
    let step = with_edit table.layout in
    let may = Puts (IsValid table.layout) in
    record {
      same_reference : l.self.tables.ghost_name ≡ l.fn.self.tables.ghost_name;
      clean : HasCleanDisk now → HasCleanDisk old;
      counts : old.faults ≤ now.faults;
      put : HasCleanDisk now → (before : Option TypedTables) (made : TypedTables) → IsWriting before (Some made) old → AllByRecursion may l.edits
          → (mid : TypedTables) × IsWriting before (Some mid) now × IsOnTheWay step may table.rows table.with_rows (drop l.edit-index l.edits) mid (table.with_rows (after_all step l.edits (table.rows made)) made);
      counted : l.self.writes ≡ l.fn.self.writes + l.edit-index;
      noted : l.self.refused ≡ l.fn.self.refused;
    }
