use Rattle.std.proofs.Common.{◌≡◌, ◌+◌, ◌≤◌, ◌++◌, List, Option, Some, length}
use Rattle.std.specs.List.{AllByRecursion}
use Rattle.std.specs.Slice.Iter.{chunks_rest, chunks_size}
use Rattle.sqlite.specs.Held.{state}
use Rattle.sqlite.specs.State.{HasCleanDisk}
use Rattle.wh_rows.specs.AtRest.{IsWriting}
use Rattle.wh_rows.specs.Tables.{Tables as TypedTables}
use Rattle.wh_rows.specs.Steps.{after_all}
use Rattle.wh_sql.specs.Edits.{with_edit, IsValid, Puts}
use Rattle.wh_sql.proofs.Looping.{IsOnTheWay}
use Rattle.wh_sql.proofs.writing.Writing.edit_in_parts.Given as goal

abbrev pub invariant-loop-part : goal.invariant-loop-part
invariant-loop-part g l =
    let old = state g.S.Store l.fn.self.tables.now.conn in
    let now = state g.S.Store l.self.tables.now.conn in
    let rest = chunks_rest l.part-iterator in
    let table = g.T.StoredTable in
    let step = with_edit table.layout in
    let may = Puts (IsValid table.layout) in
    record {
      can_next : (goal.iterator-loop-part g).can_next l.part-iterator;
      is_finite : (goal.iterator-loop-part g).is_finite l.part-iterator;
      size : chunks_size l.part-iterator ≡ 16;
      same_reference : l.self.tables.ghost_name ≡ l.fn.self.tables.ghost_name;
      clean : HasCleanDisk now → HasCleanDisk old;
      counts : old.faults ≤ now.faults;
      counted : l.self.writes + length rest ≡ l.fn.self.writes + length l.edits;
      noted : l.self.refused ≡ l.fn.self.refused;
      follows : (done : List _) × (l.edits ≡ done ++ rest);
      put : HasCleanDisk now → (before : Option TypedTables) (made : TypedTables) → IsWriting before (Some made) old → AllByRecursion may l.edits
          → (mid : TypedTables) × IsWriting before (Some mid) now × IsOnTheWay step may table.rows table.with_rows rest mid (table.with_rows (after_all step l.edits (table.rows made)) made);
    }
