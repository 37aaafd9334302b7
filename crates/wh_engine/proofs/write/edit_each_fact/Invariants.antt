use Rattle.std.proofs.Common.{◌≡◌, ◌+◌, ◌≤◌, Option, Some, drop}
use Rattle.sqlite.specs.Held.{state}
use Rattle.sqlite.specs.State.{HasCleanDisk}
use Rattle.wh_rows.specs.AtRest.{IsWriting}
use Rattle.wh_rows.specs.Tables.{Tables as TypedTables}
use Rattle.wh_engine.specs.Writing.{AreValidFactEdits, with_fact_edits}
use Rattle.wh_engine.proofs.PutFacts.{IsOnItsWay}
use Rattle.wh_engine.proofs.write.edit_each_fact.Given as goal

abbrev pub invariant-loop-edit : goal.invariant-loop-edit
invariant-loop-edit g l =
    let old = state g.S.Store l.fn.writing.tables.now.conn in
    let now = state g.S.Store l.writing.tables.now.conn in
    record {
      same_reference : l.writing.tables.ghost_name ≡ l.fn.writing.tables.ghost_name;
      clean : HasCleanDisk now → HasCleanDisk old;
      counts : old.faults ≤ now.faults;
      counted : l.writing.writes ≡ l.fn.writing.writes + l.edit-index;
      put : HasCleanDisk now → (before : Option TypedTables) (made : TypedTables) → IsWriting before (Some made) old → AreValidFactEdits l.fn.format l.edits
          → (mid : TypedTables) × IsWriting before (Some mid) now × IsOnItsWay l.fn.format (drop l.edit-index l.edits) mid (with_fact_edits l.fn.format l.edits made);
    }
