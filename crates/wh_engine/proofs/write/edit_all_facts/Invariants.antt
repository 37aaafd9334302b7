use Rattle.std.proofs.Common.{◌≡◌, ◌+◌, ◌≤◌, Option, Some, length}
use Rattle.std.specs.Slice.Iter.{chunks_rest, chunks_size}
use Rattle.sqlite.specs.Held.{state}
use Rattle.sqlite.specs.State.{HasCleanDisk}
use Rattle.wh_rows.specs.AtRest.{IsWriting}
use Rattle.wh_rows.specs.Tables.{Tables as TypedTables}
use Rattle.wh_engine.specs.Writing.{AreValidFactEdits, with_fact_edits}
use Rattle.wh_engine.proofs.write.edit_all_facts.Given as goal

abbrev pub invariant-loop-part : goal.invariant-loop-part
invariant-loop-part g l =
    let old = state g.S.Store l.fn.writing.tables.now.conn in
    let now = state g.S.Store l.writing.tables.now.conn in
    let rest = chunks_rest l.part-iterator in
    record {
      can_next : (goal.iterator-loop-part g).can_next l.part-iterator;
      is_finite : (goal.iterator-loop-part g).is_finite l.part-iterator;
      size : chunks_size l.part-iterator ≡ 16;
      same_reference : l.writing.tables.ghost_name ≡ l.fn.writing.tables.ghost_name;
      clean : HasCleanDisk now → HasCleanDisk old;
      counts : old.faults ≤ now.faults;
      counted : l.writing.writes + length rest ≡ l.fn.writing.writes + length l.edits;
      put : HasCleanDisk now → (before : Option TypedTables) (made : TypedTables) → IsWriting before (Some made) old → AreValidFactEdits l.fn.format l.edits
          → (mid : TypedTables) × IsWriting before (Some mid) now × AreValidFactEdits l.fn.format rest
          × (with_fact_edits l.fn.format rest mid ≡ with_fact_edits l.fn.format l.edits made);
    }
