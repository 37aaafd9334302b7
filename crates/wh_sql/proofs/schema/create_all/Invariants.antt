use Rattle.std.proofs.Common.{◌≤◌, ℕ, Option, map, drop}
use Rattle.sqlite.specs.Held.{state}
use Rattle.sqlite.specs.Schema.{Schema}
use Rattle.sqlite.specs.Tree.{Trees}
use Rattle.wh_rows.specs.Tables.{Tables}
use Rattle.sqlite.specs.State.{HasCleanDisk}
use Rattle.wh_rows.specs.Making.{LeadsOver}
use Rattle.wh_sql.specs.Present.{IsMaking}
use Rattle.wh_sql.proofs.schema.create_all.Given as goal

abbrev pub invariant-loop-text : goal.invariant-loop-text
invariant-loop-text g l =
    record {
      clean : HasCleanDisk (state g.S.Store l.conn) → HasCleanDisk (state g.S.Store l.fn.conn);
      counts : (state g.S.Store l.fn.conn).faults ≤ (state g.S.Store l.conn).faults;
      making : HasCleanDisk (state g.S.Store l.conn) → (before : Option Tables) (least : ℕ) (rows : Trees) (from to : Schema) → LeadsOver least from (map (λ text. text.now) l.texts) to → IsMaking before least rows from (state g.S.Store l.fn.conn)
          → (next : Schema) × LeadsOver least next (map (λ text. text.now) (drop l.text-index l.texts)) to × IsMaking before least rows next (state g.S.Store l.conn);
    }
