use Rattle.std.specs.Prelude.{Ok}
use Rattle.wh_rows.specs.Keys.{bind_number}
use Rattle.wh_rows.specs.Rows as row
use Rattle.wh_rows.specs.declared.table.Table.TheVariants.{Command}
use Rattle.wh_sql.specs.Answers.{ReadsOnly, state_of, SaysAsStored}
use Rattle.wh_store.specs.Scan.{AreLeft, AreValid}
use Rattle.wh_checking.proofs.Replicating.{HasReplicated}
use Rattle.wh_checking.proofs.replica.replicated_tables.Given as goal

abbrev pub invariant-rows : goal.invariant-rows
invariant-rows g l = record {
  reads : ReadsOnly (state_of g.S.Store l.fn.tables) (state_of g.S.Store l.tables) (Ok l.is_list);
  valid : SaysAsStored (state_of g.S.Store l.fn.tables) (state_of g.S.Store l.tables) (λ _. AreValid row.command l.cursor);
  replicated : SaysAsStored (state_of g.S.Store l.fn.tables) (state_of g.S.Store l.tables) (λ stored. HasReplicated (stored.rows Command) l.fn.limits (AreLeft row.command bind_number (stored.rows Command) l.cursor) l.replica l.is_list);
}
