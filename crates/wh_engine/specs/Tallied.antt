-- What a count of all facts by one of their keys says of a tally.
use Rattle.std.specs.Prelude.{List, Result, IfOk, IfErr}
use Rattle.std.specs.FinMap.{values}
use Rattle.sqlite_trees.specs.declared.store.Store.{Ghosts}
use Rattle.wh_policy.specs.declared.format.Format.{Format}
use Rattle.wh_rows.specs.Facts.{facts_in, facts_table}
use Rattle.wh_rows.specs.declared.keyed_sale.FactColumn.{FactColumn}
use Rattle.wh_rows.specs.declared.keyed_sale.KeyedSale.{KeyedSale}
use Rattle.wh_sql.specs.Tally.{HasCounted, HasCountedStored}
use Rattle.wh_sql.specs.declared.at_rest.Tables.{Tables}
use Rattle.wh_engine.specs.Faults.{NamesTable}
use Rattle.wh_engine.specs.Scanned.{WhenAtRest, WhenStored}
use Rattle.wh_engine.specs.declared.fault.Fault.{Fault}

-- It counts each fact of a format once: of tables at rest, and so of the accepted commands; of stored rows of any origin, by the columns that it reads. A row out of its type is reported as one of this table.
-- `Counts` says what a tally comes to by sales.
pub record Tallies {S C : Type 0} (g : Ghosts S) (Counts : C → List KeyedSale → C → Type 0) (format : Format) (which : FactColumn) (before after : C) (old new : Tables S) (result : Result (Unit {0}) Fault) : Type 0 where
  pub counted : WhenAtRest g old new (λ t. IfOk result (λ _. HasCounted Counts which before after (values (facts_in format t))))
  pub stored : WhenStored g old new (λ stored. IfOk result (λ _. HasCountedStored Counts which before after (stored.rows (facts_table format))))
  pub named : WhenStored g old new (λ _. IfErr result (NamesTable (facts_table format)))
