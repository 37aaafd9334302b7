-- The tables as finite maps, and the database that holds them.
use Rattle.std.specs.Prelude.{◌≡◌}
use Rattle.std.specs.FinMap.{FinMap, empty}
use Rattle.std.specs.List.{AllByRecursion}
use Rattle.sqlite.specs.Effect.{Database, IsDatabase}
use Rattle.sqlite.specs.Tree.{Trees}
use Rattle.wh_day.specs.declared.calendar.DateRow.{DateRow}
use Rattle.wh_history.specs.declared.rows.DimRow.{DimRow}
use Rattle.wh_history.specs.declared.facts.Fact.{Fact}
use Rattle.wh_rows.specs.declared.rows.MetaRow.{MetaRow}
use Rattle.wh_rows.specs.declared.rows.CommandRow.{CommandRow}
use Rattle.wh_rows.specs.declared.rows.MemberRow.{MemberRow}
use Rattle.wh_rows.specs.declared.rows.ChangeRow.{ChangeRow}
use Rattle.wh_rows.specs.declared.rows.ProfileRow.{ProfileRow}
use Rattle.wh_rows.specs.declared.rows.VoidRow.{VoidRow}
use Rattle.wh_policy.specs.declared.format.Format.{Format}
use Rattle.wh_policy.specs.declared.format.Format.TheVariants.{One, Two}
use Rattle.wh_rows.specs.Schema.{schema_in}
use Rattle.wh_rows.specs.Holds.{Layout, Holds, IsRising}
use Rattle.wh_rows.specs.Rows as row

-- the format, and each table, from its keys to its rows; the last two are there in the second format alone
pub record Tables : Type 0 where
  pub format : Format
  pub meta : FinMap row.meta.order MetaRow
  pub command : FinMap row.command.order CommandRow
  pub member : FinMap row.member.order MemberRow
  pub change : FinMap row.change.order ChangeRow
  pub product : FinMap row.product.order DimRow
  pub store : FinMap row.store.order DimRow
  pub customer : FinMap row.customer.order DimRow
  pub profile : FinMap row.profile.order ProfileRow
  pub calendar : FinMap row.calendar.order DateRow
  pub fact : FinMap row.fact.order Fact
  pub fact2 : FinMap row.fact2.order Fact
  pub void : FinMap row.void.order VoidRow

-- the tables of the first format with no row
abbrev pub no_tables : Tables
no_tables = record { format = One; meta = empty; command = empty; member = empty; change = empty; product = empty; store = empty; customer = empty; profile = empty; calendar = empty; fact = empty; fact2 = empty; void = empty }

-- A table that only the second format has: there it holds the map. In the first format it isn't there, and the map is empty.
abbrev pub HoldsIn : {K V : Type 0} → Format → (layout : Layout K V) → Trees → FinMap layout.order V → Type 0
HoldsIn One layout trees rows = rows ≡ empty
HoldsIn Two layout trees rows = Holds layout trees rows

-- the database is a warehouse, which holds these tables and no other
pub record Stores (db : Database) (tables : Tables) : Type 0 where
  pub schema : db.schema ≡ schema_in tables.format
  pub sound : IsDatabase db
  pub rising : AllByRecursion (λ t. IsRising (db.trees t.tree)) (schema_in tables.format).tables
  pub meta : Holds row.meta db.trees tables.meta
  pub command : Holds row.command db.trees tables.command
  pub member : Holds row.member db.trees tables.member
  pub change : Holds row.change db.trees tables.change
  pub product : Holds row.product db.trees tables.product
  pub store : Holds row.store db.trees tables.store
  pub customer : Holds row.customer db.trees tables.customer
  pub profile : Holds row.profile db.trees tables.profile
  pub calendar : Holds row.calendar db.trees tables.calendar
  pub fact : Holds row.fact db.trees tables.fact
  pub fact2 : HoldsIn tables.format row.fact2 db.trees tables.fact2
  pub void : HoldsIn tables.format row.void db.trees tables.void
