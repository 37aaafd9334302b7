-- Any of the tables, by its name.
use Rattle.std.specs.FinMap.{FinMap}
use Rattle.wh_rows.specs.Holds.{Layout}
use Rattle.wh_rows.specs.Rows as row
use Rattle.wh_rows.specs.Tables.{Tables}
use Rattle.wh_rows.specs.declared.table.Table.{Table}
use Rattle.wh_rows.specs.declared.table.Table.TheVariants.{Meta, Command, Member, Change, Product, Store, Customer, Profile, Calendar, Fact, Fact2, Void}

-- a table: how its rows stand in their columns, and which they are among those of all tables
pub record Described : Type 1 where
  pub Key : Type 0
  pub Row : Type 0
  pub layout : Layout Key Row
  pub rows : Tables → FinMap layout.order Row

abbrev pub as_described : {K R : Type 0} (layout : Layout K R) → (Tables → FinMap layout.order R) → Described
as_described {K} {R} layout rows = record { Key = K; Row = R; layout = layout; rows = rows }

-- the table of a name
abbrev pub described : Table → Described
described Meta = as_described row.meta (λ t. t.meta)
described Command = as_described row.command (λ t. t.command)
described Member = as_described row.member (λ t. t.member)
described Change = as_described row.change (λ t. t.change)
described Product = as_described row.product (λ t. t.product)
described Store = as_described row.store (λ t. t.store)
described Customer = as_described row.customer (λ t. t.customer)
described Profile = as_described row.profile (λ t. t.profile)
described Calendar = as_described row.calendar (λ t. t.calendar)
described Fact = as_described row.fact (λ t. t.fact)
described Fact2 = as_described row.fact2 (λ t. t.fact2)
described Void = as_described row.void (λ t. t.void)
