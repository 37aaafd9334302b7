-- The names of the columns of each table.
use Rattle.std.specs.Prelude.{ℕ, List, map}
use Rattle.sqlite.specs.Table.{Table as Stored}
use Rattle.wh_rows.specs.Schema as schema
use Rattle.wh_rows.specs.declared.table.Table.{Table}
use Rattle.wh_rows.specs.declared.table.Table.TheVariants.{Meta, Command, Member, Change, Product, Store, Customer, Profile, Calendar, Fact, Fact2, Void}

-- a table of the schema
abbrev pub table_in_schema : Table → Stored
table_in_schema Meta = schema.meta
table_in_schema Command = schema.command
table_in_schema Member = schema.member
table_in_schema Change = schema.change
table_in_schema Product = schema.product
table_in_schema Store = schema.store
table_in_schema Customer = schema.customer
table_in_schema Profile = schema.profile
table_in_schema Calendar = schema.calendar
table_in_schema Fact = schema.fact
table_in_schema Fact2 = schema.fact2
table_in_schema Void = schema.void

-- the names of a table's columns, in their order
abbrev pub table_columns : Table → List (List ℕ)
table_columns table = map (λ c. c.name) (table_in_schema table).columns
