-- The names of a table's columns are those of the schema.
use Rattle.std.proofs.Common.{◌≡◌, refl, map}
use Rattle.wh_rows.specs.ColumnNames.{table_columns}
use Rattle.wh_rows.specs.Raw.{table_of}
use Rattle.wh_rows.specs.declared.table.Table.{Table}
use Rattle.wh_rows.specs.declared.table.Table.TheVariants.{Meta, Command, Member, Change, Product, Store, Customer, Profile, Calendar, Fact, Fact2, Void}

pub titles : (table : Table) → table_columns table ≡ map (λ column. column.name) (table_of table).columns
titles Meta = refl
titles Command = refl
titles Member = refl
titles Change = refl
titles Product = refl
titles Store = refl
titles Customer = refl
titles Profile = refl
titles Calendar = refl
titles Fact = refl
titles Fact2 = refl
titles Void = refl
