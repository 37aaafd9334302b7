-- The names of the tables.
use Rattle.std.specs.Prelude.{ℕ, codes, List, [], ◌∷◌, Option, find, bytes_eq, Bool, true}
use Rattle.wh_rows.specs.declared.table.Table.{Table}
use Rattle.wh_policy.specs.declared.format.Format.{Format}
use Rattle.wh_policy.specs.Formats.{is_two}
use Rattle.wh_rows.specs.declared.table.Table.TheVariants.{Meta, Command, Member, Change, Product, Store, Customer, Profile, Calendar, Fact, Fact2, Void}

-- a table's name
abbrev pub table_name : Table → List ℕ
table_name Meta = codes "meta"
table_name Command = codes "command"
table_name Member = codes "member"
table_name Change = codes "change"
table_name Product = codes "product"
table_name Store = codes "store"
table_name Customer = codes "customer"
table_name Profile = codes "profile"
table_name Calendar = codes "calendar"
table_name Fact = codes "fact"
table_name Fact2 = codes "fact2"
table_name Void = codes "void"

-- all tables, in their order
abbrev pub every_table : List Table
every_table = Meta ∷ Command ∷ Member ∷ Change ∷ Product ∷ Store ∷ Customer ∷ Profile ∷ Calendar ∷ Fact ∷ Fact2 ∷ Void ∷ []

-- the table of a name, if one has it
abbrev pub table_of_name : List ℕ → Option Table
table_of_name name = find (λ table. bytes_eq name (table_name table)) every_table

-- a warehouse of the format has the table
abbrev pub is_there : Table → Format → Bool
is_there Fact2 format = is_two format
is_there Void format = is_two format
is_there _ format = true
