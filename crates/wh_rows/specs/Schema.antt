-- The schema of the warehouse: ten tables, in the second format two more, their keys, and the indexes that members' rows and changes are found by.
use Rattle.std.specs.Prelude.{ℕ, List, [], ◌∷◌, ◌++◌, codes, map, Option, Some, None, Bool, false, true}
use Rattle.sqlite.specs.Collation.TheVariants.{Binary}
use Rattle.sqlite_value.specs.declared.value.Value.TheVariants.{Null}
use Rattle.sqlite_value.specs.Keys.{plain}
use Rattle.sqlite_schema.specs.declared.schema.Column.{Column}
use Rattle.sqlite_schema.specs.declared.schema.Index.{Index}
use Rattle.sqlite.specs.Table.{Table}
use Rattle.sqlite.specs.Schema.{Schema}
use Rattle.sqlite.specs.Kind.{Kind}
use Rattle.sqlite.specs.Kind.TheVariants.{Integer, Text, Any}
use Rattle.wh_policy.specs.declared.format.Format.{Format}
use Rattle.wh_policy.specs.declared.format.Format.TheVariants.{One, Two}

-- a column, which is never null
abbrev pub column : Kind → List ℕ → Column
column kind name = record { name = name; kind = kind; is_strict = false; not_null = true; default = Null; collation = Binary }

-- a column of numbers
abbrev pub integer : List ℕ → Column
integer = column Integer

-- a column of texts
abbrev pub text : List ℕ → Column
text = column Text

-- a column of bytes
abbrev pub blob : List ℕ → Column
blob = column Any

-- a table, the tree that it lies in, and the places of its keys
abbrev pub table : List ℕ → ℕ → Option ℕ → List ℕ → List (List ℕ) → List Column → Table
table name tree key primary uniques columns = record {
  name = name;
  tree = tree;
  columns = columns;
  key = key;
  primary = primary;
  uniques = uniques;
  orders = map (λ _. plain) uniques;
  checks = [];
  references = [];
  computed = [];
  stamps = record { places = []; terms = []; formats = [] };
  is_counted = false;
}

-- an index on columns of the table in a tree
abbrev pub index : List ℕ → ℕ → ℕ → List ℕ → Bool → Index
index name tree table columns is_unique = record { name = name; tree = tree; table = table; columns = columns; order = plain; is_unique = is_unique }

-- ---- the texts that make it

abbrev pub create_meta : List ℕ
create_meta = codes "CREATE TABLE meta (name TEXT NOT NULL, value INTEGER NOT NULL, PRIMARY KEY (name))"

abbrev pub create_command : List ℕ
create_command = codes "CREATE TABLE command (number INTEGER PRIMARY KEY NOT NULL, id TEXT NOT NULL, kind TEXT NOT NULL, bytes BLOB NOT NULL, records INTEGER NOT NULL, placeholders INTEGER NOT NULL, UNIQUE (id))"

abbrev pub create_member : List ℕ
create_member = codes "CREATE TABLE member (dim INTEGER NOT NULL, durable INTEGER NOT NULL, natural TEXT NOT NULL, opening INTEGER NOT NULL, PRIMARY KEY (dim, durable), UNIQUE (dim, natural))"

abbrev pub create_change : List ℕ
create_change = codes "CREATE TABLE change (command INTEGER NOT NULL, record INTEGER NOT NULL, dim INTEGER NOT NULL, durable INTEGER NOT NULL, day INTEGER NOT NULL, anchor INTEGER NOT NULL, v1 TEXT NOT NULL, v2 TEXT NOT NULL, v3 TEXT NOT NULL, v4 TEXT NOT NULL, v5 TEXT NOT NULL, v6 TEXT NOT NULL, PRIMARY KEY (command, record))"

abbrev pub create_product : List ℕ
create_product = codes "CREATE TABLE product (surrogate INTEGER PRIMARY KEY NOT NULL, durable INTEGER NOT NULL, natural TEXT NOT NULL, from_day INTEGER NOT NULL, to_day INTEGER NOT NULL, is_current INTEGER NOT NULL, a1 TEXT NOT NULL, a2 TEXT NOT NULL, a3 TEXT NOT NULL, a4 TEXT NOT NULL, a5 TEXT NOT NULL, a6 TEXT NOT NULL, b1 TEXT NOT NULL, b2 TEXT NOT NULL, b3 TEXT NOT NULL, b4 TEXT NOT NULL, b5 TEXT NOT NULL, b6 TEXT NOT NULL, profile_now INTEGER NOT NULL)"

abbrev pub create_store : List ℕ
create_store = codes "CREATE TABLE store (surrogate INTEGER PRIMARY KEY NOT NULL, durable INTEGER NOT NULL, natural TEXT NOT NULL, from_day INTEGER NOT NULL, to_day INTEGER NOT NULL, is_current INTEGER NOT NULL, a1 TEXT NOT NULL, a2 TEXT NOT NULL, a3 TEXT NOT NULL, a4 TEXT NOT NULL, a5 TEXT NOT NULL, a6 TEXT NOT NULL, b1 TEXT NOT NULL, b2 TEXT NOT NULL, b3 TEXT NOT NULL, b4 TEXT NOT NULL, b5 TEXT NOT NULL, b6 TEXT NOT NULL, profile_now INTEGER NOT NULL)"

abbrev pub create_customer : List ℕ
create_customer = codes "CREATE TABLE customer (surrogate INTEGER PRIMARY KEY NOT NULL, durable INTEGER NOT NULL, natural TEXT NOT NULL, from_day INTEGER NOT NULL, to_day INTEGER NOT NULL, is_current INTEGER NOT NULL, a1 TEXT NOT NULL, a2 TEXT NOT NULL, a3 TEXT NOT NULL, a4 TEXT NOT NULL, a5 TEXT NOT NULL, a6 TEXT NOT NULL, b1 TEXT NOT NULL, b2 TEXT NOT NULL, b3 TEXT NOT NULL, b4 TEXT NOT NULL, b5 TEXT NOT NULL, b6 TEXT NOT NULL, profile_now INTEGER NOT NULL)"

abbrev pub create_profile : List ℕ
create_profile = codes "CREATE TABLE profile (number INTEGER PRIMARY KEY NOT NULL, v1 TEXT NOT NULL, v2 TEXT NOT NULL, v3 TEXT NOT NULL, v4 TEXT NOT NULL, v5 TEXT NOT NULL, v6 TEXT NOT NULL)"

abbrev pub create_calendar : List ℕ
create_calendar = codes "CREATE TABLE calendar (date_key INTEGER PRIMARY KEY NOT NULL, iso TEXT NOT NULL, year INTEGER NOT NULL, quarter INTEGER NOT NULL, month INTEGER NOT NULL, day INTEGER NOT NULL, day_of_year INTEGER NOT NULL, weekday INTEGER NOT NULL, weekday_name TEXT NOT NULL, weekend INTEGER NOT NULL, holiday TEXT NOT NULL)"

abbrev pub create_fact : List ℕ
create_fact = codes "CREATE TABLE fact (ticket TEXT NOT NULL, line INTEGER NOT NULL, day INTEGER NOT NULL, store_key INTEGER NOT NULL, product_key INTEGER NOT NULL, customer_key INTEGER NOT NULL, store_durable INTEGER NOT NULL, product_durable INTEGER NOT NULL, customer_durable INTEGER NOT NULL, profile INTEGER NOT NULL, quantity INTEGER NOT NULL, amount INTEGER NOT NULL, cost INTEGER NOT NULL, PRIMARY KEY (ticket, line))"

abbrev pub create_change_by_member : List ℕ
create_change_by_member = codes "CREATE INDEX change_by_member ON change (dim, durable)"

abbrev pub create_change_by_anchor : List ℕ
create_change_by_anchor = codes "CREATE INDEX change_by_anchor ON change (dim, anchor)"

abbrev pub create_product_by_durable : List ℕ
create_product_by_durable = codes "CREATE INDEX product_by_durable ON product (durable)"

abbrev pub create_store_by_durable : List ℕ
create_store_by_durable = codes "CREATE INDEX store_by_durable ON store (durable)"

abbrev pub create_customer_by_durable : List ℕ
create_customer_by_durable = codes "CREATE INDEX customer_by_durable ON customer (durable)"

abbrev pub create_profile_by_values : List ℕ
create_profile_by_values = codes "CREATE INDEX profile_by_values ON profile (v1, v2, v3, v4, v5, v6)"

-- ---- the texts that make the second format of it

abbrev pub create_fact2 : List ℕ
create_fact2 = codes "CREATE TABLE fact2 (ticket TEXT NOT NULL, line INTEGER NOT NULL, day INTEGER NOT NULL, store_key INTEGER NOT NULL, product_key INTEGER NOT NULL, customer_key INTEGER NOT NULL, store_durable INTEGER NOT NULL, product_durable INTEGER NOT NULL, customer_durable INTEGER NOT NULL, profile INTEGER NOT NULL, quantity INTEGER NOT NULL, amount INTEGER NOT NULL, cost INTEGER NOT NULL, discount INTEGER NOT NULL, PRIMARY KEY (ticket, line))"

abbrev pub create_void : List ℕ
create_void = codes "CREATE TABLE void (ticket TEXT NOT NULL, line INTEGER NOT NULL, command INTEGER NOT NULL, PRIMARY KEY (ticket, line))"

-- ---- the tables

abbrev pub meta : Table
meta = table (codes "meta") 0 None (1 ∷ []) ((1 ∷ []) ∷ [])
    (text (codes "name")
    ∷ integer (codes "value") ∷ [])

abbrev pub command : Table
command = table (codes "command") 2 (Some 0) (0 ∷ []) ((2 ∷ []) ∷ [])
    (integer (codes "number")
    ∷ text (codes "id")
    ∷ text (codes "kind")
    ∷ blob (codes "bytes")
    ∷ integer (codes "records")
    ∷ integer (codes "placeholders") ∷ [])

abbrev pub member : Table
member = table (codes "member") 4 None (1 ∷ 2 ∷ []) ((1 ∷ 2 ∷ []) ∷ (1 ∷ 3 ∷ []) ∷ [])
    (integer (codes "dim")
    ∷ integer (codes "durable")
    ∷ text (codes "natural")
    ∷ integer (codes "opening") ∷ [])

abbrev pub change : Table
change = table (codes "change") 7 None (1 ∷ 2 ∷ []) ((1 ∷ 2 ∷ []) ∷ [])
    (integer (codes "command")
    ∷ integer (codes "record")
    ∷ integer (codes "dim")
    ∷ integer (codes "durable")
    ∷ integer (codes "day")
    ∷ integer (codes "anchor")
    ∷ text (codes "v1")
    ∷ text (codes "v2")
    ∷ text (codes "v3")
    ∷ text (codes "v4")
    ∷ text (codes "v5")
    ∷ text (codes "v6") ∷ [])

abbrev pub product : Table
product = table (codes "product") 9 (Some 0) (0 ∷ []) ([])
    (integer (codes "surrogate")
    ∷ integer (codes "durable")
    ∷ text (codes "natural")
    ∷ integer (codes "from_day")
    ∷ integer (codes "to_day")
    ∷ integer (codes "is_current")
    ∷ text (codes "a1")
    ∷ text (codes "a2")
    ∷ text (codes "a3")
    ∷ text (codes "a4")
    ∷ text (codes "a5")
    ∷ text (codes "a6")
    ∷ text (codes "b1")
    ∷ text (codes "b2")
    ∷ text (codes "b3")
    ∷ text (codes "b4")
    ∷ text (codes "b5")
    ∷ text (codes "b6")
    ∷ integer (codes "profile_now") ∷ [])

abbrev pub store : Table
store = table (codes "store") 10 (Some 0) (0 ∷ []) ([])
    (integer (codes "surrogate")
    ∷ integer (codes "durable")
    ∷ text (codes "natural")
    ∷ integer (codes "from_day")
    ∷ integer (codes "to_day")
    ∷ integer (codes "is_current")
    ∷ text (codes "a1")
    ∷ text (codes "a2")
    ∷ text (codes "a3")
    ∷ text (codes "a4")
    ∷ text (codes "a5")
    ∷ text (codes "a6")
    ∷ text (codes "b1")
    ∷ text (codes "b2")
    ∷ text (codes "b3")
    ∷ text (codes "b4")
    ∷ text (codes "b5")
    ∷ text (codes "b6")
    ∷ integer (codes "profile_now") ∷ [])

abbrev pub customer : Table
customer = table (codes "customer") 11 (Some 0) (0 ∷ []) ([])
    (integer (codes "surrogate")
    ∷ integer (codes "durable")
    ∷ text (codes "natural")
    ∷ integer (codes "from_day")
    ∷ integer (codes "to_day")
    ∷ integer (codes "is_current")
    ∷ text (codes "a1")
    ∷ text (codes "a2")
    ∷ text (codes "a3")
    ∷ text (codes "a4")
    ∷ text (codes "a5")
    ∷ text (codes "a6")
    ∷ text (codes "b1")
    ∷ text (codes "b2")
    ∷ text (codes "b3")
    ∷ text (codes "b4")
    ∷ text (codes "b5")
    ∷ text (codes "b6")
    ∷ integer (codes "profile_now") ∷ [])

abbrev pub profile : Table
profile = table (codes "profile") 12 (Some 0) (0 ∷ []) ([])
    (integer (codes "number")
    ∷ text (codes "v1")
    ∷ text (codes "v2")
    ∷ text (codes "v3")
    ∷ text (codes "v4")
    ∷ text (codes "v5")
    ∷ text (codes "v6") ∷ [])

abbrev pub calendar : Table
calendar = table (codes "calendar") 13 (Some 0) (0 ∷ []) ([])
    (integer (codes "date_key")
    ∷ text (codes "iso")
    ∷ integer (codes "year")
    ∷ integer (codes "quarter")
    ∷ integer (codes "month")
    ∷ integer (codes "day")
    ∷ integer (codes "day_of_year")
    ∷ integer (codes "weekday")
    ∷ text (codes "weekday_name")
    ∷ integer (codes "weekend")
    ∷ text (codes "holiday") ∷ [])

abbrev pub fact : Table
fact = table (codes "fact") 14 None (1 ∷ 2 ∷ []) ((1 ∷ 2 ∷ []) ∷ [])
    (text (codes "ticket")
    ∷ integer (codes "line")
    ∷ integer (codes "day")
    ∷ integer (codes "store_key")
    ∷ integer (codes "product_key")
    ∷ integer (codes "customer_key")
    ∷ integer (codes "store_durable")
    ∷ integer (codes "product_durable")
    ∷ integer (codes "customer_durable")
    ∷ integer (codes "profile")
    ∷ integer (codes "quantity")
    ∷ integer (codes "amount")
    ∷ integer (codes "cost") ∷ [])

abbrev pub fact2 : Table
fact2 = table (codes "fact2") 22 None (1 ∷ 2 ∷ []) ((1 ∷ 2 ∷ []) ∷ [])
    (text (codes "ticket")
    ∷ integer (codes "line")
    ∷ integer (codes "day")
    ∷ integer (codes "store_key")
    ∷ integer (codes "product_key")
    ∷ integer (codes "customer_key")
    ∷ integer (codes "store_durable")
    ∷ integer (codes "product_durable")
    ∷ integer (codes "customer_durable")
    ∷ integer (codes "profile")
    ∷ integer (codes "quantity")
    ∷ integer (codes "amount")
    ∷ integer (codes "cost")
    ∷ integer (codes "discount") ∷ [])

abbrev pub void : Table
void = table (codes "void") 24 None (1 ∷ 2 ∷ []) ((1 ∷ 2 ∷ []) ∷ [])
    (text (codes "ticket")
    ∷ integer (codes "line")
    ∷ integer (codes "command") ∷ [])

-- all of the first format
abbrev pub warehouse : Schema
warehouse = record {
  tables = meta ∷ command ∷ member ∷ change ∷ product ∷ store ∷ customer ∷ profile ∷ calendar ∷ fact ∷ [];
  indexes = index (codes "sqlite_autoindex_meta_1") 1 0 (1 ∷ []) true
      ∷ index (codes "sqlite_autoindex_command_1") 3 2 (2 ∷ []) true
      ∷ index (codes "sqlite_autoindex_member_1") 5 4 (1 ∷ 2 ∷ []) true
      ∷ index (codes "sqlite_autoindex_member_2") 6 4 (1 ∷ 3 ∷ []) true
      ∷ index (codes "sqlite_autoindex_change_1") 8 7 (1 ∷ 2 ∷ []) true
      ∷ index (codes "sqlite_autoindex_fact_1") 15 14 (1 ∷ 2 ∷ []) true
      ∷ index (codes "change_by_member") 16 7 (3 ∷ 4 ∷ []) false
      ∷ index (codes "change_by_anchor") 17 7 (3 ∷ 6 ∷ []) false
      ∷ index (codes "product_by_durable") 18 9 (2 ∷ []) false
      ∷ index (codes "store_by_durable") 19 10 (2 ∷ []) false
      ∷ index (codes "customer_by_durable") 20 11 (2 ∷ []) false
      ∷ index (codes "profile_by_values") 21 12 (2 ∷ 3 ∷ 4 ∷ 5 ∷ 6 ∷ 7 ∷ []) false ∷ [];
  views = [];
}

-- what the second format adds to it
abbrev pub tables_added : Format → List Table
tables_added One = []
tables_added Two = fact2 ∷ void ∷ []

abbrev pub indexes_added : Format → List Index
indexes_added One = []
indexes_added Two =
    index (codes "sqlite_autoindex_fact2_1") 23 22 (1 ∷ 2 ∷ []) true
    ∷ index (codes "sqlite_autoindex_void_1") 25 24 (1 ∷ 2 ∷ []) true ∷ []

-- A warehouse of a format. Its first ten tables are the same in both, so most texts are understood alike, whichever it is.
abbrev pub schema_in : Format → Schema
schema_in format = record { tables = warehouse.tables ++ tables_added format; indexes = warehouse.indexes ++ indexes_added format; views = [] }

-- a database with no object
abbrev pub no_schema : Schema
no_schema = record { tables = []; indexes = []; views = [] }
