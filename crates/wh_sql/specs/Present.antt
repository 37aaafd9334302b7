-- Which of the warehouse's tables a database has.
use Rattle.std.specs.Prelude.{◌≡◌, ℕ, Bool, ◌&&◌, ◌||◌, List, map, Option, is_some, IsTrue}
use Rattle.std.specs.List.{list_all, list_any}
use Rattle.sqlite_schema.specs.Names.{same_name, column_named}
use Rattle.sqlite.specs.Table.{Table}
use Rattle.sqlite.specs.Schema.{Schema}
use Rattle.sqlite.specs.Tree.{Trees}
use Rattle.sqlite.specs.Change.{is_used, KeepsRows}
use Rattle.sqlite.specs.Effect.{IsDatabase}
use Rattle.sqlite.specs.State.{State}
use Rattle.wh_policy.specs.declared.format.Format.TheVariants.{Two}
use Rattle.wh_rows.specs.Schema.{warehouse, tables_added}
use Rattle.wh_rows.specs.Making.{before_tree}
use Rattle.wh_rows.specs.Tables.{Tables}
use Rattle.wh_rows.specs.AtRest.{Has, Leaves}

-- It is inside a transaction that began with this, and has made this schema over the rows of the first of these trees; a crash leaves what the
-- transaction began with.
pub record IsMaking (before : Option Tables) (least : ℕ) (rows : Trees) (made : Schema) (s : State) : Type 0 where
  pub is_open : IsTrue s.is_open
  pub inside : IsTrue s.in_transaction
  pub schema : s.now.schema ≡ made
  pub sound : IsDatabase s.now
  pub kept : KeepsRows made.tables (before_tree least rows) s.now.trees
  pub committed : Has before s.committed
  pub left : Leaves before s

-- a table, an index or a view has the name of one of the tables that the second format adds
unfoldable pub is_second_taken : Schema → Bool
is_second_taken schema = list_any (is_used schema) (map (λ t. t.name) (tables_added Two))

-- or that of one of the ten tables
unfoldable pub is_any_taken : Schema → Bool
is_any_taken schema = list_any (is_used schema) (map (λ t. t.name) warehouse.tables) || is_second_taken schema

-- the table has a column of the name of each of these
abbrev pub has_columns : {A : Type 0} → List A → (A → List ℕ) → Table → Bool
has_columns columns name_of table = list_all (λ c. is_some (column_named table (name_of c))) columns

-- the schema has a table of this name, with a column of the name of each of these
abbrev pub has_table : {A : Type 0} → List ℕ → List A → (A → List ℕ) → Schema → Bool
has_table name columns name_of schema = list_any (λ t. same_name t.name name && has_columns columns name_of t) schema.tables

-- the schema has each of the ten tables, with its columns
unfoldable pub has_tables : Schema → Bool
has_tables schema = list_all (λ t. has_table t.name t.columns (λ c. c.name) schema) warehouse.tables

-- it has each of the tables that the second format adds, with its columns
unfoldable pub has_second : Schema → Bool
has_second schema = list_all (λ t. has_table t.name t.columns (λ c. c.name) schema) (tables_added Two)
