-- What the tables of a database hold: finite maps from keys to rows of a type.
use Rattle.std.specs.Prelude.{◌≡◌, Bool, List, map, length, IsTrue}
use Rattle.std.specs.declared.cmp.Ordering.{Ordering}
use Rattle.std.specs.FinMap.{FinMap, entries, values}
use Rattle.std.specs.List.{AllByRecursion, range_with_len}
use Rattle.std.specs.List.Sorted.{IsPermutation}
use Rattle.sqlite.specs.Order.{Row, column}
use Rattle.sqlite.specs.Tree.{Trees, rowid, IsTable}
use Rattle.sqlite.specs.View.{is_int}
use Rattle.sqlite.specs.Table.{Table}
use Rattle.sqlite_schema.specs.Names.{place_of}

-- a table, the key of its rows and the order of keys, how a row stands in the columns, and which rows have values of their types
pub record Layout (K V : Type 0) : Type 0 where
  pub table : Table
  pub order : K → K → Ordering
  pub key : V → K
  pub encode : V → Row
  pub is_valid : V → Bool

-- a row as SELECT * shows it
abbrev pub values_of : Table → Row → Row
values_of table row = map (λ at. column row (place_of table at)) (range_with_len 0 (length table.columns))

-- the table has these rows, and no other
abbrev pub HasRows : {K V : Type 0} → Layout K V → Trees → List V → Type 0
HasRows layout db rows = IsPermutation (map (values_of layout.table) (db layout.table.tree)) (map layout.encode rows)

-- the table holds the map: each key its row, of values of their types, and no other
pub record Holds {K V : Type 0} (layout : Layout K V) (db : Trees) (rows : FinMap layout.order V) : Type 0 where
  pub rows_are : HasRows layout db (values rows)
  pub keyed : AllByRecursion (λ e. e.0 ≡ layout.key e.1) (entries rows)
  pub valid : AllByRecursion (λ e. IsTrue (layout.is_valid e.1)) (entries rows)

-- the rowids are integers that rise
abbrev pub IsRising : List Row → Type 0
IsRising rows = IsTable rows × AllByRecursion (λ row. IsTrue (is_int (rowid row))) rows
