-- The text of a table, as a dump writes it.
use Rattle.std.specs.Prelude.{ℕ, List, [], ◌∷◌, map}
use Rattle.std.specs.List.{concat}
use Rattle.std.specs.FinMap.{values}
use Rattle.std.specs.Fmt.{signed_decimal}
use Rattle.csv.specs.Writing.{default_writer, row_text}
use Rattle.hex.specs.Hex.{encode_lower}
use Rattle.sqlite_value.specs.declared.value.Value.{Value}
use Rattle.sqlite_value.specs.declared.value.Value.TheVariants.{Int, Text, Blob}
use Rattle.wh_history.specs.declared.rows.DimRow.{DimRow}
use Rattle.wh_rows.specs.Holds.{Layout}
use Rattle.wh_rows.specs.Rows as row
use Rattle.wh_rows.specs.Tables.{Tables}
use Rattle.wh_rows.specs.declared.table.Table.{Table}
use Rattle.wh_sql.specs.Described.{described}

-- what stands in a column: a number in decimal, a text as it is, and two hexadecimal digits for each of some bytes. No row has another value
abbrev pub value_field : Value → List ℕ
value_field (Int n) = signed_decimal n
value_field (Text text) = text
value_field (Blob bytes) = encode_lower bytes
value_field _ = []

module _ {K R : Type 0} (layout : Layout K R) where
  -- the names of the columns
  abbrev pub column_names : List (List ℕ)
  column_names = map (λ c. c.name) layout.table.columns

  -- a row's fields, in the order of the columns
  abbrev pub row_fields : R → List (List ℕ)
  row_fields row = map value_field (layout.encode row)

  -- the line of the columns' names
  abbrev pub header_line : List ℕ
  header_line = row_text default_writer column_names

  -- the line of a row
  abbrev pub row_line : R → List ℕ
  row_line row = row_text default_writer (row_fields row)

  -- the line of the columns' names, and a line a row
  abbrev pub table_lines : List R → List (List ℕ)
  table_lines rows = header_line ∷ map row_line rows

  abbrev pub table_text : List R → List ℕ
  table_text rows = concat (table_lines rows)

-- the text of product, store or customer, which have the same columns
abbrev pub dimension_text : List DimRow → List ℕ
dimension_text = table_text row.product

-- the lines of one of the tables
abbrev pub lines_of_table : Table → Tables → List (List ℕ)
lines_of_table table t = table_lines (described table).layout (values ((described table).rows t))

abbrev pub text_of_table : Table → Tables → List ℕ
text_of_table table t = concat (lines_of_table table t)
