-- The text of a batch of records, as the grammar of batches wants it.
use Rattle.std.specs.Prelude.{ℕ, if◌then◌else◌, List, [], ◌∷◌, ◌++◌, map, flat_map, bytes_eq}
use Rattle.csv.specs.Writing.{default_writer, row_text}
use Rattle.wh_day.specs.Day.{day_text}
use Rattle.wh_day.specs.Value.{none_text}
use Rattle.wh_policy.specs.declared.attribute.Attribute.{Attribute}
use Rattle.wh_policy.specs.declared.record.DimensionRecord.{DimensionRecord}
use Rattle.wh_batch.specs.Columns.{names}
use Rattle.wh_batch.specs.Layouts.{dimension_columns}

-- the field that is read as a value: an empty one for none
abbrev pub value_field : List ℕ → List ℕ
value_field value = if bytes_eq value none_text then [] else value

-- a record's fields
abbrev pub record_fields : DimensionRecord → List (List ℕ)
record_fields r = r.natural ∷ day_text r.day ∷ map value_field r.values

-- the line of a record, and that of the columns' names
unfoldable pub record_line : DimensionRecord → List ℕ
record_line r = row_text default_writer (record_fields r)

unfoldable pub header_line : List Attribute → List ℕ
header_line attributes = row_text default_writer (names (dimension_columns attributes))

-- the batch: the header, then each record's line
abbrev pub records_text : List Attribute → List DimensionRecord → List ℕ
records_text attributes records = header_line attributes ++ flat_map record_line records
