-- The facts of either format: each keeps them in a table of its own.
use Rattle.std.specs.Prelude.{if◌then◌else◌}
use Rattle.std.specs.FinMap.{FinMap}
use Rattle.wh_history.specs.declared.facts.Fact.{Fact}
use Rattle.wh_policy.specs.Formats.{is_two}
use Rattle.wh_policy.specs.declared.format.Format.{Format}
use Rattle.wh_policy.specs.declared.format.Format.TheVariants.{One, Two}
use Rattle.wh_rows.specs.declared.key.LineKey.{LineKey}
use Rattle.wh_rows.specs.declared.table.Table.{Table}
use Rattle.wh_rows.specs.declared.table.Table.TheVariants as tables
use Rattle.wh_rows.specs.Holds.{Layout}
use Rattle.wh_rows.specs.Rows as row
use Rattle.wh_rows.specs.Tables.{Tables}

-- their table, and how a fact stands in it
abbrev pub facts_table : Format → Table
facts_table One = tables.Fact
facts_table Two = tables.Fact2

abbrev pub fact_layout : Format → Layout LineKey Fact
fact_layout One = row.fact
fact_layout Two = row.fact2

-- those that stand in the table of a format, and the tables with others there
abbrev pub facts_in : Format → Tables → FinMap row.line_cmp Fact
facts_in One t = t.fact
facts_in Two t = t.fact2

abbrev pub with_facts_in : Format → FinMap row.line_cmp Fact → Tables → Tables
with_facts_in format facts t = record t { fact = if is_two format then t.fact else facts; fact2 = if is_two format then facts else t.fact2 }

-- those of the format that the tables are of
abbrev pub facts_of : Tables → FinMap row.line_cmp Fact
facts_of t = facts_in t.format t
