use Rattle.std.proofs.Common.{◌∙◌, ap, map}
use Rattle.sqlite.specs.Table.{Table}
use Rattle.csv.specs.Records.{fields_of}
use Rattle.wh_rows.specs.ColumnNames.{table_columns}
use Rattle.wh_report.proofs.ColumnTitles.{titles}
use Rattle.wh_report.proofs.fields.column_names.Goals as goal

pub returns : goal.returns
returns g c =
    ap fields_of c.into_byte_record.ensures ∙ c.in_ok-names.ensures.fields ∙ c.columns.ensures ∙ ap table_columns c.table.ensures ∙ titles g.T.KeyedTable.name ∙ ap (λ (t : Table). map (λ column. column.name) t.columns) g.met.T.KeyedTable.means.named
