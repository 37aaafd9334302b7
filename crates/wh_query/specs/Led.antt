-- A column that was read, and where it leads.
use Rattle.wh_report.specs.Labels.{labels_get}
use Rattle.wh_query.specs.Slice.{Lead}
use Rattle.wh_query.specs.declared.led.LedColumn.{LedColumn}

abbrev pub lead_of : LedColumn → Lead
lead_of c = record { column = c.column; labels = labels_get c.labels }
