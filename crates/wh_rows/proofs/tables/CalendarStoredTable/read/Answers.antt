use Rattle.wh_rows.specs.Rows.{encode_date, is_date}
use Rattle.wh_rows.specs.Stored.{read_date}
use Rattle.wh_rows.proofs.Exact.{read_ok, read_err, date_sound, date_complete}
use Rattle.wh_rows.proofs.tables.CalendarStoredTable.read.Goals as goal

pub returns-clause-ok : goal.returns-clause-ok
returns-clause-ok c = read_ok read_date encode_date is_date date_sound date_complete c.args.row.now c.read_date.result c.read_date.ensures

pub returns-clause-err : goal.returns-clause-err
returns-clause-err c = read_err read_date encode_date is_date date_sound date_complete c.args.row.now c.read_date.result c.read_date.ensures
