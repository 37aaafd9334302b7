use Rattle.wh_rows.specs.Rows.{encode_change, is_change}
use Rattle.wh_rows.specs.Stored.{read_change}
use Rattle.wh_rows.proofs.Exact.{read_ok, read_err, change_sound, change_complete}
use Rattle.wh_rows.proofs.tables.ChangeStoredTable.read.Goals as goal

pub returns-clause-ok : goal.returns-clause-ok
returns-clause-ok c = read_ok read_change encode_change is_change change_sound change_complete c.args.row.now c.read_change.result c.read_change.ensures

pub returns-clause-err : goal.returns-clause-err
returns-clause-err c = read_err read_change encode_change is_change change_sound change_complete c.args.row.now c.read_change.result c.read_change.ensures
