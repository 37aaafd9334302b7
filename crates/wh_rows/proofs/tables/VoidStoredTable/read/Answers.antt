use Rattle.wh_rows.specs.Rows.{encode_void, is_void}
use Rattle.wh_rows.specs.Stored.{read_void}
use Rattle.wh_rows.proofs.Exact.{read_ok, read_err, void_sound, void_complete}
use Rattle.wh_rows.proofs.tables.VoidStoredTable.read.Goals as goal

pub returns-clause-ok : goal.returns-clause-ok
returns-clause-ok c = read_ok read_void encode_void is_void void_sound void_complete c.args.row.now c.read_void.result c.read_void.ensures

pub returns-clause-err : goal.returns-clause-err
returns-clause-err c = read_err read_void encode_void is_void void_sound void_complete c.args.row.now c.read_void.result c.read_void.ensures
