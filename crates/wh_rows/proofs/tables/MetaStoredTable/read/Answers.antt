use Rattle.wh_rows.specs.Rows.{encode_meta, is_meta}
use Rattle.wh_rows.specs.Stored.{read_meta}
use Rattle.wh_rows.proofs.Exact.{read_ok, read_err, meta_sound, meta_complete}
use Rattle.wh_rows.proofs.tables.MetaStoredTable.read.Goals as goal

pub returns-clause-ok : goal.returns-clause-ok
returns-clause-ok c = read_ok read_meta encode_meta is_meta meta_sound meta_complete c.args.row.now c.read_meta.result c.read_meta.ensures

pub returns-clause-err : goal.returns-clause-err
returns-clause-err c = read_err read_meta encode_meta is_meta meta_sound meta_complete c.args.row.now c.read_meta.result c.read_meta.ensures
