use Rattle.wh_rows.specs.Rows.{encode_fact2, is_fact2}
use Rattle.wh_rows.specs.Stored.{read_fact2}
use Rattle.wh_rows.proofs.Exact.{read_ok, read_err, fact2_sound, fact2_complete}
use Rattle.wh_rows.proofs.tables.Fact2StoredTable.read.Goals as goal

pub returns-clause-ok : goal.returns-clause-ok
returns-clause-ok c = read_ok read_fact2 encode_fact2 is_fact2 fact2_sound fact2_complete c.args.row.now c.read_fact2.result c.read_fact2.ensures

pub returns-clause-err : goal.returns-clause-err
returns-clause-err c = read_err read_fact2 encode_fact2 is_fact2 fact2_sound fact2_complete c.args.row.now c.read_fact2.result c.read_fact2.ensures
