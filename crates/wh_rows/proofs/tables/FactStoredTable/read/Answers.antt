use Rattle.wh_rows.specs.Rows.{encode_fact, is_fact}
use Rattle.wh_rows.specs.Stored.{read_fact}
use Rattle.wh_rows.proofs.Exact.{read_ok, read_err, fact_sound, fact_complete}
use Rattle.wh_rows.proofs.tables.FactStoredTable.read.Goals as goal

pub returns-clause-ok : goal.returns-clause-ok
returns-clause-ok c = read_ok read_fact encode_fact is_fact fact_sound fact_complete c.args.row.now c.read_fact.result c.read_fact.ensures

pub returns-clause-err : goal.returns-clause-err
returns-clause-err c = read_err read_fact encode_fact is_fact fact_sound fact_complete c.args.row.now c.read_fact.result c.read_fact.ensures
