use Rattle.wh_policy.specs.declared.attribute.Dim.TheVariants.{Store}
use Rattle.wh_rows.specs.Rows.{encode_dimension, is_dimension}
use Rattle.wh_rows.specs.Stored.{read_dimension}
use Rattle.wh_rows.proofs.Exact.{read_ok, read_err, dimension_sound, dimension_complete}
use Rattle.wh_rows.proofs.tables.StoreStoredTable.read.Goals as goal

pub returns-clause-ok : goal.returns-clause-ok
returns-clause-ok c = read_ok (read_dimension Store) encode_dimension (is_dimension Store) (dimension_sound Store) (dimension_complete Store) c.args.row.now c.read_dimension.result c.read_dimension.ensures

pub returns-clause-err : goal.returns-clause-err
returns-clause-err c = read_err (read_dimension Store) encode_dimension (is_dimension Store) (dimension_sound Store) (dimension_complete Store) c.args.row.now c.read_dimension.result c.read_dimension.ensures
