use Rattle.wh_policy.specs.declared.attribute.Dim.TheVariants.{Customer}
use Rattle.wh_rows.specs.Rows.{encode_dimension, is_dimension}
use Rattle.wh_rows.specs.Stored.{read_dimension}
use Rattle.wh_rows.proofs.Exact.{read_ok, read_err, dimension_sound, dimension_complete}
use Rattle.wh_rows.proofs.tables.CustomerStoredTable.read.Goals as goal

pub returns-clause-ok : goal.returns-clause-ok
returns-clause-ok c = read_ok (read_dimension Customer) encode_dimension (is_dimension Customer) (dimension_sound Customer) (dimension_complete Customer) c.args.row.now c.read_dimension.result c.read_dimension.ensures

pub returns-clause-err : goal.returns-clause-err
returns-clause-err c = read_err (read_dimension Customer) encode_dimension (is_dimension Customer) (dimension_sound Customer) (dimension_complete Customer) c.args.row.now c.read_dimension.result c.read_dimension.ensures
