use Rattle.wh_rows.proofs.KeyedSales.{keyed_ok, keyed_err}
use Rattle.wh_rows.proofs.keyed_sale.KeyedSale.read.Goals as goal

pub returns-clause-ok : goal.returns-clause-ok
returns-clause-ok c = keyed_ok c.args.row.now c.keyed_of.result c.keyed_of.ensures

pub returns-clause-err : goal.returns-clause-err
returns-clause-err c = keyed_err c.args.row.now c.keyed_of.result c.keyed_of.ensures
