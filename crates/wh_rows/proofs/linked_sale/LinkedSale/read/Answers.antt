use Rattle.wh_rows.proofs.LinkedSales.{linked_ok, linked_err}
use Rattle.wh_rows.proofs.linked_sale.LinkedSale.read.Goals as goal

pub returns-clause-ok : goal.returns-clause-ok
returns-clause-ok c = linked_ok c.args.row.now c.linked_of.result c.linked_of.ensures

pub returns-clause-err : goal.returns-clause-err
returns-clause-err c = linked_err c.args.row.now c.linked_of.result c.linked_of.ensures
