use Rattle.wh_query.proofs.ColumnOrder.{columns_order_lines}
use Rattle.wh_query.proofs.laws.columns_order_lines.Goals as goal

pub returns : goal.returns
returns c = columns_order_lines
