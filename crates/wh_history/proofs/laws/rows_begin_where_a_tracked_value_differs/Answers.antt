use Rattle.wh_history.proofs.Beginnings.{rows_begin}
use Rattle.wh_history.proofs.laws.rows_begin_where_a_tracked_value_differs.Goals as goal

pub returns : goal.returns
returns c = rows_begin
