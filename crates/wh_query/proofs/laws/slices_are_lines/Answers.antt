use Rattle.wh_query.proofs.QueryLaws.{slices_are_lines}
use Rattle.wh_query.proofs.laws.slices_are_lines.Goals as goal

pub returns : goal.returns
returns c = slices_are_lines
