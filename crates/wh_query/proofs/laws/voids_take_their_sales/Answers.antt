use Rattle.wh_query.proofs.VoidedQueries.{voids_take_their_sales}
use Rattle.wh_query.proofs.laws.voids_take_their_sales.Goals as goal

pub returns : goal.returns
returns c = voids_take_their_sales
