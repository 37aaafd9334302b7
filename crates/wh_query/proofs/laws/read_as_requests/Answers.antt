use Rattle.wh_query.proofs.ReadQueries.{read_as_requests}
use Rattle.wh_query.proofs.laws.read_as_requests.Goals as goal

pub returns : goal.returns
returns c = read_as_requests
