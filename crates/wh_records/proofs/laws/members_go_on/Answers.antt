use Rattle.wh_records.proofs.GoingOn.{members_go_on}
use Rattle.wh_records.proofs.laws.members_go_on.Goals as goal

pub returns : goal.returns
returns c = members_go_on
