use Rattle.wh_records.proofs.ReadMembers.{ranges_are_joined}
use Rattle.wh_records.proofs.laws.ranges_are_joined.Goals as goal

pub returns : goal.returns
returns c = ranges_are_joined
