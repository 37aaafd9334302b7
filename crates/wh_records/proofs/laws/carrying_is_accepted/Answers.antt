use Rattle.wh_records.proofs.SentParts.{carrying_is_accepted}
use Rattle.wh_records.proofs.laws.carrying_is_accepted.Goals as goal

pub returns : goal.returns
returns c = carrying_is_accepted
