use Rattle.wh_policy.proofs.FileLaws.{accepted_exactly}
use Rattle.wh_policy.proofs.laws.accepted_exactly.Goals as goal

pub returns : goal.returns
returns c = accepted_exactly
