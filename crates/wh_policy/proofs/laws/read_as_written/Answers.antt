use Rattle.wh_policy.proofs.FileLaws.{read_as_written}
use Rattle.wh_policy.proofs.laws.read_as_written.Goals as goal

pub returns : goal.returns
returns c = read_as_written
