use Rattle.wh_policy.proofs.FileLaws.{faults_are_there, not_toml_exactly}
use Rattle.wh_policy.proofs.laws.faults_are_there.Goals as goal

pub returns-clause-fault : goal.returns-clause-fault
returns-clause-fault c = faults_are_there

pub returns-clause-not_toml : goal.returns-clause-not_toml
returns-clause-not_toml c = not_toml_exactly
