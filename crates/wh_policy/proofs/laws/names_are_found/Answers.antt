use Rattle.wh_policy.proofs.NameLaws.{names_are_found, no_others_are_found}
use Rattle.wh_policy.proofs.laws.names_are_found.Goals as goal

pub returns-clause-found : goal.returns-clause-found
returns-clause-found c = names_are_found

pub returns-clause-others : goal.returns-clause-others
returns-clause-others c = no_others_are_found
