use Rattle.wh_policy.proofs.NameLaws.{types_have_numbers}
use Rattle.wh_policy.proofs.laws.types_have_numbers.Goals as goal

pub returns : goal.returns
returns c = types_have_numbers
