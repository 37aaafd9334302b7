use Rattle.wh_plan.proofs.WrittenEdits.{exact_edits_are_one}
use Rattle.wh_plan.proofs.laws.exact_edits_are_one.Goals as goal

pub returns : goal.returns
returns c = exact_edits_are_one
