use Rattle.wh_plan.proofs.WrittenEdits.{edits_are_written}
use Rattle.wh_plan.proofs.laws.edits_are_written.Goals as goal

pub returns : goal.returns
returns c = edits_are_written
