use Rattle.wh_plan.proofs.WrittenEdits.{no_edits_stay}
use Rattle.wh_plan.proofs.laws.no_edits_stay.Goals as goal

pub returns : goal.returns
returns c = no_edits_stay
