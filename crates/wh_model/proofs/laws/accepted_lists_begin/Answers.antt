use Rattle.wh_model.proofs.StaysBegun.{accepted_lists_begin}
use Rattle.wh_model.proofs.laws.accepted_lists_begin.Goals as goal

pub returns : goal.returns
returns c = accepted_lists_begin
