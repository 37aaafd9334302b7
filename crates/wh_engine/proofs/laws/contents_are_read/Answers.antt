use Rattle.wh_admission.proofs.Admitted.{contents_are_read}
use Rattle.wh_engine.proofs.laws.contents_are_read.Goals as goal

pub returns : goal.returns
returns c = contents_are_read
