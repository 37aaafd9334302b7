use Rattle.wh_admission.proofs.AdmittedSteps.{admitted_is_stepped}
use Rattle.wh_admission.proofs.laws.admitted_is_stepped.Goals as goal

pub returns : goal.returns
returns c = admitted_is_stepped
