use Rattle.wh_admission.proofs.Repeats.{acts_once}
use Rattle.wh_admission.proofs.Known.{acts_once_later}
use Rattle.wh_admission.proofs.laws.acts_once.Goals as goal

pub returns-clause-at_once : goal.returns-clause-at_once
returns-clause-at_once c = acts_once

pub returns-clause-later : goal.returns-clause-later
returns-clause-later c = acts_once_later
