use Rattle.wh_history.specs.Profiles.{profile_now}
use Rattle.wh_history.proofs.Since.{at_stays, key_stays}
use Rattle.wh_history.proofs.laws.days_before_stay.Goals as goal

pub returns-clause-keys : goal.returns-clause-keys
returns-clause-keys c kinds old new before after first day more is late some days_before days_after opening within less =
    key_stays before after first more is late some kinds days_before days_after opening (profile_now kinds new after) (profile_now kinds old before) day within less

pub returns-clause-changes : goal.returns-clause-changes
returns-clause-changes c before after first day more is late some less = at_stays before after first more is late some day less
