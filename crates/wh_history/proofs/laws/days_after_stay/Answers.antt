use Rattle.wh_history.specs.Dated.{dated}
use Rattle.wh_history.specs.Profiles.{profile_now}
use Rattle.wh_history.proofs.Until.{any_among, at_later_stays, key_later_stays}
use Rattle.wh_history.proofs.laws.days_after_stay.Goals as goal

pub returns-clause-keys : goal.returns-clause-keys
returns-clause-keys c kinds old new before after start day more is early some days_before days_after opening kept within late =
    let there = any_among start (dated before.changes) some in
    let shown = profile_now kinds new after in
    let stored = profile_now kinds old before in
    key_later_stays before after start more is early there days_before days_after kinds opening shown stored kept shown stored day within late

pub returns-clause-changes : goal.returns-clause-changes
returns-clause-changes c before after start day more is early some days_before days_after late =
    at_later_stays before after start more is early (any_among start (dated before.changes) some) days_before days_after day late
