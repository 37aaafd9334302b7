use Rattle.std.proofs.Common.{◌≡◌, true, rules}
use Rattle.std.specs.List.{list_any}
use Rattle.wh_policy.specs.Types.{is_outrigger}
use Rattle.wh_history.proofs.profiles.newest_profile.Goals as goal

pub returns : goal.returns
returns c =
    let tested : list_any is_outrigger c.args.types.now ≡ true = search rules in
    rw tested c.current_by.ensures
