use Rattle.std.proofs.Common.{◌≡◌, take}
use Rattle.wh_history.specs.Profiles.{combinations_of}
use Rattle.wh_history.specs.Known.{all_numbered}
use Rattle.wh_history.proofs.trial.trial_profiles.Given as goal

abbrev pub invariant-loop-incoming : goal.invariant-loop-incoming
invariant-loop-incoming l = l.found ≡ all_numbered (combinations_of l.types (take l.incoming-index l.records))
