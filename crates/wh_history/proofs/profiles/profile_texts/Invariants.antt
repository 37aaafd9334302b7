use Rattle.std.proofs.Common.{◌≡◌, ◌++◌, drop}
use Rattle.wh_history.specs.Slots.{columns_from, picked, picks}
use Rattle.wh_policy.specs.Types.{is_profile}
use Rattle.wh_history.proofs.profiles.profile_texts.Given as goal

abbrev pub invariant-loop-place : goal.invariant-loop-place
invariant-loop-place l = l.texts ++ columns_from (picked is_profile l.values) l.place (drop l.place l.types) ≡ picks is_profile l.types l.values
