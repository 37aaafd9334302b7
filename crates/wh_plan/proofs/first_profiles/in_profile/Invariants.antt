use Rattle.std.proofs.Common.{◌≡◌, ◌++◌, [], cond, drop}
use Rattle.wh_policy.specs.Types.{is_profile}
use Rattle.wh_history.specs.Slots.{columns_from}
use Rattle.wh_plan.specs.FirstRows.{in_profile}
use Rattle.wh_plan.proofs.first_profiles.in_profile.Given as goal

-- the texts so far and those of the types that are left are all
abbrev pub invariant-loop-kind : goal.invariant-loop-kind
invariant-loop-kind l = l.texts ++ columns_from (λ _ kind. cond (is_profile kind) l.text []) l.kind-index (drop l.kind-index l.types) ≡ in_profile l.text l.types
