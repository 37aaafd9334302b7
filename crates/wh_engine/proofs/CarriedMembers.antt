-- What is read of members under the policy in force.
use Rattle.std.proofs.Common.{◌≡◌, ◌≢◌, [], List, Option, Some, None, refl}
use Rattle.std.specs.Prelude.{unwrap_or, option_map, IsSome}
use Rattle.std.specs.List.{AllByRecursion}
use Rattle.wh_policy.specs.Policy.{policy_types, trial_policy}
use Rattle.wh_policy.specs.declared.attribute.Dim.{Dim}
use Rattle.wh_policy.specs.declared.policy.Policy.{Policy}
use Rattle.wh_history.specs.Accepted.{Accepted, described}
use Rattle.wh_history.specs.Tables.{Limits}
use Rattle.wh_history.proofs.Joins.{all_weaker}
use Rattle.wh_model.specs.Sound.{IsAccepted, IsGivenValue, IsGoodRecord}
use Rattle.wh_plan.specs.Reading.{HaveNoEmptyValue}

-- the types of the policy in force
pub types_now : (dim : Dim) (o : Option Policy) → IsSome o → policy_types (unwrap_or o trial_policy) dim ≡ unwrap_or (option_map (λ policy. policy_types policy dim) o) []
types_now dim (Some policy) some = refl
types_now dim None some = absurd cc

pub none_empty : (limits : Limits) (commands : List Accepted) → IsAccepted limits commands → HaveNoEmptyValue commands
none_empty limits commands ok dim = all_weaker IsGoodRecord (λ r. AllByRecursion (λ text. text ≢ []) r.values) (λ r good. all_weaker IsGivenValue (λ text. text ≢ []) (λ text given. given.1) r.values good.values) (described dim commands) (ok.records dim)
