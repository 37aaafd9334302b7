-- Under a sound policy no row of a product or a store shows a profile.
use Rattle.std.proofs.Common.{◌≡◌, false, [], Option, Some, None, refl}
use Rattle.std.specs.Prelude.{◌≢◌, IsTrue, option_map, unwrap_or}
use Rattle.std.specs.List.{list_any}
use Rattle.std.proofs.lemmas.List.Elements.{All-weaker, All-map}
use Rattle.std.proofs.lemmas.List.Folds.{list_any_none}
use Rattle.wh_policy.specs.Policy.{policy_attributes, policy_types}
use Rattle.wh_policy.specs.Types.{rule, is_part, shows_newest, is_profile, is_outrigger}
use Rattle.wh_policy.specs.Written.{IsSound}
use Rattle.wh_policy.specs.declared.policy.Policy.{Policy}
use Rattle.wh_policy.specs.declared.attribute.Attribute.{Attribute}
use Rattle.wh_policy.specs.declared.attribute.AttributeType.{AttributeType}
use Rattle.wh_policy.specs.declared.type_rule.ProfilePart.{ProfilePart}
use Rattle.wh_policy.specs.declared.type_rule.ProfilePart.TheVariants.{NoPart, Part, PartAndNewest}
use Rattle.wh_policy.specs.declared.attribute.Dim.{Dim}
use Rattle.wh_policy.specs.declared.attribute.Dim.TheVariants.{Product, Store, Customer}
use Rattle.wh_history.specs.Accepted.{policy_after}
use Rattle.wh_model.specs.Laws.{SoundPoliciesShowNone}

part_outside : (part : ProfilePart) → (IsTrue (is_part part) → ⊥) → shows_newest part ≡ false
part_outside NoPart h = refl
part_outside Part h = refl
part_outside PartAndNewest h = absurd (h refl)

outside : (kind : AttributeType) → (IsTrue (is_profile kind) → ⊥) → is_outrigger kind ≡ false
outside kind h = part_outside (rule kind).profile h

pub none_of : (dim : Dim) (policy : Policy) → IsSound policy → dim ≢ Customer → list_any is_outrigger (policy_types policy dim) ≡ false
none_of dim policy sound other =
    list_any_none is_outrigger (policy_types policy dim)
    (All-map (λ (kind : AttributeType). is_outrigger kind ≡ false) (λ (a : Attribute). a.kind) (policy_attributes policy dim)
    (All-weaker (λ (a : Attribute). IsTrue (is_profile a.kind) → ⊥) (λ (a : Attribute). is_outrigger a.kind ≡ false) (λ a h. outside a.kind h) (policy_attributes policy dim) (sound.outside dim other)))

none_under : (dim : Dim) → dim ≢ Customer → (o : Option Policy) → ((policy : Policy) → o ≡ Some policy → IsSound policy) → list_any is_outrigger (unwrap_or (option_map (λ (policy : Policy). policy_types policy dim) o) []) ≡ false
none_under dim other None sound = refl
none_under dim other (Some policy) sound = none_of dim policy (sound policy refl) other

pub sound_policies_show_none : SoundPoliciesShowNone
sound_policies_show_none commands sound = (none_under Product (λ is. cc) (policy_after None commands) sound, none_under Store (λ is. cc) (policy_after None commands) sound)
