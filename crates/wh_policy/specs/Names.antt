-- What a policy says of a name, and whether a newer policy fits it.
use Rattle.std.specs.Prelude.{ℕ, ◌+◌, Bool, true, false, ◌&&◌, nat_le, if◌then◌else◌, List, [], ◌∷◌, Option, Some, None}
use Rattle.std.specs.Str.{bytes_eq}
use Rattle.wh_policy.specs.declared.attribute.Attribute.{Attribute}
use Rattle.wh_policy.specs.declared.policy.Policy.{Policy}
use Rattle.wh_policy.specs.Attributes.{is_named}
use Rattle.wh_policy.specs.Types.{attribute_type_number}

-- the slot and the number of the type of the attribute with the name, where the first of the attributes has this slot
unfoldable pub slot_from : ℕ → List ℕ → List Attribute → Option (ℕ × ℕ)
slot_from slot name [] = None
slot_from slot name (attribute ∷ attributes) =
    if is_named name attribute then Some (slot, attribute_type_number attribute.kind) else slot_from (slot + 1) name attributes

-- the old names stand in the same slots, and more may follow
abbrev pub are_kept : List Attribute → List Attribute → Bool
are_kept [] new = true
are_kept (attribute ∷ old) [] = false
are_kept (attribute ∷ old) (other ∷ new) = bytes_eq attribute.name other.name && are_kept old new

-- the names of each dimension stay, and no year is lost
abbrev pub fits : Policy → Policy → Bool
fits old new =
    are_kept old.product new.product && are_kept old.store new.store && are_kept old.customer new.customer
    && nat_le new.years.first old.years.first && nat_le old.years.last new.years.last
