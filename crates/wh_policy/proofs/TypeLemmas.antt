-- The types of attributes and their numbers.
use Rattle.std.proofs.Common.{◌≡◌, ◌≢◌, ◌⊎◌, ℕ, suc, zero, ◌≤◌, ℤ, pos, negsuc, Bool, true, false, List, [], ◌∷◌, Some, refl, sym, ap, arith, inl, inr, eqb}
use Rattle.std.specs.List.{find}
use Rattle.std.proofs.lemmas.Bool.{cases_Bool, eqb-true, true≢false}
use Rattle.std.proofs.lemmas.Option.{same_Some, none-some}
use Rattle.wh_policy.specs.declared.attribute.AttributeType.{AttributeType}
use Rattle.wh_policy.specs.declared.attribute.AttributeType.TheVariants.{RetainOriginal, Overwrite, NewRow, NewAttribute, MiniDimension, MiniDimensionOutrigger, NewRowAndOverwrite, DualKeys}
use Rattle.wh_policy.specs.declared.type_rule.MainColumn.TheVariants as main
use Rattle.wh_policy.specs.Types.{rule, every_type, attribute_type_number, attribute_type_of_number, is_profile, is_mini, is_outrigger}

-- each type is found by its number
pub attribute_type_of_number-again : (kind : AttributeType) → attribute_type_of_number (pos (attribute_type_number kind)) ≡ Some kind
attribute_type_of_number-again RetainOriginal = refl
attribute_type_of_number-again Overwrite = refl
attribute_type_of_number-again NewRow = refl
attribute_type_of_number-again NewAttribute = refl
attribute_type_of_number-again MiniDimension = refl
attribute_type_of_number-again MiniDimensionOutrigger = refl
attribute_type_of_number-again NewRowAndOverwrite = refl
attribute_type_of_number-again DualKeys = refl

pub attribute_type_number-small : (kind : AttributeType) → attribute_type_number kind ≤ 7
attribute_type_number-small RetainOriginal = omega arith
attribute_type_number-small Overwrite = omega arith
attribute_type_number-small NewRow = omega arith
attribute_type_number-small NewAttribute = omega arith
attribute_type_number-small MiniDimension = omega arith
attribute_type_number-small MiniDimensionOutrigger = omega arith
attribute_type_number-small NewRowAndOverwrite = omega arith
attribute_type_number-small DualKeys = omega arith

-- each number up to 7 has a type
pub type_with : (n : ℕ) → n ≤ 7 → (kind : AttributeType) × (attribute_type_number kind ≡ n)
type_with zero h = (RetainOriginal, refl)
type_with (suc zero) h = (Overwrite, refl)
type_with (suc (suc zero)) h = (NewRow, refl)
type_with (suc (suc (suc zero))) h = (NewAttribute, refl)
type_with (suc (suc (suc (suc zero)))) h = (MiniDimension, refl)
type_with (suc (suc (suc (suc (suc zero))))) h = (MiniDimensionOutrigger, refl)
type_with (suc (suc (suc (suc (suc (suc zero)))))) h = (NewRowAndOverwrite, refl)
type_with (suc (suc (suc (suc (suc (suc (suc zero))))))) h = (DualKeys, refl)
type_with (suc (suc (suc (suc (suc (suc (suc (suc n)))))))) h = absurd (omega arith)

find_passes : {X : Type 0} (test : X → Bool) (xs : List X) (x : X) → find test xs ≡ Some x → test x ≡ true
find_passes test [] x e = absurd (none-some x e)
find_passes test (y ∷ ys) x e = elim (cases_Bool (test y)) [
  | inl here ↦ rw (same_Some y x (rw here at e)) at here
  | inr later ↦ find_passes test ys x (rw later at e)
]

-- and no other has
pub attribute_type_of_number-is : (z : ℤ) (kind : AttributeType) → attribute_type_of_number z ≡ Some kind → z ≡ pos (attribute_type_number kind)
attribute_type_of_number-is (negsuc n) kind e = absurd (none-some kind e)
attribute_type_of_number-is (pos n) kind e = ap pos (sym (eqb-true _ _ (find_passes (λ (k : AttributeType). eqb (attribute_type_number k) n) every_type kind e)))

pub profile_numbers : (kind : AttributeType) → is_profile kind ≡ true → (attribute_type_number kind ≡ 4) ⊎ (attribute_type_number kind ≡ 5)
profile_numbers MiniDimension h = inl refl
profile_numbers MiniDimensionOutrigger h = inr refl
profile_numbers _ h = absurd cc

pub other_numbers : (kind : AttributeType) → is_profile kind ≡ false → (attribute_type_number kind ≢ 4) × (attribute_type_number kind ≢ 5)
other_numbers MiniDimension h = absurd (true≢false h)
other_numbers MiniDimensionOutrigger h = absurd (true≢false h)
other_numbers _ h = (λ e. omega (arith, e), λ e. omega (arith, e))

-- an attribute whose rows show the original value is none of the profile
pub original_outside : (kind : AttributeType) → (rule kind).main ≡ main.Original → is_profile kind ≡ false
original_outside MiniDimension h = absurd cc
original_outside MiniDimensionOutrigger h = absurd cc
original_outside _ h = refl

pub mini_number : (kind : AttributeType) → is_mini kind ≡ true → attribute_type_number kind ≡ 4
mini_number MiniDimension h = refl
mini_number _ h = absurd cc

pub outrigger_number : (kind : AttributeType) → is_outrigger kind ≡ true → attribute_type_number kind ≡ 5
outrigger_number MiniDimensionOutrigger h = refl
outrigger_number _ h = absurd cc

pub not_four : (kind : AttributeType) → is_mini kind ≡ false → attribute_type_number kind ≢ 4
not_four MiniDimension h e = cc
not_four RetainOriginal h e = cc
not_four Overwrite h e = cc
not_four NewRow h e = cc
not_four NewAttribute h e = cc
not_four MiniDimensionOutrigger h e = cc
not_four NewRowAndOverwrite h e = cc
not_four DualKeys h e = cc

pub not_five : (kind : AttributeType) → is_outrigger kind ≡ false → attribute_type_number kind ≢ 5
not_five MiniDimensionOutrigger h e = cc
not_five RetainOriginal h e = cc
not_five Overwrite h e = cc
not_five NewRow h e = cc
not_five NewAttribute h e = cc
not_five MiniDimension h e = cc
not_five NewRowAndOverwrite h e = cc
not_five DualKeys h e = cc
