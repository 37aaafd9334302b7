-- The types of slowly changing attributes.
use Rattle.std.specs.Prelude.{ℕ, ℤ, pos, negsuc, Bool, true, false, ◌==◌, List, [], ◌∷◌, map, find, Option, Some, None}
use Rattle.wh_policy.specs.declared.attribute.Attribute.{Attribute}
use Rattle.wh_policy.specs.declared.attribute.AttributeType.{AttributeType}
use Rattle.wh_policy.specs.declared.attribute.AttributeType.TheVariants.{RetainOriginal, Overwrite, NewRow, NewAttribute, MiniDimension, MiniDimensionOutrigger, NewRowAndOverwrite, DualKeys}
use Rattle.wh_policy.specs.declared.type_rule.MainColumn.{MainColumn}
use Rattle.wh_policy.specs.declared.type_rule.MainColumn.TheVariants as main
use Rattle.wh_policy.specs.declared.type_rule.SecondColumn.TheVariants as second
use Rattle.wh_policy.specs.declared.type_rule.ProfilePart.{ProfilePart}
use Rattle.wh_policy.specs.declared.type_rule.ProfilePart.TheVariants.{NoPart, Part, PartAndNewest}
use Rattle.wh_policy.specs.declared.type_rule.TypeRule.{TypeRule}
use Rattle.wh_policy.specs.declared.type_rule.ValuePlace.TheVariants.{Main, Second, CurrentMain, SaleProfile, NewestProfile}

-- what a type says of its attributes: its number, what rows show of them, and where a sale finds their values
abbrev pub rule : AttributeType → TypeRule
rule RetainOriginal = record { number = 0; main = main.Original; second = second.Nothing; profile = NoPart; was = Some Main; is_now = Some Main; prior = None }
rule Overwrite = record { number = 1; main = main.Latest; second = second.Nothing; profile = NoPart; was = Some Main; is_now = Some Main; prior = None }
rule NewRow = record { number = 2; main = main.FirstDay; second = second.Nothing; profile = NoPart; was = Some Main; is_now = None; prior = None }
rule NewAttribute = record { number = 3; main = main.Latest; second = second.Prior; profile = NoPart; was = None; is_now = Some Main; prior = Some Second }
rule MiniDimension = record { number = 4; main = main.Nothing; second = second.Nothing; profile = Part; was = Some SaleProfile; is_now = None; prior = None }
rule MiniDimensionOutrigger = record { number = 5; main = main.Nothing; second = second.Nothing; profile = PartAndNewest; was = Some SaleProfile; is_now = Some NewestProfile; prior = None }
rule NewRowAndOverwrite = record { number = 6; main = main.FirstDay; second = second.Latest; profile = NoPart; was = Some Main; is_now = Some Second; prior = None }
rule DualKeys = record { number = 7; main = main.FirstDay; second = second.Nothing; profile = NoPart; was = Some Main; is_now = Some CurrentMain; prior = None }

-- the number of a type
abbrev pub attribute_type_number : AttributeType → ℕ
attribute_type_number kind = (rule kind).number

-- all types, in the order of their numbers
abbrev pub every_type : List AttributeType
every_type =
    RetainOriginal ∷ Overwrite ∷ NewRow ∷ NewAttribute ∷ MiniDimension ∷ MiniDimensionOutrigger ∷ NewRowAndOverwrite ∷ DualKeys ∷ []

-- the type that has this number, if one has
abbrev pub attribute_type_of_number : ℤ → Option AttributeType
attribute_type_of_number (pos n) = find (λ kind. attribute_type_number kind == n) every_type
attribute_type_of_number (negsuc n) = None

-- whether the main column shows the value on the row's first day
abbrev pub shows_first_day : MainColumn → Bool
shows_first_day main.Original = false
shows_first_day main.FirstDay = true
shows_first_day main.Latest = false
shows_first_day main.Nothing = false

-- whether it is a part of the profile
abbrev pub is_part : ProfilePart → Bool
is_part NoPart = false
is_part Part = true
is_part PartAndNewest = true

-- and whether rows show the number of the newest one
abbrev pub shows_newest : ProfilePart → Bool
shows_newest NoPart = false
shows_newest Part = false
shows_newest PartAndNewest = true

-- or, though it is a part, none shows it
abbrev pub hides_newest : ProfilePart → Bool
hides_newest NoPart = false
hides_newest Part = true
hides_newest PartAndNewest = false

-- whether a change of the attribute begins a row
abbrev pub is_tracked : AttributeType → Bool
is_tracked kind = shows_first_day (rule kind).main

-- whether the attribute is a part of the profile
abbrev pub is_profile : AttributeType → Bool
is_profile kind = is_part (rule kind).profile

-- whether it is one for which rows show the profile's number
abbrev pub is_outrigger : AttributeType → Bool
is_outrigger kind = shows_newest (rule kind).profile

-- and whether it is one for which they don't
abbrev pub is_mini : AttributeType → Bool
is_mini kind = hides_newest (rule kind).profile

-- the types of attributes, by slot
abbrev pub kinds_of : List Attribute → List AttributeType
kinds_of attributes = map (λ a. a.kind) attributes
