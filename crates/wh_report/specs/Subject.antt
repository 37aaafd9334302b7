-- What a report can be asked by, and what it shows of it.
use Rattle.std.specs.Prelude.{ℕ, ◌-◌, pos, cond, ◌==◌, if◌then◌else◌, List, [], ◌∷◌, Option, Some, None, option_map, option_and_then, codes}
use Rattle.std.specs.Str.{bytes_eq}
use Rattle.wh_policy.specs.Names.{slot_from}
use Rattle.wh_policy.specs.Policy.{policy_attributes}
use Rattle.wh_policy.specs.Types.{rule, attribute_type_of_number}
use Rattle.wh_policy.specs.declared.attribute.AttributeType.{AttributeType}
use Rattle.wh_policy.specs.declared.type_rule.MainColumn.{MainColumn}
use Rattle.wh_policy.specs.declared.type_rule.MainColumn.TheVariants as main
use Rattle.wh_policy.specs.declared.type_rule.ProfilePart.{ProfilePart}
use Rattle.wh_policy.specs.declared.type_rule.ProfilePart.TheVariants.{NoPart, Part, PartAndNewest}
use Rattle.wh_policy.specs.declared.type_rule.SecondColumn.{SecondColumn}
use Rattle.wh_policy.specs.declared.type_rule.SecondColumn.TheVariants as second
use Rattle.wh_policy.specs.declared.type_rule.TypeRule.{TypeRule}
use Rattle.wh_policy.specs.declared.type_rule.ValuePlace.{ValuePlace}
use Rattle.wh_policy.specs.declared.type_rule.ValuePlace.TheVariants as at
use Rattle.wh_policy.specs.declared.attribute.Dim.{Dim}
use Rattle.wh_policy.specs.declared.attribute.Dim.TheVariants.{Product, Store, Customer}
use Rattle.wh_policy.specs.declared.policy.Policy.{Policy}
use Rattle.wh_batch.specs.declared.mode.Mode.{Mode}
use Rattle.wh_batch.specs.declared.mode.Mode.TheVariants.{Was, Is, Prior}
use Rattle.wh_report.specs.declared.subject.Reading.{Reading}
use Rattle.wh_report.specs.declared.subject.Reading.TheVariants.{AtSaleDay, Latest, Original, PriorValue}
use Rattle.wh_report.specs.declared.subject.Subject.{Subject}
use Rattle.wh_report.specs.declared.subject.Subject.TheVariants.{Attribute, Month, Holiday}

-- which of a member's values the main column of a row shows, if it shows one
abbrev pub main_reading : MainColumn → Option Reading
main_reading main.Original = Some Original
main_reading main.FirstDay = Some AtSaleDay
main_reading main.Latest = Some Latest
main_reading main.Nothing = None

-- and the second one
abbrev pub second_reading : SecondColumn → Option Reading
second_reading second.Nothing = None
second_reading second.Prior = Some PriorValue
second_reading second.Latest = Some Latest

-- the value on the first day of a current row is the latest
abbrev pub current_reading : MainColumn → Option Reading
current_reading main.Original = None
current_reading main.FirstDay = Some Latest
current_reading main.Latest = None
current_reading main.Nothing = None

-- what the profile of a sale shows, and the newest one of its customer
abbrev pub profile_reading : ProfilePart → Option Reading
profile_reading NoPart = None
profile_reading Part = Some AtSaleDay
profile_reading PartAndNewest = Some AtSaleDay

abbrev pub newest_reading : ProfilePart → Option Reading
newest_reading NoPart = None
newest_reading Part = None
newest_reading PartAndNewest = Some Latest

-- what a sale finds at a place
abbrev pub place_reading : TypeRule → ValuePlace → Option Reading
place_reading r at.Main = main_reading r.main
place_reading r at.Second = second_reading r.second
place_reading r at.CurrentMain = current_reading r.main
place_reading r at.SaleProfile = profile_reading r.profile
place_reading r at.NewestProfile = newest_reading r.profile

-- the place where a mode looks, if the type answers it
abbrev pub mode_place : TypeRule → Mode → Option ValuePlace
mode_place r Was = r.was
mode_place r Is = r.is_now
mode_place r Prior = r.prior

-- what a mode shows of an attribute of a type, if the type has this reading
abbrev pub type_reading : AttributeType → Mode → Option Reading
type_reading kind mode = option_and_then (place_reading (rule kind)) (mode_place (rule kind) mode)

-- of the day of sale there is one value, which was and is the same, and none before it
abbrev pub date_reading : Mode → Option Reading
date_reading Was = Some AtSaleDay
date_reading Is = Some AtSaleDay
date_reading Prior = None

abbrev pub reading_of : Subject → Mode → Option Reading
reading_of (Attribute a) mode = type_reading a.kind mode
reading_of Month mode = date_reading mode
reading_of Holiday mode = date_reading mode

-- what follows a prefix, if the text begins with it
abbrev pub after : List ℕ → List ℕ → Option (List ℕ)
after [] text = Some text
after (p ∷ prefix) [] = None
after (p ∷ prefix) (t ∷ text) = cond (p == t) (after prefix text) None

-- the attribute of a slot from 1 and of the number of a type
abbrev pub attribute_at : Dim → ℕ × ℕ → Option Subject
attribute_at dim found = option_map (λ kind. Attribute (record { dim = dim; place = found.0 - 1; kind = kind })) (attribute_type_of_number (pos found.1))

-- the attribute that has the name in a dimension
abbrev pub attribute_in : Policy → Dim → List ℕ → Option Subject
attribute_in policy dim name = option_and_then (attribute_at dim) (slot_from 1 name (policy_attributes policy dim))

-- what a name finds, where there is one, and else another answer
abbrev pub named_or : Option (List ℕ) → (List ℕ → Option Subject) → Option Subject → Option Subject
named_or (Some name) found other = found name
named_or None found other = other

-- what the words name under a policy: an attribute of a dimension, or one of the day of sale
unfoldable pub subject_in : Policy → List ℕ → Option Subject
subject_in policy words =
    if bytes_eq words (codes "date.month") then Some Month
    else if bytes_eq words (codes "date.holiday") then Some Holiday
    else named_or (after (codes "product.") words) (attribute_in policy Product)
    (named_or (after (codes "store.") words) (attribute_in policy Store)
    (named_or (after (codes "customer.") words) (attribute_in policy Customer) None))
