-- What the modes show of each type, and where it stands.
use Rattle.std.proofs.Common.{◌≡◌, true, cond, List, [], ◌∷◌, map, Option, Some, None, refl, subst}
use Rattle.std.specs.Option.{option_and_then}
use Rattle.std.specs.Prelude.{is_some, unwrap_or}
use Rattle.wh_policy.specs.Types.{rule, every_type}
use Rattle.wh_policy.specs.declared.attribute.AttributeType.{AttributeType}
use Rattle.wh_policy.specs.declared.attribute.AttributeType.TheVariants.{RetainOriginal}
use Rattle.wh_policy.specs.declared.type_rule.MainColumn.{MainColumn}
use Rattle.wh_policy.specs.declared.type_rule.MainColumn.TheVariants as main
use Rattle.wh_policy.specs.declared.type_rule.ProfilePart.{ProfilePart}
use Rattle.wh_policy.specs.declared.type_rule.ProfilePart.TheVariants.{NoPart, Part, PartAndNewest}
use Rattle.wh_policy.specs.declared.type_rule.SecondColumn.{SecondColumn}
use Rattle.wh_policy.specs.declared.type_rule.SecondColumn.TheVariants as second
use Rattle.wh_policy.specs.declared.type_rule.TypeRule.{TypeRule}
use Rattle.wh_policy.specs.declared.type_rule.ValuePlace.{ValuePlace}
use Rattle.wh_policy.specs.declared.type_rule.ValuePlace.TheVariants as at
use Rattle.wh_batch.specs.declared.mode.Mode.{Mode}
use Rattle.wh_batch.specs.declared.mode.Mode.TheVariants.{Was, Is, Prior}
use Rattle.wh_report.specs.Joined.{reading_place}
use Rattle.wh_report.specs.Subject.{main_reading, second_reading, current_reading, profile_reading, newest_reading, place_reading, type_reading}
use Rattle.wh_report.specs.declared.subject.Reading.{Reading}
use Rattle.wh_report.specs.declared.subject.Reading.TheVariants.{AtSaleDay, Latest, Original, PriorValue}

-- what each type shows as it was, as it is, and as it was before
abbrev readings : AttributeType → Option Reading × Option Reading × Option Reading
readings kind = (type_reading kind Was, type_reading kind Is, type_reading kind Prior)

abbrev each_reading : List (Option Reading × Option Reading × Option Reading)
each_reading =
    (Some Original, Some Original, None)
    ∷ (Some Latest, Some Latest, None)
    ∷ (Some AtSaleDay, None, None)
    ∷ (None, Some Latest, Some PriorValue)
    ∷ (Some AtSaleDay, None, None)
    ∷ (Some AtSaleDay, Some Latest, None)
    ∷ (Some AtSaleDay, Some Latest, None)
    ∷ (Some AtSaleDay, Some Latest, None)
    ∷ []

types_read : map readings every_type ≡ each_reading
types_read = refl

-- a reading, where a mode has one, is what its place shows
abbrev Stands : TypeRule → Option Reading → Type 0
Stands r o = option_and_then (λ (which : Reading). place_reading r (unwrap_or (reading_place r which) at.Main)) o ≡ o

-- each reading of a type stands in its place, and the type is asked as it was or as it is
record IsReadable (kind : AttributeType) : Type 0 where
  pub was : Stands (rule kind) (type_reading kind Was)
  pub is_now : Stands (rule kind) (type_reading kind Is)
  pub prior : Stands (rule kind) (type_reading kind Prior)
  pub asked : is_some (type_reading kind (cond (is_some (type_reading kind Was)) Was Is)) ≡ true

readable : (kind : AttributeType) → IsReadable kind
readable RetainOriginal = record { was = refl; is_now = refl; prior = refl; asked = refl }
readable _ = record { was = refl; is_now = refl; prior = refl; asked = refl }

mode_stands : (kind : AttributeType) (mode : Mode) → Stands (rule kind) (type_reading kind mode)
mode_stands kind Was = (readable kind).was
mode_stands kind Is = (readable kind).is_now
mode_stands kind Prior = (readable kind).prior

-- what a mode shows of a type is what the place of the reading shows
pub stands : (kind : AttributeType) (mode : Mode) (which : Reading) → type_reading kind mode ≡ Some which → place_reading (rule kind) (unwrap_or (reading_place (rule kind) which) at.Main) ≡ Some which
stands kind mode which reads = subst (Stands (rule kind)) reads (mode_stands kind mode)

-- where no mode is given, one is found
pub mode_found : (kind : AttributeType) → is_some (type_reading kind (cond (is_some (type_reading kind Was)) Was Is)) ≡ true
mode_found kind = (readable kind).asked

-- only the main column shows an original value
in_main : (column : MainColumn) → main_reading column ≡ Some Original → column ≡ main.Original
in_main main.Original e = refl
in_main main.FirstDay e = absurd cc
in_main main.Latest e = absurd cc
in_main main.Nothing e = absurd cc

not_in_second : (column : SecondColumn) → second_reading column ≡ Some Original → ⊥
not_in_second second.Nothing e = cc
not_in_second second.Prior e = cc
not_in_second second.Latest e = cc

not_in_current : (column : MainColumn) → current_reading column ≡ Some Original → ⊥
not_in_current main.Original e = cc
not_in_current main.FirstDay e = cc
not_in_current main.Latest e = cc
not_in_current main.Nothing e = cc

not_in_profile : (part : ProfilePart) → profile_reading part ≡ Some Original → ⊥
not_in_profile NoPart e = cc
not_in_profile Part e = cc
not_in_profile PartAndNewest e = cc

not_in_newest : (part : ProfilePart) → newest_reading part ≡ Some Original → ⊥
not_in_newest NoPart e = cc
not_in_newest Part e = cc
not_in_newest PartAndNewest e = cc

pub original_in_main : (r : TypeRule) (place : ValuePlace) → place_reading r place ≡ Some Original → r.main ≡ main.Original
original_in_main r at.Main e = in_main r.main e
original_in_main r at.Second e = absurd (not_in_second r.second e)
original_in_main r at.CurrentMain e = absurd (not_in_current r.main e)
original_in_main r at.SaleProfile e = absurd (not_in_profile r.profile e)
original_in_main r at.NewestProfile e = absurd (not_in_newest r.profile e)
