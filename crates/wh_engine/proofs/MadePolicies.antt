-- A policy that is read is one that a warehouse can be made under.
use Rattle.std.proofs.Common.{◌≡◌, true, List, [], ◌∷◌, Some, None}
use Rattle.std.specs.List.{AllByRecursion, AllZip}
use Rattle.std.specs.Str.{is_utf8}
use Rattle.std.proofs.lemmas.List.{length-map}
use Rattle.wh_day.specs.declared.holiday.Holiday.{Holiday}
use Rattle.wh_policy.specs.declared.policy.Years.{Years}
use Rattle.wh_policy.proofs.FileLaws.{ok_is, policies_are_sound}
use Rattle.wh_policy.proofs.HolidayLaws.{IsHoliday, HolidaysAre}
use Rattle.wh_plan.specs.FirstRows.{PoliciesAreGood}
use Rattle.wh_model.proofs.ValidCalendar.{value_utf8}

all_named : (years : Years) (tables : _) (holidays : List Holiday) → AllZip (IsHoliday years) tables holidays → AllByRecursion (λ (h : Holiday). is_utf8 h.name ≡ true) holidays
all_named years [] [] zip = tt
all_named years [] (h ∷ holidays) zip = absurd zip
all_named years (t ∷ tables) [] zip = tt
all_named years (t ∷ tables) (h ∷ holidays) zip = (value_utf8 h.name zip.0.some zip.0.name, all_named years tables holidays zip.1)

names_are : (years : Years) (found : _) (holidays : List Holiday) → HolidaysAre years found holidays → AllByRecursion (λ (h : Holiday). is_utf8 h.name ≡ true) holidays
names_are years None holidays are = rw are tt
names_are years (Some content) holidays are = all_named years are.0 holidays are.2

pub policies_are_good : PoliciesAreGood
policies_are_good bytes policy read =
    let (members, document, is) = ok_is bytes policy read in
    record {
      six = λ dim. rw length-map ((policies_are_sound bytes policy read).attributes dim).few;
      names = names_are policy.years _ policy.holidays is.holidays;
    }
