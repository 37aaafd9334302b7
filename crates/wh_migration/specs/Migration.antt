-- What a migration changes of the calendar and of the profiles.
use Rattle.std.specs.Prelude.{◌≡◌, ℕ, ◌+◌, ◌*◌, max, List, [], ◌∷◌, ◌++◌, length, map, Option, filter_map, slice_get}
use Rattle.std.specs.List.{range_with_len}
use Rattle.wh_day.specs.declared.calendar.DateRow.{DateRow}
use Rattle.wh_policy.specs.Types.{is_profile}
use Rattle.wh_policy.specs.declared.attribute.AttributeType.{AttributeType}
use Rattle.wh_policy.specs.declared.attribute.Dim.{Dim}
use Rattle.wh_policy.specs.declared.attribute.Dim.TheVariants.{Product, Store, Customer}
use Rattle.wh_policy.specs.declared.policy.Policy.{Policy}
use Rattle.wh_history.specs.Accepted.{Accepted, profiles_of}
use Rattle.wh_history.specs.Known.{all_numbered}
use Rattle.wh_history.specs.Plan.{same_holiday, edit_between}
use Rattle.wh_history.specs.Slots.{picks}
use Rattle.wh_history.specs.declared.plan.Edit.{Edit}
use Rattle.wh_rows.specs.Rows as row
use Rattle.wh_rows.specs.SameRows.{same_values}
use Rattle.wh_rows.specs.declared.rows.ChangeRow.{ChangeRow}
use Rattle.wh_rows.specs.declared.rows.ProfileRow.{ProfileRow}
use Rattle.wh_model.specs.Defined.{day_at, profile_at}
use Rattle.wh_plan.specs.Edits.{IsTablePlan}
use Rattle.wh_plan.specs.BatchRows.{numbers_after}
use Rattle.wh_plan.specs.FirstRows.{first_profiles}
use Rattle.wh_plan.specs.Profiles.{row_of_profile}
use Rattle.wh_plan.specs.Reading.{given_text}
use Rattle.wh_migration.specs.declared.profile_plan.RenumberedProfiles.{RenumberedProfiles}

-- ---- calendar

-- the edit of a day, where one policy takes the place of another
abbrev pub edit_on : Policy → Policy → ℕ → Option (Edit DateRow ℕ)
edit_on older newer day = edit_between same_holiday day (day_at older day) (day_at newer day)

-- the edits of the days of the newer policy's years
abbrev pub edits_of_days : Policy → Policy → List (Edit DateRow ℕ)
edits_of_days older newer = filter_map (edit_on older newer) (numbers_after (newer.years.first * 10000 + 100) (newer.years.last * 10000 + 1231))

-- ---- profile

-- the combination that a stored record of a dimension says, if it is one of a customer
abbrev pub said_in : List AttributeType → Dim → List (List ℕ) → List (List (List ℕ))
said_in kinds Product values = []
said_in kinds Store values = []
said_in kinds Customer values = picks is_profile kinds (map given_text values) ∷ []

abbrev pub stored_by : List AttributeType → ChangeRow → List (List (List ℕ))
stored_by kinds r = said_in kinds r.dim r.values

-- the rows of the profiles: those that no record says, and the combinations with their numbers
abbrev pub profiles_shown : List AttributeType → List (List (List ℕ)) → List ProfileRow
profiles_shown kinds combinations = first_profiles kinds ++ map row_of_profile (all_numbered combinations)

-- the edits between rows whose numbers are their places
abbrev pub profile_edit_at : List ProfileRow → List ProfileRow → ℕ → Option (Edit ProfileRow ℕ)
profile_edit_at stored rows number = edit_between same_values number (slice_get stored number) (slice_get rows number)

abbrev pub edits_of_profiles : List ProfileRow → List ProfileRow → List (Edit ProfileRow ℕ)
edits_of_profiles stored rows = filter_map (profile_edit_at stored rows) (range_with_len 0 (max (length stored) (length rows)))

-- All combinations are known under their numbers after a command, and the edits lead from the profiles before it to those after it.
pub record IsRenumbered (before after : List Accepted) (profiles : RenumberedProfiles) : Type 0 where
  pub known : profiles.known ≡ all_numbered (profiles_of after)
  pub edits : IsTablePlan row.profile (profile_at before) (profile_at after) profiles.edits.items
