-- What the making of a warehouse writes.
use Rattle.std.specs.Prelude.{◌≡◌, ℕ, ◌+◌, ◌*◌, ◌≤◌, true, if◌then◌else◌, codes, List, [], ◌∷◌, length, filter_map, Ok}
use Rattle.std.specs.List.{AllByRecursion}
use Rattle.std.specs.Str.{is_utf8}
use Rattle.wh_day.specs.Value.{no_card_text, unknown_text}
use Rattle.wh_day.specs.declared.calendar.DateRow.{DateRow}
use Rattle.wh_policy.specs.Policy.{policy_types, read_policy}
use Rattle.wh_policy.specs.Types.{is_profile}
use Rattle.wh_policy.specs.declared.attribute.AttributeType.{AttributeType}
use Rattle.wh_policy.specs.declared.attribute.Dim.{Dim}
use Rattle.wh_policy.specs.declared.policy.Policy.{Policy}
use Rattle.wh_history.specs.Slots.{columns_from, six}
use Rattle.wh_history.specs.declared.rows.DimRow.{DimRow}
use Rattle.wh_rows.specs.Rows as row
use Rattle.wh_rows.specs.Tables.{Tables}
use Rattle.wh_rows.specs.declared.rows.CommandRow.{CommandRow}
use Rattle.wh_rows.specs.declared.rows.ProfileRow.{ProfileRow}
use Rattle.wh_sql.specs.Edits.{IsValid}
use Rattle.wh_model.specs.Defined.{day_at}
use Rattle.wh_rows.specs.Steps.{with_row, with_rows}
use Rattle.wh_plan.specs.BatchRows.{numbers_after}

-- up to six attributes a dimension, and holidays whose names are text
pub record IsGoodPolicy (policy : Policy) : Type 0 where
  pub six : (dim : Dim) → length (policy_types policy dim) ≤ 6
  pub names : AllByRecursion (λ holiday. is_utf8 holiday.name ≡ true) policy.holidays

-- every policy that is read is such a policy
abbrev pub PoliciesAreGood : Type 0
PoliciesAreGood = (bytes : List ℕ) (policy : Policy) → read_policy bytes ≡ Ok policy → IsGoodPolicy policy

-- the row of the making among the commands
abbrev pub making_row : List ℕ → CommandRow
making_row bytes = record { number = 1; id = codes "init"; kind = codes "init"; bytes = bytes; records = 0; placeholders = 0 }

-- a text in each slot of the profile, and no text in another
abbrev pub in_profile : List ℕ → List AttributeType → List (List ℕ)
in_profile text kinds = columns_from (λ _ kind. if is_profile kind then text else []) 0 kinds

-- the profile with this number that shows one text
abbrev pub profile_of : ℕ → List ℕ → List AttributeType → ProfileRow
profile_of number text kinds = record { number = number; values = six (in_profile text kinds) }

-- the profiles that no record says: those of sales without a card, and of customers that no record describes
abbrev pub first_profiles : List AttributeType → List ProfileRow
first_profiles kinds = profile_of 0 no_card_text kinds ∷ profile_of 1 unknown_text kinds ∷ []

-- the rows of the days of the policy's years, in their order: the numbers from the first day of the first year to the last day of the last year that are days
abbrev pub calendar_rows : Policy → List DateRow
calendar_rows policy = filter_map (day_at policy) (numbers_after (policy.years.first * 10000 + 100) (policy.years.last * 10000 + 1231))

-- the tables with the rows that a making writes: one of command, one of customer, and those of profile and calendar
abbrev pub with_first_rows : CommandRow → DimRow → List ProfileRow → List DateRow → Tables → Tables
with_first_rows command customer profiles calendar t = record t {
  command = with_row row.command command t.command;
  customer = with_row row.customer customer t.customer;
  profile = with_rows row.profile profiles t.profile;
  calendar = with_rows row.calendar calendar t.calendar;
}

-- each row is valid
pub record MayBeFirst (of_command : CommandRow) (of_customer : DimRow) (of_profile : List ProfileRow) (of_calendar : List DateRow) : Type 0 where
  pub command : IsValid row.command of_command
  pub customer : IsValid row.customer of_customer
  pub profiles : AllByRecursion (IsValid row.profile) of_profile
  pub calendar : AllByRecursion (IsValid row.calendar) of_calendar
