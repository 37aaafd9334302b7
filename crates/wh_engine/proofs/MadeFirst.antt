-- The rows of a making may be put into new tables, which are then those of the one command.
use Rattle.std.proofs.Common.{◌≡◌, ℕ, List, [], ◌∷◌}
use Rattle.wh_day.specs.declared.calendar.DateRow.{DateRow}
use Rattle.wh_policy.specs.Policy.{policy_types}
use Rattle.wh_policy.specs.declared.attribute.Dim.TheVariants.{Customer}
use Rattle.wh_policy.specs.declared.policy.Policy.{Policy}
use Rattle.wh_history.specs.Tables.{Limits, no_card_row}
use Rattle.wh_history.specs.declared.rows.DimRow.{DimRow}
use Rattle.wh_rows.specs.declared.rows.CommandRow.{CommandRow}
use Rattle.wh_rows.specs.declared.rows.ProfileRow.{ProfileRow}
use Rattle.wh_sql.specs.Making.{made_with}
use Rattle.wh_model.specs.Defined.{AreOf}
use Rattle.wh_plan.specs.FirstRows.{IsGoodPolicy, making_row, first_profiles, calendar_rows, with_first_rows, MayBeFirst}
use Rattle.wh_model.specs.Sound.{init_of}
use Rattle.wh_engine.proofs.MadeRows.{first_may}
use Rattle.wh_engine.proofs.MadeTables.{tables_are}

pub record AreFirst (limits : Limits) (policy : Policy) (bytes : List ℕ) (of_command : CommandRow) (of_customer : DimRow) (of_profile : List ProfileRow) (of_calendar : List DateRow) : Type 0 where
  pub may : IsGoodPolicy policy → MayBeFirst of_command of_customer of_profile of_calendar
  pub are : AreOf limits (init_of policy bytes ∷ []) (with_first_rows of_command of_customer of_profile of_calendar (made_with limits))

pub are_first : (limits : Limits) (policy : Policy) (bytes : List ℕ) (command : CommandRow) (customer : DimRow) (profiles : List ProfileRow) (calendar : List DateRow)
    → command ≡ making_row bytes → customer ≡ no_card_row (policy_types policy Customer) → profiles ≡ first_profiles (policy_types policy Customer) → calendar ≡ calendar_rows policy
    → AreFirst limits policy bytes command customer profiles calendar
are_first limits policy bytes command customer profiles calendar is_command is_customer is_profiles is_calendar =
    rw (is_command, is_customer, is_profiles, is_calendar) (record { may = first_may policy bytes; are = tables_are limits policy bytes })
