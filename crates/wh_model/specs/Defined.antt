-- The tables that a list of accepted commands defines.
use Rattle.std.specs.Prelude.{◌≡◌, ℕ, pos, ◌&&◌, if◌then◌else◌, nat_le, List, Option, Some, None, option_map}
use Rattle.std.specs.Option.{option_and_then}
use Rattle.std.specs.FinMap.{get}
use Rattle.wh_day.specs.Day.{is_day, year_of}
use Rattle.wh_day.specs.Calendar.{date_row}
use Rattle.wh_day.specs.declared.calendar.DateRow.{DateRow}
use Rattle.wh_policy.specs.declared.attribute.Dim.TheVariants.{Product, Store, Customer}
use Rattle.wh_policy.specs.declared.policy.Policy.{Policy}
use Rattle.wh_history.specs.Accepted.{Accepted, policy_after, format_of}
use Rattle.wh_history.specs.Tables.{Limits, meta_value, command_row, member_row, change_row, dimension_row, profile_row, fact_row, void_row}
use Rattle.wh_history.specs.declared.facts.Fact.{Fact}
use Rattle.wh_policy.specs.Formats.{same_format}
use Rattle.wh_policy.specs.declared.format.Format.{Format}
use Rattle.wh_policy.specs.declared.format.Format.TheVariants.{One, Two}
use Rattle.wh_rows.specs.declared.rows.MetaRow.{MetaRow}
use Rattle.wh_rows.specs.declared.rows.CommandRow.{CommandRow}
use Rattle.wh_rows.specs.declared.rows.MemberRow.{MemberRow}
use Rattle.wh_rows.specs.declared.rows.ChangeRow.{ChangeRow}
use Rattle.wh_rows.specs.declared.rows.ProfileRow.{ProfileRow}
use Rattle.wh_rows.specs.declared.rows.VoidRow.{VoidRow}
use Rattle.wh_rows.specs.declared.key.MemberKey.{MemberKey}
use Rattle.wh_rows.specs.declared.key.ChangeKey.{ChangeKey}
use Rattle.wh_rows.specs.declared.key.LineKey.{LineKey}
use Rattle.wh_rows.specs.Tables.{Tables}

-- ---- the row under each key

abbrev pub meta_at : Format → Limits → List ℕ → Option MetaRow
meta_at format limits name = option_map (λ value. record { name = name; value = pos value }) (meta_value format limits name)

abbrev pub command_at : List Accepted → ℕ → Option CommandRow
command_at commands number = option_map (λ c. record { number = number; id = c.id; kind = c.kind; bytes = c.bytes; records = c.records; placeholders = c.placeholders }) (command_row commands number)

abbrev pub member_at : List Accepted → MemberKey → Option MemberRow
member_at commands key = option_map (λ m. record { dim = key.dim; durable = key.durable; natural = m.natural; opening = m.opening }) (member_row commands key.dim key.durable)

abbrev pub change_at : List Accepted → ChangeKey → Option ChangeRow
change_at commands key = option_map (λ c. record { command = key.command; place = key.place; dim = c.dim; durable = c.durable; day = c.day; anchor = c.anchor; values = c.texts }) (change_row commands key.command key.place)

abbrev pub profile_at : List Accepted → ℕ → Option ProfileRow
profile_at commands number = option_map (λ values. record { number = number; values = values }) (profile_row commands number)

-- a day of the policy's years
abbrev pub day_at : Policy → ℕ → Option DateRow
day_at policy day = if is_day day && nat_le policy.years.first (year_of day) && nat_le (year_of day) policy.years.last then Some (date_row policy.holidays day) else None

abbrev pub calendar_at : List Accepted → ℕ → Option DateRow
calendar_at commands day = option_and_then (λ policy. day_at policy day) (policy_after None commands)

abbrev pub fact_at : List Accepted → LineKey → Option Fact
fact_at commands key = fact_row commands key.ticket key.line

-- a line that was withdrawn, with the command that did
abbrev pub void_at : List Accepted → LineKey → Option VoidRow
void_at commands key = option_map (λ number. record { ticket = key.ticket; line = key.line; command = number }) (void_row commands key.ticket key.line)

-- The facts stand in the table of the format: in the other one there is none.
abbrev pub fact_in : Format → List Accepted → LineKey → Option Fact
fact_in format commands key = if same_format format (format_of commands) then fact_at commands key else None

-- The tables are those of a warehouse that was made with these limits and has accepted these commands.
pub record AreOf (limits : Limits) (commands : List Accepted) (tables : Tables) : Type 0 where
  pub format : tables.format ≡ format_of commands
  pub meta : (name : List ℕ) → get tables.meta name ≡ meta_at (format_of commands) limits name
  pub command : (number : ℕ) → get tables.command number ≡ command_at commands number
  pub member : (key : MemberKey) → get tables.member key ≡ member_at commands key
  pub change : (key : ChangeKey) → get tables.change key ≡ change_at commands key
  pub product : (key : ℕ) → get tables.product key ≡ dimension_row commands Product key
  pub store : (key : ℕ) → get tables.store key ≡ dimension_row commands Store key
  pub customer : (key : ℕ) → get tables.customer key ≡ dimension_row commands Customer key
  pub profile : (number : ℕ) → get tables.profile number ≡ profile_at commands number
  pub calendar : (day : ℕ) → get tables.calendar day ≡ calendar_at commands day
  pub fact : (key : LineKey) → get tables.fact key ≡ fact_in One commands key
  pub fact2 : (key : LineKey) → get tables.fact2 key ≡ fact_in Two commands key
  pub void : (key : LineKey) → get tables.void key ≡ void_at commands key
