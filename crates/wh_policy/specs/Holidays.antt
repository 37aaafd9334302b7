-- The holidays of a calendar, as a policy file writes them.
use Rattle.std.specs.Prelude.{ℕ, not, codes, List, [], ◌∷◌, Option, Some, None, Result, Ok, Err, ok_or, option_and_then}
use Rattle.std.specs.List.{list_any}
use Rattle.toml.specs.Data.{Data, Members, as_str}
use Rattle.wh_day.specs.Reading.{◌>>=◌, unless_fault}
use Rattle.wh_day.specs.Day.{read_day}
use Rattle.wh_day.specs.Holidays.{is_on}
use Rattle.wh_day.specs.Value.{read_value}
use Rattle.wh_day.specs.declared.holiday.Holiday.{Holiday}
use Rattle.wh_policy.specs.declared.fault.PolicyFault.{PolicyFault}
use Rattle.wh_policy.specs.declared.fault.PolicyFault.TheVariants.{UnknownKey, BadHoliday}
use Rattle.wh_policy.specs.declared.policy.Years.{Years}
use Rattle.wh_policy.specs.Document.{has_only, required, tables_of, each_after}
use Rattle.wh_policy.specs.Years.{is_within}

-- a day that lies in the years
abbrev pub found_day : Years → Option ℕ → Result ℕ PolicyFault
found_day years None = Err BadHoliday
found_day years (Some day) = unless_fault (is_within years day) BadHoliday (Ok day)

-- the day within the years that a value writes
unfoldable pub day_of : Years → Data → Result ℕ PolicyFault
day_of years content = found_day years (option_and_then read_day (as_str content))

-- a value with at least one byte
abbrev pub read_named : List ℕ → Option (List ℕ)
read_named [] = None
read_named (first ∷ rest) = read_value (first ∷ rest)

-- the name of a holiday that a value writes
unfoldable pub title_of : Data → Result (List ℕ) PolicyFault
title_of content = ok_or (option_and_then read_named (as_str content)) BadHoliday

-- the keys of a holiday's table
abbrev pub holiday_keys : List (List ℕ)
holiday_keys = codes "day" ∷ codes "name" ∷ []

-- the holiday that a table writes, after those of the earlier tables
unfoldable pub holiday_of : Years → List Holiday → Members → Result Holiday PolicyFault
holiday_of years earlier members = unless_fault (has_only holiday_keys members) UnknownKey (do
  day_content ← required (codes "day") members
  name_content ← required (codes "name") members
  day ← day_of years day_content
  name ← title_of name_content
  unless_fault (not (list_any (is_on day) earlier)) BadHoliday (Ok (record { day = day; name = name })))

-- the holidays of the years: none where the key is absent
unfoldable pub holidays_of : Years → Option Data → Result (List Holiday) PolicyFault
holidays_of years None = Ok []
holidays_of years (Some content) = do
  tables ← tables_of BadHoliday content
  each_after (holiday_of years) [] tables
