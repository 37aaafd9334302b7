-- The row of a day in the calendar.
use Rattle.std.specs.Prelude.{ℕ, ◌+◌, ◌-◌, ◌/◌, Bool, nat_le, pos, codes, List, [], ◌∷◌, slice_index_or}
use Rattle.jiff_core.specs.Calendar.{day_of_year, days_from_civil, weekday_number}
use Rattle.wh_day.specs.declared.calendar.DateRow.{DateRow}
use Rattle.wh_day.specs.declared.holiday.Holiday.{Holiday}
use Rattle.wh_day.specs.Day.{year_of, month_of, day_of_month, day_text}
use Rattle.wh_day.specs.Holidays.{holiday_text}

-- 1 for January to March, and so on to 4
abbrev pub quarter_of : ℕ → ℕ
quarter_of day = (month_of day + 2) / 3

-- the day's number in its year: 1 for 1 January
abbrev pub day_in_year : ℕ → ℕ
day_in_year day = day_of_year (pos (year_of day)) (month_of day) (day_of_month day)

-- 1 for Monday to 7 for Sunday
abbrev pub weekday_of : ℕ → ℕ
weekday_of day = weekday_number (days_from_civil (pos (year_of day)) (month_of day) (day_of_month day)) + 1

-- from Monday on
abbrev pub weekday_names : List (List ℕ)
weekday_names =
    codes "Monday" ∷ codes "Tuesday" ∷ codes "Wednesday" ∷ codes "Thursday" ∷ codes "Friday" ∷ codes "Saturday" ∷ codes "Sunday" ∷ []

-- the name of a weekday from 1 to 7
abbrev pub name_of_weekday : ℕ → List ℕ
name_of_weekday number = slice_index_or weekday_names (number - 1) []

-- Saturday or Sunday
abbrev pub is_weekend : ℕ → Bool
is_weekend day = nat_le 6 (weekday_of day)

-- the row of a day, whose holidays are these
unfoldable pub date_row : List Holiday → ℕ → DateRow
date_row holidays day = record {
  date_key = day;
  iso = day_text day;
  year = pos (year_of day);
  quarter = pos (quarter_of day);
  month = pos (month_of day);
  day = pos (day_of_month day);
  day_of_year = pos (day_in_year day);
  weekday = pos (weekday_of day);
  weekday_name = name_of_weekday (weekday_of day);
  weekend = is_weekend day;
  holiday = holiday_text holidays day;
}
