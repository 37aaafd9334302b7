-- The laws of the calendar.
use Rattle.std.specs.Prelude.{◌≡◌, ◌≢◌, ℕ, ◌+◌, ◌%◌, true}
use Rattle.wh_day.specs.Day.{is_day, day_before, first_day, month_of, day_of_month}
use Rattle.wh_day.specs.Calendar.{weekday_of, day_in_year}

-- from a day to the next the weekday goes on by one, and Sunday is followed by Monday
abbrev pub WeekdaysFollow : Type 0
WeekdaysFollow = (day : ℕ) → is_day day ≡ true → day ≢ first_day → weekday_of day ≡ weekday_of (day_before day) % 7 + 1

-- 1900-01-01, where the calendar begins, was a Monday
abbrev pub FirstDayIsMonday : Type 0
FirstDayIsMonday = weekday_of first_day ≡ 1

-- a year begins with its day 1
abbrev pub YearsBeginWithOne : Type 0
YearsBeginWithOne = (day : ℕ) → is_day day ≡ true → month_of day ≡ 1 → day_of_month day ≡ 1 → day_in_year day ≡ 1

-- and within the year each day has the number after that of the day before
abbrev pub DaysCountUp : Type 0
DaysCountUp = (day : ℕ) → is_day day ≡ true → ¬ ((month_of day ≡ 1) × (day_of_month day ≡ 1)) → day_in_year day ≡ day_in_year (day_before day) + 1
