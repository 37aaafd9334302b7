-- The holidays of a calendar.
use Rattle.std.specs.Prelude.{◌≢◌, ℕ, Bool, ◌==◌, List, AllPairs, Option, option_map, find, unwrap_or}
use Rattle.wh_day.specs.declared.holiday.Holiday.{Holiday}
use Rattle.wh_day.specs.Value.{none_text}

-- the holiday stands on this day
abbrev pub is_on : ℕ → Holiday → Bool
is_on day holiday = holiday.day == day

-- no two stand on one day
abbrev pub HaveDistinctDays : List Holiday → Type 0
HaveDistinctDays holidays = AllPairs (λ a b. a.day ≢ b.day) holidays

-- the name that the day has as a holiday
abbrev pub name_on : List Holiday → ℕ → Option (List ℕ)
name_on holidays day = option_map (λ holiday. holiday.name) (find (is_on day) holidays)

-- what a calendar row shows: that name, or (none)
abbrev pub holiday_text : List Holiday → ℕ → List ℕ
holiday_text holidays day = unwrap_or (name_on holidays day) none_text
