-- Days of the calendar, as the spans of rows need them.
use Rattle.std.proofs.Common.{◌≡◌, ◌≢◌, ℕ, ◌<◌, ◌≤◌, true, arith}
use Rattle.wh_day.specs.Day.{is_day, first_day, day_before}
use Rattle.wh_day.proofs.Days.{parts, from_first, day_before-greatest}

-- the last day is before the next one, and no day lies between
abbrev pub EndsBefore : ℕ → ℕ → Type 0
EndsBefore last next = (last < next) × ((day : ℕ) → is_day day ≡ true → day < next → day ≤ last)

pub ends_before : (next : ℕ) → is_day next ≡ true → first_day < next → EndsBefore (day_before next) next
ends_before next is later =
    let other : next ≢ first_day = λ same. omega arith in
    let g = day_before-greatest next (parts next is) other in
    (g.0, g.1)

-- a later day isn't the first
pub not_first : (day next : ℕ) → is_day day ≡ true → day < next → next ≢ first_day
not_first day next is later same = let low = from_first day is in omega arith
