-- The years of a calendar: which days lie in them, and how a policy file writes them.
use Rattle.std.specs.Prelude.{ℕ, ◌+◌, ◌*◌, Bool, ◌&&◌, nat_le, nat_lt, ℤ, pos, negsuc, Option, Some, None, Result, Ok, Err}
use Rattle.toml.specs.Data.{Data, as_integer}
use Rattle.wh_day.specs.Day.{year_of}
use Rattle.wh_day.specs.Reading.{unless_fault}
use Rattle.wh_policy.specs.declared.fault.PolicyFault.{PolicyFault}
use Rattle.wh_policy.specs.declared.fault.PolicyFault.TheVariants.{BadYears}
use Rattle.wh_policy.specs.declared.policy.Years.{Years}

-- the day lies in these years
abbrev pub is_within : Years → ℕ → Bool
is_within years day = nat_le years.first (year_of day) && nat_le (year_of day) years.last

-- the key of the first day of these years
abbrev pub first_key : Years → ℕ
first_key years = years.first * 10000 + 101

-- the number past the key of the last day of these years
abbrev pub end_key : Years → ℕ
end_key years = years.last * 10000 + 1232

-- up to 30 years from 1900 to 2199
abbrev pub found_years : Option ℤ → Option ℤ → Result Years PolicyFault
found_years (Some (pos first)) (Some (pos last)) =
    unless_fault (nat_le 1900 first && nat_le last 2199 && nat_le first last && nat_lt last (first + 30)) BadYears (Ok (record { first = first; last = last }))
found_years (Some (pos first)) (Some (negsuc last)) = Err BadYears
found_years (Some (pos first)) None = Err BadYears
found_years (Some (negsuc first)) last = Err BadYears
found_years None last = Err BadYears

-- the years from one value to another
unfoldable pub years_of : Data → Data → Result Years PolicyFault
years_of first last = found_years (as_integer first) (as_integer last)
