-- The days of some years are those between two keys.
use Rattle.std.proofs.Common.{◌≡◌, ℕ, ◌+◌, ◌*◌, ◌<◌, ◌≤◌, Bool, true, false, cond, leb, arith}
use Rattle.std.proofs.lemmas.Bool.{and_parts, and_from, le-leb, leb-true}
use Rattle.wh_day.specs.Day.{year_of, day_of_month, is_day}
use Rattle.wh_day.proofs.Days.{parts}
use Rattle.wh_policy.specs.Laws.{DaysLieBetweenTheKeys}
use Rattle.wh_policy.specs.Years.{first_key, end_key}
use Rattle.wh_policy.specs.declared.policy.Years.{Years}

-- no month has more than 31 days
at_most_31 : (february leap short : Bool) (day : ℕ) → day ≤ cond february (cond leap 29 28) (cond short 30 31) → day ≤ 31
at_most_31 true true short day h = omega arith
at_most_31 true false short day h = omega arith
at_most_31 false leap true day h = omega arith
at_most_31 false leap false day h = omega arith

-- a day is from 1 January to 31 December of its year
record InItsYear (day : ℕ) : Type 0 where
  from : year_of day * 10000 + 101 ≤ day
  to : day ≤ year_of day * 10000 + 1231

in_its_year : (day : ℕ) → is_day day ≡ true → InItsYear day
in_its_year day is =
    let p = parts day is in
    let short = at_most_31 _ _ _ (day_of_month day) p.day_high in
    record {
      from = omega (arith, p.month_low, p.day_low);
      to = omega (arith, p.month_high, short);
    }

keys_of : (years : Years) (day year : ℕ) → years.first ≤ year → year ≤ years.last → year * 10000 + 101 ≤ day → day ≤ year * 10000 + 1231 → (first_key years ≤ day) × (day < end_key years)
keys_of years day year low high from to = (omega arith, omega arith)

years_of : (years : Years) (day year : ℕ) → first_key years ≤ day → day < end_key years → year * 10000 + 101 ≤ day → day ≤ year * 10000 + 1231 → (years.first ≤ year) × (year ≤ years.last)
years_of years day year low high from to = (omega arith, omega arith)

pub between_the_keys : DaysLieBetweenTheKeys
between_the_keys years day is =
    let own = in_its_year day is in (
      (λ within.
          let (low, high) = and_parts (leb years.first (year_of day)) (leb (year_of day) years.last) within in
          keys_of years day (year_of day) (leb-true _ _ low) (leb-true _ _ high) own.from own.to),
      λ between.
          let both = years_of years day (year_of day) between.0 between.1 own.from own.to in
          and_from _ _ (le-leb _ _ both.0) (le-leb _ _ both.1),
    )
