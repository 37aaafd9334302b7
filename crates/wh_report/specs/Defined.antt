-- The rows that labels are looked up in, as accepted commands define them.
use Rattle.std.specs.Prelude.{◌≡◌, ℕ, List, Option, Some, Contains}
use Rattle.std.specs.List.{AllByRecursion}
use Rattle.wh_policy.specs.declared.attribute.Dim.TheVariants.{Customer}
use Rattle.wh_history.specs.Accepted.{Accepted}
use Rattle.wh_history.specs.Tables.{dimension_row}
use Rattle.wh_model.specs.Defined.{profile_at, calendar_at}
use Rattle.wh_report.specs.Labels.{LabelRows}
use Rattle.wh_report.specs.declared.column.LabelColumn.{LabelColumn}
use Rattle.wh_report.specs.declared.column.LabelColumn.TheVariants.{Main, Second, CurrentMain, FactProfile, CurrentProfile, CalendarMonth, CalendarHoliday}

-- the rows of a table, whose row under each key a function gives: each of them and no other
pub record AreRowsOf {R : Type 0} (key : R → ℕ) (row : ℕ → Option R) (rows : List R) : Type 0 where
  pub sound : AllByRecursion (λ r. row (key r) ≡ Some r) rows
  pub whole : (k : ℕ) (r : R) → row k ≡ Some r → Contains rows r

-- the rows of a dimension, the profiles or the calendar, as the column needs them, are those that the commands define
abbrev pub AreDefined : List Accepted → LabelColumn → LabelRows → Type 0
AreDefined commands (Main dim place) t = AreRowsOf (λ r. r.surrogate) (dimension_row commands dim) t.rows
AreDefined commands (Second dim place) t = AreRowsOf (λ r. r.surrogate) (dimension_row commands dim) t.rows
AreDefined commands (CurrentMain dim place) t = AreRowsOf (λ r. r.surrogate) (dimension_row commands dim) t.rows
AreDefined commands (FactProfile place) t = AreRowsOf (λ p. p.number) (profile_at commands) t.profiles
AreDefined commands (CurrentProfile place) t = AreRowsOf (λ r. r.surrogate) (dimension_row commands Customer) t.rows × AreRowsOf (λ p. p.number) (profile_at commands) t.profiles
AreDefined commands CalendarMonth t = AreRowsOf (λ d. d.date_key) (calendar_at commands) t.days
AreDefined commands CalendarHoliday t = AreRowsOf (λ d. d.date_key) (calendar_at commands) t.days
