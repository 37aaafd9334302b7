-- The labels of sales by the keys of facts, as rows of a table are handed out one at a time.
use Rattle.std.specs.Prelude.{◌≡◌, ℕ, ◌==◌, if◌then◌else◌, List, [], ◌∷◌, Option, Some, None, filter_map, slice_get}
use Rattle.std.specs.Map.{lookup}
use Rattle.std.specs.Option.{option_or}
use Rattle.std.specs.Ordering.{nat_cmp}
use Rattle.std.specs.BTreeMap.{is_at}
use Rattle.wh_day.specs.declared.calendar.DateRow.{DateRow}
use Rattle.wh_history.specs.declared.rows.DimRow.{DimRow}
use Rattle.wh_rows.specs.declared.rows.ProfileRow.{ProfileRow}
use Rattle.wh_report.specs.Label.{month_text}
use Rattle.wh_report.specs.declared.column.LabelColumn.{LabelColumn}
use Rattle.wh_report.specs.declared.column.LabelColumn.TheVariants.{Main, Second, CurrentMain, FactProfile, CurrentProfile, CalendarMonth, CalendarHoliday}

-- the text that a map has under a key
abbrev pub labels_get : List (ℕ × List ℕ) → ℕ → Option (List ℕ)
labels_get labels key = lookup (is_at (nat_cmp key)) labels

-- with a text under a key, unless there is one
abbrev pub with_text : ℕ → List ℕ → (ℕ → Option (List ℕ)) → ℕ → Option (List ℕ)
with_text key text labels k = option_or (labels k) (if key == k then Some text else None)

-- the key and the text of a row, where it has both
abbrev pub entry : Option ℕ → Option (List ℕ) → Option (ℕ × List ℕ)
entry None text = None
entry (Some key) None = None
entry (Some key) (Some text) = Some (key, text)

-- the text of the first entry that has the key
abbrev pub first_text : ℕ → List (ℕ × List ℕ) → Option (List ℕ)
first_text key [] = None
first_text key (e ∷ entries) = if e.0 == key then Some e.1 else first_text key entries

-- the labels are those of these entries
pub record AreLabels (labels entries : List (ℕ × List ℕ)) : Type 0 where
  pub found : (key : ℕ) → labels_get labels key ≡ first_text key entries

-- ---- rows of a dimension

-- the key under which facts look for a row
abbrev pub row_key : LabelColumn → DimRow → Option ℕ
row_key (Main dim place) r = Some r.surrogate
row_key (Second dim place) r = Some r.surrogate
row_key (CurrentMain dim place) r = if r.is_current then Some r.durable else None
row_key (FactProfile place) r = None
row_key (CurrentProfile place) r = if r.is_current then Some r.durable else None
row_key CalendarMonth r = None
row_key CalendarHoliday r = None

-- the label that it has, where a function gives those of profiles by their numbers
abbrev pub row_text : LabelColumn → (ℕ → Option (List ℕ)) → DimRow → Option (List ℕ)
row_text (Main dim place) profiles r = slice_get r.a place
row_text (Second dim place) profiles r = slice_get r.b place
row_text (CurrentMain dim place) profiles r = slice_get r.a place
row_text (FactProfile place) profiles r = None
row_text (CurrentProfile place) profiles r = profiles r.profile_now
row_text CalendarMonth profiles r = None
row_text CalendarHoliday profiles r = None

abbrev pub row_labels : LabelColumn → (ℕ → Option (List ℕ)) → List DimRow → List (ℕ × List ℕ)
row_labels column profiles rows = filter_map (λ r. entry (row_key column r) (row_text column profiles r)) rows

-- ---- profiles

-- the value of a column in a profile
abbrev pub value_text : LabelColumn → List (List ℕ) → Option (List ℕ)
value_text (Main dim place) values = None
value_text (Second dim place) values = None
value_text (CurrentMain dim place) values = None
value_text (FactProfile place) values = slice_get values place
value_text (CurrentProfile place) values = slice_get values place
value_text CalendarMonth values = None
value_text CalendarHoliday values = None

abbrev pub profile_labels : LabelColumn → List ProfileRow → List (ℕ × List ℕ)
profile_labels column profiles = filter_map (λ p. entry (Some p.number) (value_text column p.values)) profiles

-- ---- the calendar

abbrev pub date_text : LabelColumn → DateRow → Option (List ℕ)
date_text (Main dim place) d = None
date_text (Second dim place) d = None
date_text (CurrentMain dim place) d = None
date_text (FactProfile place) d = None
date_text (CurrentProfile place) d = None
date_text CalendarMonth d = Some (month_text d.date_key)
date_text CalendarHoliday d = Some d.holiday

abbrev pub date_labels : LabelColumn → List DateRow → List (ℕ × List ℕ)
date_labels column days = filter_map (λ d. entry (Some d.date_key) (date_text column d)) days

-- ---- the rows of the tables

-- the rows that were handed out: of a dimension, the profiles and the calendar
pub record LabelRows : Type 0 where
  pub rows : List DimRow
  pub profiles : List ProfileRow
  pub days : List DateRow

-- the labels of a column that these rows give
abbrev pub labels_in : LabelColumn → LabelRows → List (ℕ × List ℕ)
labels_in (Main dim place) t = row_labels (Main dim place) (λ _. None) t.rows
labels_in (Second dim place) t = row_labels (Second dim place) (λ _. None) t.rows
labels_in (CurrentMain dim place) t = row_labels (CurrentMain dim place) (λ _. None) t.rows
labels_in (FactProfile place) t = profile_labels (FactProfile place) t.profiles
labels_in (CurrentProfile place) t = row_labels (CurrentProfile place) (λ number. first_text number (profile_labels (CurrentProfile place) t.profiles)) t.rows
labels_in CalendarMonth t = date_labels CalendarMonth t.days
labels_in CalendarHoliday t = date_labels CalendarHoliday t.days
