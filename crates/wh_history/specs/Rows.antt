-- The rows of a member.
use Rattle.std.specs.Prelude.{ℕ, Bool, if◌then◌else◌, ◌==◌, ◌&&◌, nat_le, List, [], ◌∷◌, map, Option, option_map, unwrap_or}
use Rattle.wh_day.specs.Day.{first_day, last_day, day_before}
use Rattle.wh_policy.specs.Types.{rule, is_tracked}
use Rattle.wh_policy.specs.declared.attribute.AttributeType.{AttributeType}
use Rattle.wh_policy.specs.declared.type_rule.MainColumn.{MainColumn}
use Rattle.wh_policy.specs.declared.type_rule.MainColumn.TheVariants as main
use Rattle.wh_policy.specs.declared.type_rule.SecondColumn.{SecondColumn}
use Rattle.wh_policy.specs.declared.type_rule.SecondColumn.TheVariants as second
use Rattle.wh_history.specs.Slots.{columns_from, picks, six, are_same}
use Rattle.wh_history.specs.Dated.{dated, at, value_at, latest, original, prior}
use Rattle.wh_history.specs.Profiles.{profile_number, profile_now_by}
use Rattle.wh_history.specs.declared.member.Change.{Change}
use Rattle.wh_history.specs.declared.member.Member.{Member}
use Rattle.wh_history.specs.declared.rows.DimRow.{DimRow}

-- whether no tracked value differs between two changes
abbrev pub same_tracked : List AttributeType → Change → Change → Bool
same_tracked kinds c d = are_same (picks is_tracked kinds c.values) (picks is_tracked kinds d.values)

-- the days at which a tracked value differs from that of the change before
abbrev pub later_starts : List AttributeType → Change → List Change → List ℕ
later_starts kinds c [] = []
later_starts kinds c (d ∷ ds) = if same_tracked kinds c d then later_starts kinds d ds else d.day ∷ later_starts kinds d ds

-- the days at which rows begin, after the opening
abbrev pub starts : List AttributeType → List Change → List ℕ
starts kinds [] = []
starts kinds (c ∷ cs) = later_starts kinds c cs

-- from a day on, each start's row reaches to the day before the next, and the last one to the last day
abbrev pub spans : ℕ → List ℕ → List (ℕ × ℕ)
spans from [] = (from, last_day) ∷ []
spans from (next ∷ more) = (from, day_before next) ∷ spans next more

-- what a row that begins at that day shows of a slot in the column a
abbrev pub main_text : List Change → ℕ → ℕ → MainColumn → List ℕ
main_text changes start place main.Original = original place changes
main_text changes start place main.FirstDay = value_at start place changes
main_text changes start place main.Latest = latest place changes
main_text changes start place main.Nothing = []

abbrev pub main_column : List Change → ℕ → ℕ → AttributeType → List ℕ
main_column changes start place kind = main_text changes start place (rule kind).main

-- and in the column b
abbrev pub second_text : List Change → ℕ → SecondColumn → List ℕ
second_text changes place second.Nothing = []
second_text changes place second.Prior = prior place changes
second_text changes place second.Latest = latest place changes

abbrev pub second_column : List Change → ℕ → AttributeType → List ℕ
second_column changes place kind = second_text changes place (rule kind).second

-- the number of a start: that of the opening, or of the change of its day
abbrev pub start_key : Member → ℕ → ℕ
start_key m day = if day == first_day then m.opening else unwrap_or (option_map (λ c. c.anchor) (at day (dated m.changes))) 0

-- the row from a day to another
abbrev pub row : List AttributeType → ℕ → Member → ℕ × ℕ → DimRow
row kinds profile_now m span = record {
  surrogate = start_key m span.0;
  durable = m.durable;
  natural = m.natural;
  from_day = span.0;
  to_day = span.1;
  is_current = span.1 == last_day;
  a = six (columns_from (main_column m.changes span.0) 0 kinds);
  b = six (columns_from (second_column m.changes) 0 kinds);
  profile_now = profile_now;
}

-- a member's rows, in order of their starts, where a function gives the numbers of combinations
abbrev pub rows_by : List AttributeType → (List (List ℕ) → Option ℕ) → Member → List DimRow
rows_by kinds number m = map (row kinds (profile_now_by kinds number m) m) (spans first_day (starts kinds (dated m.changes)))

-- and by the combinations that were accepted
abbrev pub rows : List AttributeType → List (List (List ℕ)) → Member → List DimRow
rows kinds combinations = rows_by kinds (profile_number combinations)

-- whether a row holds a day
abbrev pub holds : ℕ → DimRow → Bool
holds day r = nat_le r.from_day day && nat_le day r.to_day
