-- What stands in the rows that accepted commands define: in those that hold the day of a sale, and in the current ones.
use Rattle.std.proofs.Common.{◌≡◌, ℕ, ◌+◌, ◌-◌, true, List, [], ◌∷◌, length, Some, refl, ◌∙◌, ap, arith, nat_le}
use Rattle.std.specs.Prelude.{slice_get, find}
use Rattle.std.proofs.lemmas.Bool.Decides.{nat_tests}
use Rattle.wh_day.specs.Day.{first_day, last_day, is_day}
use Rattle.wh_day.proofs.Days.{to_last}
use Rattle.wh_policy.specs.Types.{is_tracked}
use Rattle.wh_policy.specs.declared.attribute.AttributeType.{AttributeType}
use Rattle.wh_policy.specs.declared.attribute.Dim.{Dim}
use Rattle.wh_history.specs.Accepted.{Accepted, described, types_in, changes_of, member_of, profiles_of}
use Rattle.wh_history.specs.Dated.{dated, in_force, at, newest, said, value_at, latest}
use Rattle.wh_history.specs.Laws.{RecordsHaveDays, IsMember}
use Rattle.wh_history.specs.Profiles.{profile_now}
use Rattle.wh_history.specs.Rows.{starts, holds, main_column, second_column}
use Rattle.wh_history.specs.Tables.{dimension_row, member_rows, key_at, no_card_row, no_card_main, no_card_second}
use Rattle.wh_history.specs.declared.member.Change.{Change}
use Rattle.wh_history.specs.declared.rows.DimRow.{DimRow}
use Rattle.wh_history.proofs.Effective.{found_row, days_in}
use Rattle.wh_history.proofs.Shown.{get_column, span_found, shows_the_day}
use Rattle.wh_history.proofs.Spans.{Follows, InOrder}

pub no_zero : (place : ℕ) → 0 + place ≡ place
no_zero place = omega arith

-- ---- the row that holds a day

module _ (commands : List Accepted) (dim : Dim) (natural : List ℕ) (day place : ℕ) (kind : AttributeType) (ends : RecordsHaveDays commands) (member : IsMember dim commands natural) (within : is_day day ≡ true) (is : slice_get (types_in dim commands) place ≡ Some kind) where
  abbrev changes_here : List Change
  changes_here = changes_of dim commands natural

  abbrev number_here : ℕ
  number_here = profile_now (types_in dim commands) (profiles_of commands) (member_of dim commands natural)

  unfoldable pub the_row : (r : DimRow) × (find (holds day) (member_rows commands dim natural) ≡ Some r) × (dimension_row commands dim (key_at commands dim day natural) ≡ Some r)
  the_row = found_row dim commands natural ends member day within

  the_span : (s : ℕ × ℕ) × (slice_get the_row.0.a place ≡ Some (main_column changes_here s.0 place kind)) × (slice_get the_row.0.b place ≡ Some (second_column changes_here place kind))
  the_span =
      let span = span_found (types_in dim commands) number_here (member_of dim commands natural) (holds day) the_row.0 first_day (starts (types_in dim commands) (dated changes_here)) the_row.1 in
      let s : ℕ × ℕ = span.0 in (
        s,
        ap (λ (q : DimRow). slice_get q.a place) span.2 ∙ get_column (main_column changes_here s.0) (types_in dim commands) 0 place kind _ is ∙ ap (λ n. Some (main_column changes_here s.0 n kind)) (no_zero place),
        ap (λ (q : DimRow). slice_get q.b place) span.2 ∙ get_column (second_column changes_here) (types_in dim commands) 0 place kind _ is ∙ ap (λ n. Some (second_column changes_here n kind)) (no_zero place),
      )

  -- column a, where it doesn't depend on the row's start
  pub main_shows : (text : List ℕ) → ((start : ℕ) → main_column changes_here start place kind ≡ text) → slice_get the_row.0.a place ≡ Some text
  main_shows text same = the_span.1 ∙ ap Some (same the_span.0.0)

  -- and column b
  pub second_shows : slice_get the_row.0.b place ≡ Some (second_column changes_here place kind)
  second_shows = the_span.2

  -- a tracked column shows the value in force on the day
  pub tracked_shows : is_tracked kind ≡ true → slice_get the_row.0.a place ≡ Some (value_at day place changes_here)
  tracked_shows counts = shows_the_day (types_in dim commands) (profiles_of commands) (member_of dim commands natural) day the_row.0 place kind (days_in dim commands natural (described dim commands) (ends dim)) the_row.1 is counts

-- ---- the current row

-- on the last day the newest change is in force
in_force_last : (c : Change) (cs : List Change) → Follows c.day cs → Some (in_force last_day c cs) ≡ slice_get (c ∷ cs) (length cs)
in_force_last c [] up = refl
in_force_last c (d ∷ ds) up =
    let late = to_last d.day up.1 in
    let t : nat_le d.day last_day ≡ true = grind (arith, nat_tests, late) in
    rw t (in_force_last d ds up.2)

newest_last : (h : List Change) → InOrder h → at last_day h ≡ newest h
newest_last [] up = refl
newest_last (c ∷ cs) up =
    let n : length (c ∷ cs) - 1 ≡ length cs = omega arith in
    rw n (in_force_last c cs up.1)

pub latest_on_last_day : (place : ℕ) (changes : List Change) → InOrder (dated changes) → value_at last_day place changes ≡ latest place changes
latest_on_last_day place changes up = ap (said place) (newest_last (dated changes) up)

-- ---- the row of sales without a card

pub no_card_a : (kinds : List AttributeType) (place : ℕ) (kind : AttributeType) → slice_get kinds place ≡ Some kind → slice_get (no_card_row kinds).a place ≡ Some (no_card_main place kind)
no_card_a kinds place kind is = get_column no_card_main kinds 0 place kind _ is ∙ ap (λ n. Some (no_card_main n kind)) (no_zero place)

pub no_card_b : (kinds : List AttributeType) (place : ℕ) (kind : AttributeType) → slice_get kinds place ≡ Some kind → slice_get (no_card_row kinds).b place ≡ Some (no_card_second place kind)
no_card_b kinds place kind is = get_column no_card_second kinds 0 place kind _ is ∙ ap (λ n. Some (no_card_second n kind)) (no_zero place)
