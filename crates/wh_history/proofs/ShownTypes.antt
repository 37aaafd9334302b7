-- Each row of a member shows each attribute as its type has it.
use Rattle.std.proofs.Common.{◌≡◌, ℕ, zero, suc, ◌+◌, ◌-◌, length, replicate, cond, List, [], ◌∷◌, map, Option, Some, sym, ◌∙◌, ap, subst, arith}
use Rattle.std.specs.Prelude.{slice_get, unwrap_or}
use Rattle.wh_day.specs.Day.{first_day}
use Rattle.wh_policy.specs.declared.attribute.AttributeType.{AttributeType}
use Rattle.wh_policy.specs.declared.attribute.AttributeType.TheVariants.{RetainOriginal}
use Rattle.wh_history.specs.Dated.{dated, newest}
use Rattle.wh_history.specs.Keys.{at_place}
use Rattle.wh_history.specs.Laws.{Shows, ShowsByType, RowsShowTheirTypes, RowsNameTheNewestProfile}
use Rattle.wh_history.specs.Profiles.{profile_number, current_by, profile_now}
use Rattle.wh_history.specs.Rows.{starts, spans, row, rows, main_column, second_column}
use Rattle.wh_history.specs.Slots.{columns_from, six}
use Rattle.wh_history.specs.declared.member.Change.{Change}
use Rattle.wh_history.specs.declared.member.Member.{Member}
use Rattle.wh_history.specs.declared.rows.DimRow.{DimRow}
use Rattle.wh_history.proofs.Basics.{some_is}
use Rattle.wh_history.proofs.Shown.{get_column}

-- each row is that of a span
made_of : {X : Type 0} (f : X → DimRow) (n : ℕ) (xs : List X) (r : DimRow) → slice_get (map f xs) n ≡ Some r → (x : X) × (f x ≡ r)
made_of f n [] r at = absurd cc
made_of f zero (x ∷ xs) r at = (x, some_is (f x) r at)
made_of f (suc n) (x ∷ xs) r at = made_of f n xs r at

of_a_span : (kinds : List AttributeType) (combinations : List (List (List ℕ))) (m : Member) (number : ℕ) (r : DimRow) → at_place number (rows kinds combinations m) ≡ Some r → (s : ℕ × ℕ) × (row kinds (profile_now kinds combinations m) m s ≡ r)
of_a_span kinds combinations m zero r at = absurd cc
of_a_span kinds combinations m (suc n) r at = made_of (row kinds (profile_now kinds combinations m) m) n (spans first_day (starts kinds (dated m.changes))) r at

-- a slot's column stands at its place of the six
column_at : (column : ℕ → AttributeType → List ℕ) (kinds : List AttributeType) (place : ℕ) (kind : AttributeType) → slice_get kinds place ≡ Some kind → slice_get (six (columns_from column 0 kinds)) place ≡ Some (column place kind)
column_at column kinds place kind is =
    let counted : 0 + place ≡ place = omega arith in
    get_column column kinds 0 place kind (replicate (6 - length (columns_from column 0 kinds)) []) is ∙ ap (λ n. Some (column n kind)) counted

module _ (kinds : List AttributeType) (profile : ℕ) (m : Member) (s : ℕ × ℕ) (place : ℕ) (kind : AttributeType) (is : slice_get kinds place ≡ Some kind) where
  both : Shows (row kinds profile m s) place (main_column m.changes s.0 place kind) (second_column m.changes place kind)
  both = record { a = column_at (main_column m.changes s.0) kinds place kind is; b = column_at (second_column m.changes) kinds place kind is }

by_type : (m : Member) (r : DimRow) (place : ℕ) (kind : AttributeType) → Shows r place (main_column m.changes r.from_day place kind) (second_column m.changes place kind) → ShowsByType m r place kind
by_type m r place RetainOriginal shows = shows
by_type m r place _ shows = shows

pub rows_show_their_types : RowsShowTheirTypes
rows_show_their_types kinds combinations m number r place kind at is =
    let made = of_a_span kinds combinations m number r at in
    let profile = profile_now kinds combinations m in
    subst (λ (q : DimRow). ShowsByType m q place kind) made.1 (by_type m (row kinds profile m made.0) place kind (both kinds profile m made.0 place kind is))

pub rows_name_the_newest_profile : RowsNameTheNewestProfile
rows_name_the_newest_profile kinds combinations m number r at =
    let made = of_a_span kinds combinations m number r at in
    let same : profile_now kinds combinations m ≡ r.profile_now = ap (λ (q : DimRow). q.profile_now) made.1 in
    let shown = λ (o : Option Change). current_by kinds (profile_number combinations) o in (
      λ five. record {
        known = λ c profile last numbered. sym same ∙ ap (λ b. cond b (shown (newest (dated m.changes))) 0) five ∙ ap shown last ∙ ap (λ n. unwrap_or n 0) numbered;
        unknown = λ none. sym same ∙ ap (λ b. cond b (shown (newest (dated m.changes))) 0) five ∙ ap shown none;
      },
      λ other. sym same ∙ ap (λ b. cond b (shown (newest (dated m.changes))) 0) other,
    )
