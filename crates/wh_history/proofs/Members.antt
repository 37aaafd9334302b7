-- Each key of a table belongs to one member, before and after.
use Rattle.std.proofs.Common.{◌≡◌, ℕ, zero, suc, ◌<◌, ◌≤◌, ◌==◌, Bool, true, false, cond, List, [], ◌∷◌, ◌++◌, length, Option, Some, None, refl, sym, ◌∙◌, ap, subst, arith, inl, inr}
use Rattle.std.specs.Prelude.{slice_get, find}
use Rattle.std.specs.Option.{option_and_then}
use Rattle.std.proofs.lemmas.Bool.{cases_lt, eqb-true}
use Rattle.wh_history.specs.Keys.{place, after_one, at_place}
use Rattle.wh_history.specs.Dated.{dated}
use Rattle.wh_history.specs.Rows.{starts, start_key}
use Rattle.wh_history.specs.Profiles.{profile_now}
use Rattle.wh_history.specs.Accepted.{Accepted, Anchor, same_anchor, described, anchors, changes_of, member_of, opening_of, types_in, profiles_of}
use Rattle.wh_history.specs.Tables.{member_rows, numbered_row}
use Rattle.wh_history.specs.Plan.{row_of}
use Rattle.wh_history.specs.Laws.{RecordsHaveDays}
use Rattle.wh_policy.specs.declared.attribute.Dim.{Dim}
use Rattle.wh_policy.specs.declared.attribute.AttributeType.{AttributeType}
use Rattle.wh_history.specs.declared.member.Change.{Change}
use Rattle.wh_history.specs.declared.rows.DimRow.{DimRow}
use Rattle.wh_history.proofs.Spans.{InOrder, InOrder-dated}
use Rattle.wh_history.proofs.Growth.{anchors-append}
use Rattle.wh_history.proofs.Joins.{InSpans, in_spans_start, AmongDays, starts_among, key_of_change, found_span}
use Rattle.wh_history.proofs.Basics.{find_passes}
use Rattle.wh_history.proofs.Effective.{days_in}
use Rattle.wh_day.specs.Day.{first_day}

after_one_le : (n m : ℕ) → n ≤ m → after_one n ≤ suc m
after_one_le zero m h = omega arith
after_one_le (suc n) m h = omega arith

pub place_within : {X : Type 0} (same : X → X → Bool) (x : X) (xs : List X) → place same x xs ≤ length xs
place_within same x [] = omega arith
place_within same x (y ∷ ys) =
    let rest = after_one_le (place same x ys) (length ys) (place_within same x ys) in
    elim (same y x) as (λ b. cond b 1 (after_one (place same x ys)) ≤ suc (length ys)) [ true ↦ omega arith | false ↦ rest ]

pub get_front : {X : Type 0} (n : ℕ) (front back : List X) → n < length front → slice_get (front ++ back) n ≡ slice_get front n
get_front n [] back h = absurd (omega arith)
get_front zero (x ∷ front) back h = refl
get_front (suc n) (x ∷ front) back h = get_front n front back (omega arith)

pub get_past : {X : Type 0} (n : ℕ) (xs : List X) → length xs ≤ n → slice_get xs n ≡ None
get_past n [] h = refl
get_past zero (x ∷ xs) h = absurd (omega arith)
get_past (suc n) (x ∷ xs) h = get_past n xs (omega arith)

-- nothing is found where nothing passes
find_none : (key : ℕ) (rows : List DimRow) (o : Option DimRow) → row_of key rows ≡ o → ((r : DimRow) → row_of key rows ≡ Some r → ⊥) → row_of key rows ≡ None
find_none key rows None is none = is
find_none key rows (Some r) is none = absurd (none r is)

module _ (dim : Dim) (commands : List Accepted) (natural : List ℕ) (ends : RecordsHaveDays commands) where
  -- a start's number is one of the numbers that were given
  start_within : (kinds : List AttributeType) (s : ℕ × ℕ) (h : List Change) → dated (changes_of dim commands natural) ≡ h → InOrder h → InSpans s first_day (starts kinds h) → start_key (member_of dim commands natural) s.0 ≤ length (anchors dim commands)
  start_within kinds s [] is up here =
      let opens : s.0 ≡ first_day = ap (λ (t : ℕ × ℕ). t.0) here in
      subst (λ (d : ℕ). start_key (member_of dim commands natural) d ≤ length (anchors dim commands)) (sym opens) (place_within same_anchor (opening_of natural) (anchors dim commands))
  start_within kinds s (c ∷ cs) is up here =
      elim (in_spans_start (λ day. AmongDays day cs) s first_day _ here (starts_among kinds c cs)) [
        | inl opens ↦ subst (λ (d : ℕ). start_key (member_of dim commands natural) d ≤ length (anchors dim commands)) (sym opens) (place_within same_anchor (opening_of natural) (anchors dim commands))
        | inr among ↦
            let keyed = key_of_change dim commands natural c cs s.0 is up.0 up.1 among in
            let bound = place_within same_anchor _ (anchors dim commands) in
            subst (λ (k : ℕ). k ≤ length (anchors dim commands)) (sym keyed.0) bound
      ]

  -- no row of the member has a number that was not given
  no_row_past : (key : ℕ) → length (anchors dim commands) < key → row_of key (member_rows commands dim natural) ≡ None
  no_row_past key past = find_none key (member_rows commands dim natural) (row_of key (member_rows commands dim natural)) refl (λ r found.
      let span = found_span dim commands natural (types_in dim commands) (profile_now (types_in dim commands) (profiles_of commands) (member_of dim commands natural)) (λ (r : DimRow). r.surrogate == key) r first_day (starts (types_in dim commands) (dated (changes_of dim commands natural))) found in
      let order = InOrder-dated (changes_of dim commands natural) (days_in dim commands natural (described dim commands) (ends dim)) in
      let bound = start_within (types_in dim commands) span.0 (dated (changes_of dim commands natural)) refl order span.1 in
      let is : r.surrogate ≡ key = eqb-true r.surrogate key (find_passes (λ (r : DimRow). r.surrogate == key) r (member_rows commands dim natural) found) in
      let number : r.surrogate ≡ start_key (member_of dim commands natural) span.0.0 = ap (λ (q : DimRow). q.surrogate) span.2 in
      omega arith)

-- a key's row is that of the member of its anchor, also before later commands gave the number
pub row_of_member : (dim : Dim) (old new : List Accepted) (key : ℕ) (a : Anchor) → RecordsHaveDays old → at_place key (anchors dim (old ++ new)) ≡ Some a → numbered_row old dim key ≡ row_of key (member_rows old dim a.natural)
row_of_member dim old new zero a ends is = cc
row_of_member dim old new (suc n) a ends is =
    let joined = anchors-append dim old new in
    elim (cases_lt n (length (anchors dim old))) [
      | inl within ↦
          let same : at_place (suc n) (anchors dim old) ≡ Some a = sym (get_front n (anchors dim old) _ within) ∙ ap (λ (xs : List Anchor). slice_get xs n) (sym joined) ∙ is in
          ap (option_and_then (λ (b : Anchor). find (λ (r : DimRow). r.surrogate == suc n) (member_rows old dim b.natural))) same
      | inr past ↦
          let none : at_place (suc n) (anchors dim old) ≡ None = get_past n (anchors dim old) past in
          ap (option_and_then (λ (b : Anchor). find (λ (r : DimRow). r.surrogate == suc n) (member_rows old dim b.natural))) none ∙ sym (no_row_past dim old a.natural ends (suc n) (omega arith))
    ]

pub row_of_member_now : (dim : Dim) (commands : List Accepted) (key : ℕ) (a : Anchor) → at_place key (anchors dim commands) ≡ Some a → numbered_row commands dim key ≡ row_of key (member_rows commands dim a.natural)
row_of_member_now dim commands key a is = ap (option_and_then (λ (b : Anchor). find (λ (r : DimRow). r.surrogate == key) (member_rows commands dim b.natural))) is
