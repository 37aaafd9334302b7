-- A member's rows stand in the table under their numbers.
use Rattle.std.proofs.Common.{◌≡◌, ◌⊎◌, ℕ, ◌<◌, ◌≤◌, ◌==◌, Bool, true, false, cond, List, [], ◌∷◌, ◌++◌, map, Option, Some, None, refl, sym, ◌∙◌, ap, subst, arith, inl, inr, nat_lt, nat_le}
use Rattle.std.specs.Prelude.{filter, flat_map, bytes_eq, find}
use Rattle.std.specs.List.{list_any, AllByRecursion}
use Rattle.std.proofs.lemmas.Bool.{eq-eqb, ne_eqb, cases_eq}
use Rattle.std.proofs.lemmas.Bool.Decides.{nat_tests}
use Rattle.std.proofs.lemmas.Slice.Eq.{bytes_eq-Decides}
use Rattle.std.proofs.lemmas.List.Folds.{list_any-append}
use Rattle.wh_day.specs.Day.{first_day, last_day, is_day, day_before}
use Rattle.wh_policy.specs.declared.attribute.Dim.{Dim}
use Rattle.wh_policy.specs.declared.attribute.AttributeType.{AttributeType}
use Rattle.wh_policy.specs.declared.record.DimensionRecord.{DimensionRecord}
use Rattle.wh_history.specs.Dated.{keep, dated, in_force}
use Rattle.wh_history.specs.Rows.{starts, later_starts, same_tracked, spans, row, start_key}
use Rattle.wh_history.specs.Accepted.{Accepted, Anchor, same_anchor, anchors_of_record, anchors_of_sale, anchors_by, described_by, described, sold_by, mentions, anchors, surrogate_key, change_of, changes_of, member_of, opening_of, day_of}
use Rattle.wh_history.specs.Laws.{IsMember}
use Rattle.wh_history.specs.declared.member.Change.{Change}
use Rattle.wh_history.specs.declared.rows.DimRow.{DimRow}
use Rattle.wh_history.proofs.Basics.{or_true, some_is, first_or}
use Rattle.wh_history.proofs.Calendar.{not_first}
use Rattle.wh_history.proofs.Spans.{Rises, Follows, InOrder}
use Rattle.wh_history.proofs.Places.{one_place, place-distinct_given, anchors_decide}

-- on what holds of each
pub all_append : {X : Type 0} (P : X → Type 0) (xs ys : List X) → AllByRecursion P xs → AllByRecursion P ys → AllByRecursion P (xs ++ ys)
all_append P [] ys all more = more
all_append P (x ∷ xs) ys all more = (all.0, all_append P xs ys all.1 more)

pub all_weaker : {X : Type 0} (P Q : X → Type 0) → ((x : X) → P x → Q x) → (xs : List X) → AllByRecursion P xs → AllByRecursion Q xs
all_weaker P Q so [] all = tt
all_weaker P Q so (x ∷ xs) all = (so x all.0, all_weaker P Q so xs all.1)

all_keep : (P : Change → Type 0) (c : Change) (es : List Change) → P c → AllByRecursion P es → AllByRecursion P (keep c es)
all_keep P c [] here all = (here, tt)
all_keep P c (e ∷ es) here all =
    let rest = all_keep P c es here all.1 in
    elim (nat_lt c.day e.day) as (λ b. AllByRecursion P (cond b (c ∷ e ∷ es) (cond (c.day == e.day) (e ∷ es) (e ∷ keep c es)))) [
      | true ↦ (here, all)
      | false ↦ elim (c.day == e.day) as (λ b. AllByRecursion P (cond b (e ∷ es) (e ∷ keep c es))) [ true ↦ all | false ↦ (all.0, rest) ]
    ]

pub all_dated : (P : Change → Type 0) (cs : List Change) → AllByRecursion P cs → AllByRecursion P (dated cs)
all_dated P [] all = tt
all_dated P (c ∷ cs) all = all_keep P c (dated cs) all.0 (all_dated P cs all.1)

pub all_in_force : (P : Change → Type 0) (day : ℕ) (first : Change) (cs : List Change) → P first → AllByRecursion P cs → P (in_force day first cs)
all_in_force P day first [] here all = here
all_in_force P day first (c ∷ cs) here all =
    elim (nat_le c.day day) as (λ b. P (cond b (in_force day c cs) first)) [ true ↦ all_in_force P day c cs all.0 all.1 | false ↦ here ]

-- a day is that of one of the changes
abbrev pub AmongDays : ℕ → List Change → Type 0
AmongDays day [] = ⊥
AmongDays day (c ∷ cs) = (c.day ≡ day) ⊎ AmongDays day cs

pub among_above : (low day : ℕ) (cs : List Change) → Follows low cs → AmongDays day cs → low < day
among_above low day [] up among = absurd among
among_above low day (c ∷ cs) up among =
    elim among [ inl here ↦ omega arith | inr later ↦ let rest = among_above c.day day cs up.2 later in omega arith ]

-- no later day is in force yet
pub stays : (day : ℕ) (first : Change) (cs : List Change) → Follows day cs → in_force day first cs ≡ first
stays day first [] up = refl
stays day first (c ∷ cs) up = grind (arith, nat_tests)

in_force_there : (day : ℕ) (first : Change) (cs : List Change) → Follows first.day cs → AmongDays day cs → (in_force day first cs).day ≡ day
in_force_there day first [] up among = absurd among
in_force_there day first (c ∷ cs) up among =
    elim among [
      | inl here ↦
          let more : Follows day cs = subst (λ (d : ℕ). Follows d cs) here up.2 in
          let t : nat_le c.day day ≡ true = grind (arith, nat_tests) in
          rw (t, stays day c cs more) here
      | inr later ↦
          let above = among_above c.day day cs up.2 later in
          let t : nat_le c.day day ≡ true = grind (arith, nat_tests) in
          rw t (in_force_there day c cs up.2 later)
    ]

pub starts_among : (kinds : List AttributeType) (c : Change) (cs : List Change) → AllByRecursion (λ day. AmongDays day cs) (later_starts kinds c cs)
starts_among kinds c [] = tt
starts_among kinds c (d ∷ ds) =
    let rest = all_weaker (λ day. AmongDays day ds) (λ day. AmongDays day (d ∷ ds)) (λ day among. inr among) (later_starts kinds d ds) (starts_among kinds d ds) in
    elim (same_tracked kinds c d) as (λ b. AllByRecursion (λ day. AmongDays day (d ∷ ds)) (cond b (later_starts kinds d ds) (d.day ∷ later_starts kinds d ds))) [
      | true ↦ rest
      | false ↦ (inl refl, rest)
    ]

pub none_some : {X : Type 0} {x : X} → None ≡ Some x → ⊥
none_some e = cc

-- a span is one of those from a start on
abbrev pub InSpans : ℕ × ℕ → ℕ → List ℕ → Type 0
InSpans s from [] = s ≡ (from, last_day)
InSpans s from (next ∷ more) = (s ≡ (from, day_before next)) ⊎ InSpans s next more

pub in_spans_start : (P : ℕ → Type 0) (s : ℕ × ℕ) (from : ℕ) (more : List ℕ) → InSpans s from more → AllByRecursion P more → (s.0 ≡ from) ⊎ P s.0
in_spans_start P s from [] here all = inl (ap (λ (t : ℕ × ℕ). t.0) here)
in_spans_start P s from (next ∷ more) here all =
    elim here [
      | inl first ↦ inl (ap (λ (t : ℕ × ℕ). t.0) first)
      | inr later ↦ elim (in_spans_start P s next more later all.1) [
        | inl is ↦ inr (subst P (sym is) all.0)
        | inr other ↦ inr other
      ]
    ]

pub in_spans_above : (s : ℕ × ℕ) (from : ℕ) (more : List ℕ) → Rises from more → InSpans s from more → from ≤ s.0
in_spans_above s from [] up here = let is = ap (λ (t : ℕ × ℕ). t.0) here in omega arith
in_spans_above s from (next ∷ more) up here =
    elim here [
      | inl first ↦ let is = ap (λ (t : ℕ × ℕ). t.0) first in omega arith
      | inr later ↦ let rest = in_spans_above s next more up.3 later in omega arith
    ]

-- each record's day was mentioned
abbrev pub Told : List Anchor → DimensionRecord → Type 0
Told mentioned r = list_any (λ a. same_anchor a (day_of r.natural r.day)) mentioned ≡ true

pub any_left : (p : Anchor → Bool) (xs ys : List Anchor) → list_any p xs ≡ true → list_any p (xs ++ ys) ≡ true
any_left p xs ys h = list_any-append p xs ys ∙ rw h refl

pub any_right : (p : Anchor → Bool) (xs ys : List Anchor) → list_any p ys ≡ true → list_any p (xs ++ ys) ≡ true
any_right p xs ys h = list_any-append p xs ys ∙ rw h (or_true (list_any p xs))

told_in_records : (rs : List DimensionRecord) → AllByRecursion (Told (flat_map anchors_of_record rs)) rs
told_in_records [] = tt
told_in_records (r ∷ rs) =
    let itself : same_anchor (day_of r.natural r.day) (day_of r.natural r.day) ≡ true = (anchors_decide (day_of r.natural r.day) (day_of r.natural r.day)).1 refl in
    let here : Told (anchors_of_record r) r = rw itself (or_true (same_anchor (opening_of r.natural) (day_of r.natural r.day))) in (
      any_left (λ a. same_anchor a (day_of r.natural r.day)) (anchors_of_record r) (flat_map anchors_of_record rs) here,
      all_weaker (Told (flat_map anchors_of_record rs)) (Told (flat_map anchors_of_record (r ∷ rs))) (λ q t. any_right (λ a. same_anchor a (day_of q.natural q.day)) (anchors_of_record r) (flat_map anchors_of_record rs) t) rs (told_in_records rs),
    )

pub told_in_all : (dim : Dim) (cs : List Accepted) → AllByRecursion (Told (mentions dim cs)) (described dim cs)
told_in_all dim [] = tt
told_in_all dim (c ∷ cs) =
    let rs = described_by dim c.content in
    let anchors_here = anchors_by dim c.content in
    let in_command : AllByRecursion (Told anchors_here) rs = all_weaker (Told (flat_map anchors_of_record rs)) (Told anchors_here) (λ q t. any_left (λ a. same_anchor a (day_of q.natural q.day)) (flat_map anchors_of_record rs) (flat_map (anchors_of_sale dim) (sold_by c.content)) t) rs (told_in_records rs) in
    all_append (Told (mentions dim (c ∷ cs))) rs (described dim cs)
    (all_weaker (Told anchors_here) (Told (mentions dim (c ∷ cs))) (λ q t. any_left (λ a. same_anchor a (day_of q.natural q.day)) anchors_here (mentions dim cs) t) rs in_command)
    (all_weaker (Told (mentions dim cs)) (Told (mentions dim (c ∷ cs))) (λ q t. any_right (λ a. same_anchor a (day_of q.natural q.day)) anchors_here (mentions dim cs) t) (described dim cs) (told_in_all dim cs))

-- the anchor of a start tells its day
abbrev pub start_day : ℕ → Option ℕ
start_day day = cond (day == first_day) None (Some day)

days_back : (d e : ℕ) → start_day d ≡ start_day e → d ≡ e
days_back d e h =
    elim (cases_eq d first_day) [
      | inl first ↦ elim (cases_eq e first_day) [
        | inl same ↦ first ∙ sym same
        | inr other ↦ let l = eq-eqb d first_day first in let r = ne_eqb e first_day other in absurd (none_some (rw (l, r) at h))
      ]
      | inr later ↦ elim (cases_eq e first_day) [
        | inl same ↦ let l = ne_eqb d first_day later in let r = eq-eqb e first_day same in absurd (none_some (sym (rw (l, r) at h)))
        | inr other ↦ let l = ne_eqb d first_day later in let r = ne_eqb e first_day other in some_is d e (rw (l, r) at h)
      ]
    ]

module _ (dim : Dim) (commands : List Accepted) (natural : List ℕ) where
  -- a change has the number of its member and day
  abbrev pub Numbered : Change → Type 0
  Numbered c = (c.anchor ≡ surrogate_key dim commands (day_of natural c.day)) × (0 < c.anchor)

  numbered_in : (rs : List DimensionRecord) → AllByRecursion (Told (mentions dim commands)) rs → AllByRecursion Numbered (map (change_of dim commands) (filter (λ r. bytes_eq r.natural natural) rs))
  numbered_in [] all = tt
  numbered_in (r ∷ rs) all =
      let rest = numbered_in rs all.1 in
      elim (bytes_eq r.natural natural) as (λ b. (bytes_eq r.natural natural ≡ b) → AllByRecursion Numbered (map (change_of dim commands) (cond b (r ∷ filter (λ r. bytes_eq r.natural natural) rs) (filter (λ r. bytes_eq r.natural natural) rs)))) [
        | true ↦ λ e.
            let is = (bytes_eq-Decides r.natural natural).0 e in
            let given = place-distinct_given same_anchor anchors_decide (day_of r.natural r.day) (mentions dim commands) all.0 in
            ((ap (λ n. surrogate_key dim commands (day_of n r.day)) is, given), rest)
        | false ↦ λ e. rest
      ] refl

  pub numbered_changes : AllByRecursion Numbered (changes_of dim commands natural)
  numbered_changes = numbered_in (described dim commands) (told_in_all dim commands)

  -- the anchor of a start
  abbrev pub start_anchor : ℕ → Anchor
  start_anchor day = record { natural = natural; day = start_day day }

  -- a start has the number of its anchor
  abbrev pub Keyed : ℕ → Type 0
  Keyed day = (start_key (member_of dim commands natural) day ≡ surrogate_key dim commands (start_anchor day)) × (0 < surrogate_key dim commands (start_anchor day))

  pub key_of_change : (c : Change) (cs : List Change) (day : ℕ) → dated (changes_of dim commands natural) ≡ c ∷ cs → is_day c.day ≡ true → Follows c.day cs → AmongDays day cs → Keyed day
  key_of_change c cs day is dated_first up among =
      let all : AllByRecursion Numbered (c ∷ cs) = subst (AllByRecursion Numbered) is (all_dated Numbered (changes_of dim commands natural) numbered_changes) in
      let numbered = all_in_force Numbered day c cs all.0 all.1 in
      let there = in_force_there day c cs up among in
      let later : (day == first_day) ≡ false = ne_eqb day first_day (not_first c.day day dated_first (among_above c.day day cs up among)) in
      let key : start_key (member_of dim commands natural) day ≡ (in_force day c cs).anchor = rw (is, later) refl in
      let number : (in_force day c cs).anchor ≡ surrogate_key dim commands (start_anchor day) = rw later (numbered.0 ∙ ap (λ d. surrogate_key dim commands (day_of natural d)) there) in
      (key ∙ number, subst (λ (k : ℕ). 0 < k) number numbered.1)

  key_of_opening : IsMember dim commands natural → Keyed first_day
  key_of_opening member = (refl, place-distinct_given same_anchor anchors_decide (opening_of natural) (mentions dim commands) member)

  pub key_of_start : (kinds : List AttributeType) (s : ℕ × ℕ) (h : List Change) → dated (changes_of dim commands natural) ≡ h → IsMember dim commands natural → InOrder h → InSpans s first_day (starts kinds h) → Keyed s.0
  key_of_start kinds s [] is member up here = let opens = ap (λ (t : ℕ × ℕ). t.0) here in subst Keyed (sym opens) (key_of_opening member)
  key_of_start kinds s (c ∷ cs) is member up here =
      elim (in_spans_start (λ day. AmongDays day cs) s first_day (later_starts kinds c cs) here (starts_among kinds c cs)) [
        | inl opens ↦ subst Keyed (sym opens) (key_of_opening member)
        | inr among ↦ key_of_change c cs s.0 is up.0 up.1 among
      ]

  -- two starts with one number are one
  same_start : (d e : ℕ) → Keyed d → Keyed e → start_key (member_of dim commands natural) d ≡ start_key (member_of dim commands natural) e → d ≡ e
  same_start d e kd ke is =
      let keys : surrogate_key dim commands (start_anchor d) ≡ surrogate_key dim commands (start_anchor e) = sym kd.0 ∙ is ∙ ke.0 in
      let anchor : start_anchor d ≡ start_anchor e = one_place same_anchor anchors_decide (start_anchor d) (start_anchor e) (anchors dim commands) kd.1 keys in
      days_back d e (ap (λ (a : Anchor). a.day) anchor)

  module _ (kinds : List AttributeType) (number : ℕ) where
    abbrev pub made_row : ℕ × ℕ → DimRow
    made_row = row kinds number (member_of dim commands natural)

    -- under its number the row of a span is found
    pub find_by_key : (s : ℕ × ℕ) (from : ℕ) (more : List ℕ) → Rises from more → ((t : ℕ × ℕ) → InSpans t from more → Keyed t.0) → InSpans s from more → find (λ r. r.surrogate == start_key (member_of dim commands natural) s.0) (map made_row (spans from more)) ≡ Some (made_row s)
    find_by_key s from [] up keyed here = rw (here, eq-eqb (start_key (member_of dim commands natural) from) (start_key (member_of dim commands natural) from) refl) refl
    find_by_key s from (next ∷ more) up keyed here =
        elim here [
          | inl first ↦ rw (first, eq-eqb _ _ refl) refl
          | inr later ↦
              let above = in_spans_above s next more up.3 later in
              let apart : start_key (member_of dim commands natural) from ≡ start_key (member_of dim commands natural) s.0 → ⊥ = λ same. let is = same_start from s.0 (keyed (from, day_before next) (inl refl)) (keyed s (inr later)) same in absurd (omega arith) in
              rw (ne_eqb _ _ apart) (find_by_key s next more up.3 (λ t there. keyed t (inr there)) later)
        ]

    -- what is found among the rows of spans is the row of one of them
    pub found_span : (p : DimRow → Bool) (r : DimRow) (from : ℕ) (more : List ℕ) → find p (map made_row (spans from more)) ≡ Some r → (s : ℕ × ℕ) × InSpans s from more × (r ≡ made_row s)
    found_span p r from [] h =
        elim (p (made_row (from, last_day))) as (λ b. first_or b (made_row (from, last_day)) None ≡ Some r → (s : ℕ × ℕ) × InSpans s from [] × (r ≡ made_row s)) [
          | true ↦ λ e. ((from, last_day), refl, sym (some_is _ r e))
          | false ↦ λ e. absurd (none_some e)
        ] h
    found_span p r from (next ∷ more) h =
        elim (p (made_row (from, day_before next))) as (λ b. first_or b (made_row (from, day_before next)) (find p (map made_row (spans next more))) ≡ Some r → (s : ℕ × ℕ) × InSpans s from (next ∷ more) × (r ≡ made_row s)) [
          | true ↦ λ e. ((from, day_before next), inl refl, sym (some_is _ r e))
          | false ↦ λ e. let rest = found_span p r next more e in (rest.0, inr rest.1, rest.2)
        ] h
