-- Of a member with a record before a day, the keys and profiles of the days before it, after records of that day and later ones.
use Rattle.std.proofs.Common.{◌≡◌, ℕ, ◌<◌, ◌≤◌, ◌==◌, Bool, true, false, cond, ◌||◌, nat_lt, nat_le, List, [], ◌∷◌, ◌++◌, map, append-nil, Some, refl, sym, ◌∙◌, ap, arith, inl, inr}
use Rattle.std.specs.Prelude.{◌≢◌, filter, option_map, unwrap_or}
use Rattle.std.specs.List.{list_any, AllByRecursion}
use Rattle.std.proofs.lemmas.Bool.{cases_lt, cases_eq, lt-ltb, le-ltb, eq-eqb, ne_eqb}
use Rattle.std.proofs.lemmas.Bool.Decides.{nat_tests}
use Rattle.std.proofs.lemmas.List.Elements.{filter-append}
use Rattle.wh_day.specs.Day.{first_day, last_day, is_day, day_before}
use Rattle.wh_day.proofs.Days.{from_first, to_last}
use Rattle.wh_policy.specs.declared.attribute.AttributeType.{AttributeType}
use Rattle.wh_history.specs.Dated.{keep, dated, in_force, at}
use Rattle.wh_history.specs.Facts.{key_in}
use Rattle.wh_history.specs.Laws.{ChangesHaveDays}
use Rattle.wh_history.specs.Rows.{same_tracked, later_starts, starts, spans, start_key, row, holds}
use Rattle.wh_history.specs.declared.member.Change.{Change}
use Rattle.wh_history.specs.declared.member.Member.{Member}
use Rattle.wh_history.proofs.Spans.{Follows, InOrder, InOrder-dated, Rises, Rises-starts}
use Rattle.wh_history.proofs.Walks.{follows_weaker}

-- ---- the changes before a day

-- of changes in order of their days, those before the first that isn't before a day
abbrev pub front : ℕ → List Change → List Change
front first [] = []
front first (c ∷ cs) = cond (nat_lt c.day first) (c ∷ front first cs) []

abbrev pub is_before : ℕ → Change → Bool
is_before first c = nat_lt c.day first

front_keep : (first : ℕ) (c : Change) (es : List Change) → front first (keep c es) ≡ cond (nat_lt c.day first) (keep c (front first es)) (front first es)
front_keep first c [] = refl
front_keep first c (e ∷ es) =
    let rest = front_keep first c es in
    elim (cases_lt c.day first) [
      | inl early ↦ elim (cases_lt c.day e.day) [
        | inl before ↦ rw (lt-ltb c.day e.day before, lt-ltb c.day first early) (elim (nat_lt e.day first) as (λ b. c ∷ cond b (e ∷ front first es) [] ≡ keep c (cond b (e ∷ front first es) [])) [
          | true ↦ rw (lt-ltb c.day e.day before) refl
          | false ↦ refl
        ])
        | inr late ↦
            let e_early : e.day < first = omega arith in
            elim (cases_eq c.day e.day) [
              | inl same ↦ rw (le-ltb c.day e.day late, eq-eqb c.day e.day same, lt-ltb c.day first early, lt-ltb e.day first e_early) (rw (le-ltb c.day e.day late, eq-eqb c.day e.day same) refl)
              | inr other ↦
                  let kept : front first (keep c es) ≡ keep c (front first es) = rest ∙ ap (λ b. cond b (keep c (front first es)) (front first es)) (lt-ltb c.day first early) in
                  rw (le-ltb c.day e.day late, ne_eqb c.day e.day other, lt-ltb c.day first early, lt-ltb e.day first e_early) (rw (le-ltb c.day e.day late, ne_eqb c.day e.day other) (ap (λ cs. e ∷ cs) kept))
            ]
      ]
      | inr past ↦ elim (cases_lt c.day e.day) [
        | inl before ↦
            let e_past : first ≤ e.day = omega arith in
            rw (lt-ltb c.day e.day before, le-ltb c.day first past, le-ltb e.day first e_past) refl
        | inr late ↦ elim (cases_eq c.day e.day) [
          | inl same ↦ rw (le-ltb c.day e.day late, eq-eqb c.day e.day same, le-ltb c.day first past) refl
          | inr other ↦
              let kept : front first (keep c es) ≡ front first es = rest ∙ ap (λ b. cond b (keep c (front first es)) (front first es)) (le-ltb c.day first past) in
              rw (le-ltb c.day e.day late, ne_eqb c.day e.day other, le-ltb c.day first past) (ap (λ cs. cond (nat_lt e.day first) (e ∷ cs) []) kept)
        ]
      ]
    ]

front_dated : (first : ℕ) (cs : List Change) → front first (dated cs) ≡ dated (filter (is_before first) cs)
front_dated first [] = refl
front_dated first (c ∷ cs) =
    let before = filter (is_before first) cs in
    front_keep first c (dated cs)
    ∙ ap (λ es. cond (nat_lt c.day first) (keep c es) es) (front_dated first cs)
    ∙ elim (nat_lt c.day first) as (λ b. cond b (keep c (dated before)) (dated before) ≡ dated (cond b (c ∷ before) before)) [
      | true ↦ refl
      | false ↦ refl
    ]

none_before : (first : ℕ) (cs : List Change) → AllByRecursion (λ c. first ≤ c.day) cs → filter (is_before first) cs ≡ []
none_before first [] late = refl
none_before first (c ∷ cs) late = rw (le-ltb c.day first late.0) (none_before first cs late.1)

front_stays : (first : ℕ) (old new : List Change) → AllByRecursion (λ c. first ≤ c.day) new → front first (dated (old ++ new)) ≡ front first (dated old)
front_stays first old new late =
    let test = is_before first in
    front_dated first (old ++ new)
    ∙ ap dated (filter-append test old new ∙ ap (λ cs. filter test old ++ cs) (none_before first new late) ∙ append-nil (filter test old))
    ∙ sym (front_dated first old)

keep_some : (c : Change) (es : List Change) → keep c es ≢ []
keep_some c [] none = cc
keep_some c (e ∷ es) none =
    elim (nat_lt c.day e.day) as (λ b. cond b (c ∷ e ∷ es) (cond (c.day == e.day) (e ∷ es) (e ∷ keep c es)) ≡ [] → ⊥) [
      | true ↦ λ h. cc
      | false ↦ λ h. elim (c.day == e.day) as (λ b. cond b (e ∷ es) (e ∷ keep c es) ≡ [] → ⊥) [
        | true ↦ λ h. cc
        | false ↦ λ h. cc
      ] h
    ] none

dated_some : (first : ℕ) (cs : List Change) → list_any (is_before first) cs ≡ true → dated (filter (is_before first) cs) ≢ []
dated_some first [] some none = cc
dated_some first (c ∷ cs) some none =
    elim (is_before first c) as (λ b. (b || list_any (is_before first) cs) ≡ true → dated (cond b (c ∷ filter (is_before first) cs) (filter (is_before first) cs)) ≡ [] → ⊥) [
      | true ↦ λ _ h. keep_some c (dated (filter (is_before first) cs)) h
      | false ↦ λ later h. dated_some first cs later h
    ] some none

front_some : (first : ℕ) (cs : List Change) → list_any (is_before first) cs ≡ true → front first (dated cs) ≢ []
front_some first cs some none = dated_some first cs some (sym (front_dated first cs) ∙ none)

-- ---- what is in force on an earlier day

in_force_front : (first day : ℕ) (c : Change) (cs : List Change) → day < first → in_force day c cs ≡ in_force day c (front first cs)
in_force_front first day c [] less = refl
in_force_front first day c (d ∷ ds) less =
    elim (cases_lt d.day first) [
      | inl early ↦ rw (lt-ltb d.day first early) (ap (λ e. cond (nat_le d.day day) e c) (in_force_front first day d ds less))
      | inr late ↦
          let past : nat_le d.day day ≡ false = grind (arith, nat_tests) in
          rw (le-ltb d.day first late, past) refl
    ]

at_front : (first day : ℕ) (cs : List Change) → day < first → front first cs ≢ [] → at day cs ≡ at day (front first cs)
at_front first day [] less some = refl
at_front first day (c ∷ cs) less some =
    elim (nat_lt c.day first) as (λ b. (cond b (c ∷ front first cs) [] ≢ []) → Some (in_force day c cs) ≡ at day (cond b (c ∷ front first cs) [])) [
      | true ↦ λ _. ap Some (in_force_front first day c cs less)
      | false ↦ λ none. absurd (none refl)
    ] some

-- ---- the row of an earlier day

-- of a start and later ones, the last that is not after a day
abbrev pub last_start : ℕ → ℕ → List ℕ → ℕ
last_start day from [] = from
last_start day from (next ∷ more) = cond (nat_le next day) (last_start day next more) from

last_start_within : (day from : ℕ) (more : List ℕ) → from ≤ day → last_start day from more ≤ day
last_start_within day from [] late = late
last_start_within day from (next ∷ more) late =
    elim (cases_lt day next) [
      | inl early ↦
          let past : nat_le next day ≡ false = grind (arith, nat_tests) in
          rw past late
      | inr later ↦
          let here : nat_le next day ≡ true = grind (arith, nat_tests) in
          rw here (last_start_within day next more later)
    ]

module _ (kinds : List AttributeType) (number : ℕ) (m : Member) where
  -- the row of a day has the number of the last start that is not after it
  pub key_of_day : (day from : ℕ) (more : List ℕ) → is_day day ≡ true → Rises from more → from ≤ day → key_in (map (row kinds number m) (spans from more)) day ≡ start_key m (last_start day from more)
  key_of_day day from [] is up late =
      let within = to_last day is in
      let t : holds day (row kinds number m (from, last_day)) ≡ true = grind (arith, nat_tests) in
      rw t refl
  key_of_day day from (next ∷ more) is up late =
      elim (cases_lt day next) [
        | inl early ↦
            let before = up.2.1 day is early in
            let t : holds day (row kinds number m (from, day_before next)) ≡ true = grind (arith, nat_tests) in
            let past : nat_le next day ≡ false = grind (arith, nat_tests) in
            rw (t, past) refl
        | inr later ↦
            let rest = key_of_day day next more is up.3 later in
            let before = up.2.0 in
            let t : holds day (row kinds number m (from, day_before next)) ≡ false = grind (arith, nat_tests) in
            let here : nat_le next day ≡ true = grind (arith, nat_tests) in
            rw (t, here) rest
      ]

module _ (kinds : List AttributeType) where
  -- no start of later changes is up to the day
  pub late_starts : (day from : ℕ) (c : Change) (cs : List Change) → Follows day cs → last_start day from (later_starts kinds c cs) ≡ from
  late_starts day from c [] up = refl
  late_starts day from c (d ∷ ds) up =
      let rest = late_starts day from d ds (follows_weaker day d.day ds (omega (arith, up.0)) up.2) in
      let early = up.0 in
      let past : nat_le d.day day ≡ false = grind (arith, nat_tests) in
      elim (same_tracked kinds c d) as (λ b. last_start day from (cond b (later_starts kinds d ds) (d.day ∷ later_starts kinds d ds)) ≡ from) [
        | true ↦ rest
        | false ↦ rw past refl
      ]

  later_front : (first day from : ℕ) (c : Change) (cs : List Change) → day < first → Follows c.day cs → last_start day from (later_starts kinds c cs) ≡ last_start day from (later_starts kinds c (front first cs))
  later_front first day from c [] less up = refl
  later_front first day from c (d ∷ ds) less up =
      elim (cases_lt d.day first) [
        | inl early ↦ rw (lt-ltb d.day first early) (elim (same_tracked kinds c d) as (λ b. last_start day from (cond b (later_starts kinds d ds) (d.day ∷ later_starts kinds d ds))
            ≡ last_start day from (cond b (later_starts kinds d (front first ds)) (d.day ∷ later_starts kinds d (front first ds)))) [
              | true ↦ later_front first day from d ds less up.2
              | false ↦ ap (λ n. cond (nat_le d.day day) n from) (later_front first day d.day d ds less up.2)
            ])
        | inr late ↦ rw (le-ltb d.day first late) (late_starts day from c (d ∷ ds) (omega arith, up.1, up.2))
      ]

  starts_front : (first day : ℕ) (cs : List Change) → day < first → InOrder cs → front first cs ≢ [] → last_start day first_day (starts kinds cs) ≡ last_start day first_day (starts kinds (front first cs))
  starts_front first day [] less up some = refl
  starts_front first day (c ∷ cs) less up some =
      elim (nat_lt c.day first) as (λ b. (cond b (c ∷ front first cs) [] ≢ []) → last_start day first_day (later_starts kinds c cs) ≡ last_start day first_day (starts kinds (cond b (c ∷ front first cs) []))) [
        | true ↦ λ _. later_front first day first_day c cs less up.1
        | false ↦ λ none. absurd (none refl)
      ] some

-- ---- a member before and after

module _ (before after : Member) (first : ℕ) (new : List Change) (more : after.changes ≡ before.changes ++ new) (late : AllByRecursion (λ c. first ≤ c.day) new) (some : list_any (is_before first) before.changes ≡ true) where
  same_front : front first (dated after.changes) ≡ front first (dated before.changes)
  same_front = ap (λ cs. front first (dated cs)) more ∙ front_stays first before.changes new late

  some_before : front first (dated before.changes) ≢ []
  some_before = front_some first before.changes some

  some_after : front first (dated after.changes) ≢ []
  some_after none = some_before (sym same_front ∙ none)

  -- the change in force
  pub at_stays : (day : ℕ) → day < first → at day (dated after.changes) ≡ at day (dated before.changes)
  at_stays day less = at_front first day (dated after.changes) less some_after ∙ ap (at day) same_front ∙ sym (at_front first day (dated before.changes) less some_before)

  module _ (kinds : List AttributeType) (days_before : ChangesHaveDays before.changes) (days_after : ChangesHaveDays after.changes) (opening : after.opening ≡ before.opening) where
    last_stays : (day : ℕ) → day < first → last_start day first_day (starts kinds (dated after.changes)) ≡ last_start day first_day (starts kinds (dated before.changes))
    last_stays day less =
        starts_front kinds first day (dated after.changes) less (InOrder-dated after.changes days_after) some_after
        ∙ ap (λ cs. last_start day first_day (starts kinds cs)) same_front
        ∙ sym (starts_front kinds first day (dated before.changes) less (InOrder-dated before.changes days_before) some_before)

    start_stays : (day : ℕ) → day < first → start_key after day ≡ start_key before day
    start_stays day less =
        ap (λ n. cond (day == first_day) n (unwrap_or (option_map (λ (c : Change). c.anchor) (at day (dated after.changes))) 0)) opening
        ∙ ap (λ o. cond (day == first_day) before.opening (unwrap_or (option_map (λ (c : Change). c.anchor) o) 0)) (at_stays day less)

    -- the number of the row
    pub key_stays : (number other : ℕ) (day : ℕ) → is_day day ≡ true → day < first
        → key_in (map (row kinds number after) (spans first_day (starts kinds (dated after.changes)))) day ≡ key_in (map (row kinds other before) (spans first_day (starts kinds (dated before.changes)))) day
    key_stays number other day is less =
        let from = from_first day is in
        let begun = last_start day first_day (starts kinds (dated before.changes)) in
        let within = last_start_within day first_day (starts kinds (dated before.changes)) from in
        key_of_day kinds number after day first_day (starts kinds (dated after.changes)) is (Rises-starts kinds (dated after.changes) (InOrder-dated after.changes days_after)) from
        ∙ ap (start_key after) (last_stays day less)
        ∙ start_stays begun (omega (arith, within, less))
        ∙ sym (key_of_day kinds other before day first_day (starts kinds (dated before.changes)) is (Rises-starts kinds (dated before.changes) (InOrder-dated before.changes days_before)) from)
