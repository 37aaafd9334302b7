-- Of a member with a record of a day that is later than all new ones, the keys and profiles from that day on, where the row of the day is the same.
use Rattle.std.proofs.Common.{◌≡◌, ℕ, ◌<◌, ◌≤◌, ◌==◌, Bool, true, false, cond, not, nat_lt, nat_le, List, [], ◌∷◌, ◌++◌, map, append-nil, Some, refl, sym, ◌∙◌, ap, subst, arith, inl, inr}
use Rattle.std.specs.Prelude.{filter, find, option_map, unwrap_or}
use Rattle.std.specs.List.{list_any, AllByRecursion}
use Rattle.std.proofs.lemmas.Bool.{cases_lt, cases_eq, lt-ltb, le-ltb, eq-eqb, ne_eqb}
use Rattle.std.proofs.lemmas.Bool.Decides.{nat_tests}
use Rattle.std.proofs.lemmas.List.Elements.{filter-append}
use Rattle.wh_day.specs.Day.{first_day, is_day}
use Rattle.wh_day.proofs.Days.{from_first}
use Rattle.wh_policy.specs.declared.attribute.AttributeType.{AttributeType}
use Rattle.wh_history.specs.Dated.{keep, dated, in_force, at}
use Rattle.wh_history.specs.Facts.{key_in}
use Rattle.wh_history.specs.Laws.{ChangesHaveDays, is_of}
use Rattle.wh_history.specs.Rows.{same_tracked, later_starts, starts, spans, start_key, row}
use Rattle.wh_history.specs.declared.member.Change.{Change}
use Rattle.wh_history.specs.declared.member.Member.{Member}
use Rattle.wh_history.proofs.Basics.{some_is}
use Rattle.wh_history.proofs.Joins.{AmongDays, among_above}
use Rattle.wh_history.proofs.Since.{last_start, key_of_day, late_starts}
use Rattle.wh_history.proofs.Spans.{Follows, InOrder, InOrder-dated, Rises, Rises-later_starts, Rises-starts}
use Rattle.wh_history.proofs.Walks.{follows_weaker}

-- ---- the changes from a day on

-- of changes in order of their days, those from the first on that isn't before a day
abbrev back : ℕ → List Change → List Change
back start [] = []
back start (c ∷ cs) = cond (nat_lt c.day start) (back start cs) (c ∷ cs)

abbrev is_since : ℕ → Change → Bool
is_since start c = not (nat_lt c.day start)

back_keep : (start : ℕ) (c : Change) (es : List Change) → back start (keep c es) ≡ cond (nat_lt c.day start) (back start es) (keep c (back start es))
back_keep start c [] = refl
back_keep start c (e ∷ es) =
    let rest = back_keep start c es in
    elim (cases_lt c.day start) [
      | inl early ↦ elim (cases_lt c.day e.day) [
        | inl before ↦ rw (lt-ltb c.day e.day before, lt-ltb c.day start early) refl
        | inr late ↦ elim (cases_eq c.day e.day) [
          | inl same ↦ rw (le-ltb c.day e.day late, eq-eqb c.day e.day same, lt-ltb c.day start early) refl
          | inr other ↦
              let e_early : e.day < start = omega arith in
              let kept : back start (keep c es) ≡ back start es = rest ∙ ap (λ b. cond b (back start es) (keep c (back start es))) (lt-ltb c.day start early) in
              rw (le-ltb c.day e.day late, ne_eqb c.day e.day other, lt-ltb c.day start early, lt-ltb e.day start e_early) kept
        ]
      ]
      | inr past ↦ elim (cases_lt c.day e.day) [
        | inl before ↦
            let e_past : start ≤ e.day = omega arith in
            rw (lt-ltb c.day e.day before, le-ltb c.day start past, le-ltb e.day start e_past) (rw (lt-ltb c.day e.day before) refl)
        | inr late ↦ elim (cases_eq c.day e.day) [
          | inl same ↦
              let e_past : start ≤ e.day = omega arith in
              rw (le-ltb c.day e.day late, eq-eqb c.day e.day same, le-ltb c.day start past, le-ltb e.day start e_past) (rw (le-ltb c.day e.day late, eq-eqb c.day e.day same) refl)
          | inr other ↦ elim (cases_lt e.day start) [
            | inl e_early ↦
                let kept : back start (keep c es) ≡ keep c (back start es) = rest ∙ ap (λ b. cond b (back start es) (keep c (back start es))) (le-ltb c.day start past) in
                rw (le-ltb c.day e.day late, ne_eqb c.day e.day other, le-ltb c.day start past, lt-ltb e.day start e_early) kept
            | inr e_past ↦ rw (le-ltb c.day e.day late, ne_eqb c.day e.day other, le-ltb c.day start past, le-ltb e.day start e_past) (rw (le-ltb c.day e.day late, ne_eqb c.day e.day other) refl)
          ]
        ]
      ]
    ]

back_dated : (start : ℕ) (cs : List Change) → back start (dated cs) ≡ dated (filter (is_since start) cs)
back_dated start [] = refl
back_dated start (c ∷ cs) =
    let since = filter (is_since start) cs in
    back_keep start c (dated cs)
    ∙ ap (λ es. cond (nat_lt c.day start) es (keep c es)) (back_dated start cs)
    ∙ elim (nat_lt c.day start) as (λ b. cond b (dated since) (keep c (dated since)) ≡ dated (cond (not b) (c ∷ since) since)) [
      | true ↦ refl
      | false ↦ refl
    ]

none_since : (start : ℕ) (cs : List Change) → AllByRecursion (λ c. c.day < start) cs → filter (is_since start) cs ≡ []
none_since start [] early = refl
none_since start (c ∷ cs) early = rw (lt-ltb c.day start early.0) (none_since start cs early.1)

back_stays : (start : ℕ) (old new : List Change) → AllByRecursion (λ c. c.day < start) new → back start (dated (old ++ new)) ≡ back start (dated old)
back_stays start old new early =
    let test = is_since start in
    back_dated start (old ++ new)
    ∙ ap dated (filter-append test old new ∙ ap (λ cs. filter test old ++ cs) (none_since start new early) ∙ append-nil (filter test old))
    ∙ sym (back_dated start old)

-- ---- a change of the day itself

among_back : (start : ℕ) (cs : List Change) → AmongDays start cs → AmongDays start (back start cs)
among_back start [] there = there
among_back start (c ∷ cs) there =
    elim (cases_lt c.day start) [
      | inl early ↦ rw (lt-ltb c.day start early) (elim there [ inl same ↦ absurd (omega (arith, early, same)) | inr later ↦ among_back start cs later ])
      | inr late ↦ rw (le-ltb c.day start late) there
    ]

back_among : (start : ℕ) (cs : List Change) → AmongDays start (back start cs) → AmongDays start cs
back_among start [] there = there
back_among start (c ∷ cs) there =
    elim (nat_lt c.day start) as (λ b. AmongDays start (cond b (back start cs) (c ∷ cs)) → AmongDays start (c ∷ cs)) [
      | true ↦ λ later. inr (back_among start cs later)
      | false ↦ λ here. here
    ] there

pub any_among : (day : ℕ) (cs : List Change) → list_any (is_of day) cs ≡ true → AmongDays day cs
any_among day [] some = cc
any_among day (c ∷ cs) some =
    elim (cases_eq c.day day) [
      | inl same ↦ inl same
      | inr other ↦ inr (any_among day cs (rw (ne_eqb c.day day other) at some))
    ]

pub found_among : (p : Change → Bool) (cs : List Change) (c : Change) → find p cs ≡ Some c → AmongDays c.day cs
found_among p [] c found = cc
found_among p (d ∷ ds) c found =
    elim (p d) as (λ b. cond b (Some d) (find p ds) ≡ Some c → AmongDays c.day (d ∷ ds)) [
      | true ↦ λ is. inl (ap (λ (e : Change). e.day) (some_is d c is))
      | false ↦ λ later. inr (found_among p ds c later)
    ] found

in_order_rest : (day : ℕ) (cs : List Change) → Follows day cs → InOrder cs
in_order_rest day [] up = tt
in_order_rest day (c ∷ cs) up = (up.1, up.2)

among_day : (day : ℕ) (cs : List Change) → InOrder cs → AmongDays day cs → is_day day ≡ true
among_day day [] up there = absurd there
among_day day (c ∷ cs) up there = elim there [ inl same ↦ subst (λ d. is_day d ≡ true) same up.0 | inr later ↦ among_day day cs (in_order_rest c.day cs up.1) later ]

pub first_among : (day : ℕ) (c : Change) (cs : List Change) → Follows c.day cs → AmongDays day (c ∷ cs) → c.day ≤ day
first_among day c cs up there = elim there [ inl same ↦ omega (arith, same) | inr later ↦ (let above = among_above c.day day cs up later in omega (arith, above)) ]

-- an earlier change isn't it
pub among_rest : (start : ℕ) (c : Change) (cs : List Change) → c.day < start → AmongDays start (c ∷ cs) → AmongDays start cs
among_rest start c cs early there = elim there [ inl same ↦ absurd (omega (arith, early, same)) | inr later ↦ later ]

-- ---- what is in force from it on

further : (start day : ℕ) (c : Change) (cs : List Change) → Follows c.day cs → AmongDays start cs → start ≤ day → Some (in_force day c cs) ≡ at day cs
further start day c [] up there late = absurd there
further start day c (d ∷ ds) up there late =
    let within = first_among start d ds up.2 there in
    let begun : nat_le d.day day ≡ true = grind (arith, nat_tests) in
    rw begun refl

at_back : (start day : ℕ) (cs : List Change) → InOrder cs → AmongDays start cs → start ≤ day → at day cs ≡ at day (back start cs)
at_back start day [] up there late = refl
at_back start day (c ∷ cs) up there late =
    elim (cases_lt c.day start) [
      | inl early ↦
          let rest = among_rest start c cs early there in
          rw (lt-ltb c.day start early) (further start day c cs up.1 rest late ∙ at_back start day cs (in_order_rest c.day cs up.1) rest late)
      | inr here ↦ rw (le-ltb c.day start here) refl
    ]

-- ---- the row from it on

module _ (kinds : List AttributeType) where
  rises_back : (start : ℕ) (cs : List Change) → InOrder cs → Rises start (starts kinds (back start cs))
  rises_back start [] up = tt
  rises_back start (c ∷ cs) up =
      elim (cases_lt c.day start) [
        | inl early ↦ rw (lt-ltb c.day start early) (rises_back start cs (in_order_rest c.day cs up.1))
        | inr late ↦ rw (le-ltb c.day start late) (Rises-later_starts kinds start c cs late up.0 up.1)
      ]

  later_back : (start day begun : ℕ) (c : Change) (cs : List Change) → InOrder (c ∷ cs) → AmongDays start (c ∷ cs) → start ≤ day
      → last_start day begun (later_starts kinds c cs) ≡ last_start day (last_start start begun (later_starts kinds c cs)) (starts kinds (back start (c ∷ cs)))
  later_back start day begun c [] up there late =
      elim (cases_lt c.day start) [
        | inl early ↦ absurd (among_rest start c [] early there)
        | inr here ↦ rw (le-ltb c.day start here) refl
      ]
  later_back start day begun c (d ∷ ds) up there late =
      elim (cases_lt c.day start) [
        | inl early ↦
            let rest = among_rest start c (d ∷ ds) early there in
            let within = first_among start d ds up.1.2 rest in
            let by_start : nat_le d.day start ≡ true = grind (arith, nat_tests) in
            let by_day : nat_le d.day day ≡ true = grind (arith, nat_tests) in
            rw (lt-ltb c.day start early) (elim (same_tracked kinds c d) as (λ b. last_start day begun (cond b (later_starts kinds d ds) (d.day ∷ later_starts kinds d ds))
            ≡ last_start day (last_start start begun (cond b (later_starts kinds d ds) (d.day ∷ later_starts kinds d ds))) (starts kinds (back start (d ∷ ds)))) [
              | true ↦ later_back start day begun d ds (up.1.1, up.1.2) rest late
              | false ↦ rw (by_start, by_day) (later_back start day d.day d ds (up.1.1, up.1.2) rest late)
            ])
        | inr here ↦
            let none = late_starts kinds start begun c (d ∷ ds) (follows_weaker start c.day (d ∷ ds) here up.1) in
            rw (le-ltb c.day start here) (ap (λ n. last_start day n (later_starts kinds c (d ∷ ds))) (sym none))
      ]

  -- the last start up to a later day is that up to it, or one after it
  starts_back : (start day : ℕ) (cs : List Change) → InOrder cs → AmongDays start cs → start ≤ day
      → last_start day first_day (starts kinds cs) ≡ last_start day (last_start start first_day (starts kinds cs)) (starts kinds (back start cs))
  starts_back start day [] up there late = absurd there
  starts_back start day (c ∷ cs) up there late = later_back start day first_day c cs up there late

-- ---- a member before and after

module _ (before after : Member) (start : ℕ) (new : List Change) (more : after.changes ≡ before.changes ++ new) (early : AllByRecursion (λ c. c.day < start) new) (there : AmongDays start (dated before.changes))
    (days_before : ChangesHaveDays before.changes) (days_after : ChangesHaveDays after.changes) where
  same_back : back start (dated after.changes) ≡ back start (dated before.changes)
  same_back = ap (λ cs. back start (dated cs)) more ∙ back_stays start before.changes new early

  there_after : AmongDays start (dated after.changes)
  there_after = back_among start (dated after.changes) (subst (AmongDays start) (sym same_back) (among_back start (dated before.changes) there))

  up_before : InOrder (dated before.changes)
  up_before = InOrder-dated before.changes days_before

  up_after : InOrder (dated after.changes)
  up_after = InOrder-dated after.changes days_after

  -- the change in force
  pub at_later_stays : (day : ℕ) → start ≤ day → at day (dated after.changes) ≡ at day (dated before.changes)
  at_later_stays day late = at_back start day (dated after.changes) up_after there_after late ∙ ap (at day) same_back ∙ sym (at_back start day (dated before.changes) up_before there late)

  module _ (kinds : List AttributeType) (opening : after.opening ≡ before.opening) where
    start_stays : (day : ℕ) → start ≤ day → start_key after day ≡ start_key before day
    start_stays day late =
        ap (λ n. cond (day == first_day) n (unwrap_or (option_map (λ (c : Change). c.anchor) (at day (dated after.changes))) 0)) opening
        ∙ ap (λ o. cond (day == first_day) before.opening (unwrap_or (option_map (λ (c : Change). c.anchor) o) 0)) (at_later_stays day late)

    last_stays : (low day begun other : ℕ) (more : List ℕ) → start ≤ low → Rises low more → start_key after begun ≡ start_key before other → start_key after (last_start day begun more) ≡ start_key before (last_start day other more)
    last_stays low day begun other [] late up same = same
    last_stays low day begun other (next ∷ more) late up same =
        let above : start ≤ next = omega (arith, late, up.0) in
        elim (nat_le next day) as (λ b. start_key after (cond b (last_start day next more) begun) ≡ start_key before (cond b (last_start day next more) other)) [
          | true ↦ last_stays next day next next more above up.3 (start_stays next above)
          | false ↦ same
        ]

    abbrev key_after : ℕ → ℕ → ℕ
    key_after number day = key_in (map (row kinds number after) (spans first_day (starts kinds (dated after.changes)))) day

    abbrev key_before : ℕ → ℕ → ℕ
    key_before number day = key_in (map (row kinds number before) (spans first_day (starts kinds (dated before.changes)))) day

    key_after-is : (number day : ℕ) → is_day day ≡ true → key_after number day ≡ start_key after (last_start day first_day (starts kinds (dated after.changes)))
    key_after-is number day is = key_of_day kinds number after day first_day (starts kinds (dated after.changes)) is (Rises-starts kinds (dated after.changes) up_after) (from_first day is)

    key_before-is : (number day : ℕ) → is_day day ≡ true → key_before number day ≡ start_key before (last_start day first_day (starts kinds (dated before.changes)))
    key_before-is number day is = key_of_day kinds number before day first_day (starts kinds (dated before.changes)) is (Rises-starts kinds (dated before.changes) up_before) (from_first day is)

    -- the number of the row
    pub key_later_stays : (shown other : ℕ) → key_in (map (row kinds shown after) (spans first_day (starts kinds (dated after.changes)))) start ≡ key_in (map (row kinds other before) (spans first_day (starts kinds (dated before.changes)))) start
        → (number last day : ℕ) → is_day day ≡ true → start ≤ day
        → key_in (map (row kinds number after) (spans first_day (starts kinds (dated after.changes)))) day ≡ key_in (map (row kinds last before) (spans first_day (starts kinds (dated before.changes)))) day
    key_later_stays shown other kept number last day is late =
        let begun = last_start start first_day (starts kinds (dated after.changes)) in
        let stored = last_start start first_day (starts kinds (dated before.changes)) in
        let is_start = among_day start (dated before.changes) up_before there in
        let same : start_key after begun ≡ start_key before stored = sym (key_after-is shown start is_start) ∙ kept ∙ key_before-is other start is_start in
        key_after-is number day is
        ∙ ap (start_key after) (starts_back kinds start day (dated after.changes) up_after there_after late ∙ ap (λ cs. last_start day begun (starts kinds cs)) same_back)
        ∙ last_stays start day begun stored (starts kinds (back start (dated before.changes))) (omega arith) (rises_back kinds start (dated before.changes) up_before) same
        ∙ sym (ap (start_key before) (starts_back kinds start day (dated before.changes) up_before there late))
        ∙ sym (key_before-is last day is)
