-- A dated list without its order of work: which changes it has, and which of them is in force at a day.
use Rattle.std.proofs.Common.{◌≡◌, ℕ, ◌<◌, ◌≤◌, ◌==◌, true, false, List, [], ◌∷◌, reverse, Option, Some, None, refl, sym, ◌∙◌, ap, subst, arith, inl, inr, nat_le}
use Rattle.std.specs.Prelude.{find}
use Rattle.std.specs.List.{AllByRecursion}
use Rattle.std.specs.Option.{option_or}
use Rattle.std.proofs.lemmas.Bool.Decides.{nat_tests}
use Rattle.std.proofs.lemmas.Bool.{cases_lt, cases_eq, lt-ltb, eq-eqb, le-ltb, ne_eqb}
use Rattle.std.proofs.lemmas.Grind.{reverse_onto}
use Rattle.std.proofs.lemmas.List.Folds.{find-append}
use Rattle.wh_history.specs.declared.member.Change.{Change}
use Rattle.wh_history.specs.Dated.{keep, dated, in_force, at}
use Rattle.wh_history.specs.Laws.{ChangesHaveDays, RisesFrom, DaysRise, is_of, DatedListsAreExact, IsInForce, ChangesInForce}
use Rattle.wh_history.proofs.Basics.{some_is}
use Rattle.wh_history.proofs.Spans.{Follows, InOrder, InOrder-dated}

-- ---- its days rise

follows_rise : (day : ℕ) (cs : List Change) → Follows day cs → RisesFrom day cs
follows_rise day [] up = tt
follows_rise day (c ∷ cs) up = (up.0, follows_rise c.day cs up.2)

in_order_rise : (cs : List Change) → InOrder cs → DaysRise cs
in_order_rise [] up = tt
in_order_rise (c ∷ cs) up = follows_rise c.day cs up.1

rise : (cs : List Change) → ChangesHaveDays cs → DaysRise (dated cs)
rise cs within = in_order_rise (dated cs) (InOrder-dated cs within)

sooner : (early late : ℕ) (cs : List Change) → early ≤ late → RisesFrom late cs → RisesFrom early cs
sooner early late [] before up = tt
sooner early late (c ∷ cs) before up = (let first = up.0 in omega (arith, before, first), up.1)

rest_rises : (c : Change) (cs : List Change) → RisesFrom c.day cs → DaysRise cs
rest_rises c [] up = tt
rest_rises c (d ∷ ds) up = up.1

-- ---- of each day the change that was accepted last

none_of : (day : ℕ) (cs : List Change) → RisesFrom day cs → find (is_of day) cs ≡ None
none_of day [] up = refl
none_of day (c ∷ cs) up =
    let later = up.0 in
    let other : (c.day == day) ≡ false = ne_eqb c.day day (λ same. omega (arith, later, same)) in
    rw other (none_of day cs (sooner day c.day cs (omega (arith, later)) up.1))

or_nothing : (o : Option Change) → option_or o None ≡ o
or_nothing None = refl
or_nothing (Some c) = refl

found_kept : (day : ℕ) (c : Change) (es : List Change) → DaysRise es → find (is_of day) (keep c es) ≡ option_or (find (is_of day) es) (find (is_of day) (c ∷ []))
found_kept day c [] up = refl
found_kept day c (e ∷ es) up = elim (cases_lt c.day e.day) [
  | inl before ↦ rw (lt-ltb c.day e.day before) (elim (cases_eq c.day day) [
    | inl here ↦ let e_later : (e.day == day) ≡ false = ne_eqb e.day day (λ same. omega (arith, before, here, same)) in
        rw (eq-eqb c.day day here, e_later, none_of day es (sooner day e.day es (omega (arith, before, here)) up)) refl
    | inr other ↦ rw (ne_eqb c.day day other) (sym (or_nothing (find (is_of day) (e ∷ es))))
  ])
  | inr late ↦ rw (le-ltb c.day e.day late) (elim (cases_eq c.day e.day) [
    | inl same ↦ rw (eq-eqb c.day e.day same) (elim (cases_eq e.day day) [
      | inl here ↦ rw (eq-eqb e.day day here) refl
      | inr other ↦ let not_c : (c.day == day) ≡ false = ne_eqb c.day day (λ is. other (sym same ∙ is)) in
          rw (ne_eqb e.day day other, not_c) (sym (or_nothing (find (is_of day) es)))
    ])
    | inr apart ↦ rw (ne_eqb c.day e.day apart) (elim (cases_eq e.day day) [
      | inl here ↦ rw (eq-eqb e.day day here) refl
      | inr other ↦ rw (ne_eqb e.day day other) (found_kept day c es (rest_rises e es up))
    ])
  ])
]

last_of : (day : ℕ) (cs : List Change) → ChangesHaveDays cs → find (is_of day) (dated cs) ≡ find (is_of day) (reverse cs)
last_of day [] within = refl
last_of day (c ∷ cs) within =
    found_kept day c (dated cs) (rise cs within.1)
    ∙ ap (λ o. option_or o (find (is_of day) (c ∷ []))) (last_of day cs within.1)
    ∙ sym (find-append (is_of day) (reverse cs) (c ∷ []))
    ∙ sym (ap (find (is_of day)) (reverse_onto cs c []))

pub dated_lists_are_exact : DatedListsAreExact
dated_lists_are_exact changes within = (rise changes within, λ day. last_of day changes within)

-- ---- in force

all_later : (P : Change → Type 0) (day : ℕ) (cs : List Change) → RisesFrom day cs → ((e : Change) → day < e.day → P e) → AllByRecursion P cs
all_later P day [] up each = tt
all_later P day (c ∷ cs) up each = (each c up.0, all_later P day cs (sooner day c.day cs (let first = up.0 in omega (arith, first)) up.1) each)

-- the change that is in force, where the first is not after the day
record IsReached (day : ℕ) (first : Change) (cs : List Change) (c : Change) : Type 0 where
  within : c.day ≤ day
  late : first.day ≤ c.day
  greatest : AllByRecursion (λ e. e.day ≤ day → e.day ≤ c.day) cs
  there : find (is_of c.day) (first ∷ cs) ≡ Some c

reached_first : (day : ℕ) (first : Change) (cs : List Change) → first.day ≤ day → AllByRecursion (λ e. e.day ≤ day → e.day ≤ first.day) cs → IsReached day first cs first
reached_first day first cs early all = record { within = early; late = omega arith; greatest = all; there = rw (eq-eqb first.day first.day refl) refl }

reached : (day : ℕ) (first : Change) (cs : List Change) → first.day ≤ day → RisesFrom first.day cs → IsReached day first cs (in_force day first cs)
reached day first [] early up = reached_first day first [] early tt
reached day first (c ∷ cs) early up = elim (cases_lt day c.day) [
  | inl past ↦
      let no : nat_le c.day day ≡ false = grind (arith, nat_tests) in
      rw no (reached_first day first (c ∷ cs) early (all_later (λ e. e.day ≤ day → e.day ≤ first.day) day (c ∷ cs) (past, up.1) (λ e later within. absurd (omega (arith, later, within)))))
  | inr within ↦
      let yes : nat_le c.day day ≡ true = grind (arith, nat_tests) in
      let next = reached day c cs within up.1 in
      let first_before = up.0 in
      let c_before = next.late in
      let other : (first.day == (in_force day c cs).day) ≡ false = ne_eqb _ _ (λ same. omega (arith, first_before, c_before, same)) in
      rw yes (record {
        within = next.within;
        late = omega (arith, first_before, c_before);
        greatest = (λ e. c_before, next.greatest);
        there = rw other next.there;
      })
]

not_reached : (day : ℕ) (first : Change) (cs : List Change) → day < first.day → RisesFrom first.day cs → in_force day first cs ≡ first
not_reached day first [] late up = refl
not_reached day first (c ∷ cs) late up =
    let before = up.0 in
    let no : nat_le c.day day ≡ false = grind (arith, nat_tests, late, before) in
    rw no refl

force_is : (day : ℕ) (cs : List Change) (c : Change) → DaysRise cs → at day cs ≡ Some c → IsInForce day cs c
force_is day [] c up is = absurd (cc)
force_is day (first ∷ cs) c up is = subst (IsInForce day (first ∷ cs)) (some_is (in_force day first cs) c is) (elim (cases_lt day first.day) [
  | inl late ↦ rw (not_reached day first cs late up) (record {
    there = rw (eq-eqb first.day first.day refl) refl;
    greatest = λ within. absurd (omega (arith, late, within));
    least = λ past. (omega arith, all_later (λ e. first.day ≤ e.day) first.day cs up (λ e later. omega (arith, later)));
  })
  | inr early ↦ let found = reached day first cs early up in record {
    there = found.there;
    greatest = λ within. (λ e. found.late, found.greatest);
    least = λ past. let within = found.within in absurd (omega (arith, past, within));
  }
])

none_accepted : (day : ℕ) (cs : List Change) → at day cs ≡ None → cs ≡ []
none_accepted day [] is = refl
none_accepted day (c ∷ cs) is = absurd (cc)

kept_some : (c : Change) (es : List Change) → keep c es ≡ [] → ⊥
kept_some c [] is = cc
kept_some c (e ∷ es) is = elim (cases_lt c.day e.day) [
  | inl before ↦ let one = rw (lt-ltb c.day e.day before) at is in cc
  | inr late ↦ elim (cases_eq c.day e.day) [
    | inl same ↦ let one = rw (le-ltb c.day e.day late, eq-eqb c.day e.day same) at is in cc
    | inr apart ↦ let one = rw (le-ltb c.day e.day late, ne_eqb c.day e.day apart) at is in cc
  ]
]

none_dated : (cs : List Change) → dated cs ≡ [] → cs ≡ []
none_dated [] is = refl
none_dated (c ∷ cs) is = absurd (kept_some c (dated cs) is)

pub changes_in_force : ChangesInForce
changes_in_force day changes within = (λ c is. force_is day (dated changes) c (rise changes within) is, λ is. none_dated changes (none_accepted day (dated changes) is))
