-- The days at which a member's rows begin.
use Rattle.std.proofs.Common.{◌≡◌, ◌⊎◌, ℕ, suc, ◌+◌, ◌<◌, ◌≤◌, ◌==◌, Bool, true, false, cond, ◌&&◌, ◌||◌, List, [], ◌∷◌, map, Some, refl, sym, ◌∙◌, ap, subst, arith, inl, inr}
use Rattle.std.specs.Prelude.{◌≢◌, slice_get, bytes_eq}
use Rattle.std.specs.List.{list_any, AllByRecursion}
use Rattle.std.proofs.lemmas.Bool.{cases_lt, cases_eq, lt-ltb, le-ltb, eq-eqb, ne_eqb}
use Rattle.std.proofs.lemmas.Slice.Eq.{bytes_eq-Decides}
use Rattle.wh_day.specs.Day.{first_day}
use Rattle.wh_policy.specs.Types.{is_tracked}
use Rattle.wh_policy.specs.declared.attribute.AttributeType.{AttributeType}
use Rattle.wh_history.specs.Slots.{slot, columns_from, picked, are_same}
use Rattle.wh_history.specs.Dated.{keep, dated, at, value_at, said}
use Rattle.wh_history.specs.Rows.{starts, later_starts, same_tracked, spans, row}
use Rattle.wh_history.specs.Profiles.{profile_now}
use Rattle.wh_history.specs.Laws.{IsRecorded, DiffersTracked, BringsAnew, RowsBeginWhereATrackedValueDiffers}
use Rattle.wh_history.specs.declared.member.Change.{Change}
use Rattle.wh_history.specs.declared.member.Member.{Member}
use Rattle.wh_history.proofs.Basics.{texts_decide, or_true}
use Rattle.wh_history.proofs.Joins.{AmongDays, all_dated}
use Rattle.wh_history.proofs.Shown.{same_slot}
use Rattle.wh_history.proofs.Spans.{Follows, InOrder, InOrder-dated}
use Rattle.wh_history.proofs.Until.{any_among, first_among, among_rest}
use Rattle.wh_history.proofs.Walks.{all_own}

pub either : (a b : Bool) → (a || b) ≡ true → (a ≡ true) ⊎ (b ≡ true)
either true b h = inl refl
either false b h = inr h

eq_of : (n m : ℕ) → (n == m) ≡ true → n ≡ m
eq_of n m h = elim (cases_eq n m) [ inl same ↦ same | inr other ↦ let no = ne_eqb n m other in absurd (cc) ]

-- ---- a day of the changes, and of the changes by days

among_any : (day : ℕ) (cs : List Change) → AmongDays day cs → IsRecorded day cs
among_any day [] there = absurd there
among_any day (c ∷ cs) there = elim there [
  | inl same ↦ rw (eq-eqb c.day day same) refl
  | inr later ↦ rw (among_any day cs later) (or_true (c.day == day))
]

among_keep : (day : ℕ) (c : Change) (es : List Change) → AmongDays day (c ∷ es) → AmongDays day (keep c es)
among_keep day c [] there = there
among_keep day c (e ∷ es) there = elim (cases_lt c.day e.day) [
  | inl before ↦ rw (lt-ltb c.day e.day before) there
  | inr late ↦ elim (cases_eq c.day e.day) [
    | inl same ↦ rw (le-ltb c.day e.day late, eq-eqb c.day e.day same) (elim there [ inl here ↦ inl (sym same ∙ here) | inr others ↦ others ])
    | inr other ↦ rw (le-ltb c.day e.day late, ne_eqb c.day e.day other) (elim there [
      | inl here ↦ inr (among_keep day c es (inl here))
      | inr others ↦ elim others [ inl first ↦ inl first | inr rest ↦ inr (among_keep day c es (inr rest)) ]
    ])
  ]
]

among_dated : (day : ℕ) (cs : List Change) → AmongDays day cs → AmongDays day (dated cs)
among_dated day [] there = there
among_dated day (c ∷ cs) there = among_keep day c (dated cs) (elim there [ inl here ↦ inl here | inr later ↦ inr (among_dated day cs later) ])

-- what holds of the days of all changes by days holds of those of all changes
module _ (P : ℕ → Type 0) where
  of_kept : (c : Change) (es : List Change) → AllByRecursion (λ e. P e.day) (keep c es) → P c.day × AllByRecursion (λ e. P e.day) es
  of_kept c [] all = all
  of_kept c (e ∷ es) all = elim (cases_lt c.day e.day) [
    | inl before ↦ rw (lt-ltb c.day e.day before) at all
    | inr late ↦ elim (cases_eq c.day e.day) [
      | inl same ↦ let here : AllByRecursion (λ e. P e.day) (e ∷ es) = rw (le-ltb c.day e.day late, eq-eqb c.day e.day same) at all in (subst P (sym same) here.0, here)
      | inr other ↦
          let both : AllByRecursion (λ e. P e.day) (e ∷ keep c es) = rw (le-ltb c.day e.day late, ne_eqb c.day e.day other) at all in
          let rest = of_kept c es both.1 in
          (rest.0, (both.0, rest.1))
    ]
  ]

  of_dated : (cs : List Change) → AllByRecursion (λ e. P e.day) (dated cs) → AllByRecursion (λ e. P e.day) cs
  of_dated [] all = tt
  of_dated (c ∷ cs) all = let parts = of_kept c (dated cs) all in (parts.0, of_dated cs parts.1)

  at_among : (day : ℕ) (cs : List Change) → AllByRecursion (λ e. P e.day) cs → AmongDays day cs → P day
  at_among day [] all there = absurd there
  at_among day (c ∷ cs) all there = elim there [ inl here ↦ subst P here all.0 | inr later ↦ at_among day cs all.1 later ]

recorded_by_days : (day : ℕ) (cs : List Change) → AmongDays day (dated cs) → IsRecorded day cs
recorded_by_days day cs there = at_among (λ d. IsRecorded d cs) day (dated cs) (all_dated (λ c. IsRecorded c.day cs) cs (each cs)) there
  where
    more : (c d : Change) (ds : List Change) → IsRecorded c.day ds → IsRecorded c.day (d ∷ ds)
    more c d ds h = rw h (or_true (d.day == c.day))

    weaker : (d : Change) (ds es : List Change) → AllByRecursion (λ c. IsRecorded c.day ds) es → AllByRecursion (λ c. IsRecorded c.day (d ∷ ds)) es
    weaker d ds [] all = tt
    weaker d ds (e ∷ es) all = (more e d ds all.0, weaker d ds es all.1)

    each : (es : List Change) → AllByRecursion (λ c. IsRecorded c.day es) es
    each [] = tt
    each (e ∷ es) = (rw (eq-eqb e.day e.day refl) refl, weaker e es es (each es))

-- ---- the changes that bring a tracked value

-- in a list two changes stand one behind the other
abbrev Adjacent : Change → Change → List Change → Type 0
Adjacent p d [] = ⊥
Adjacent p d (c ∷ []) = ⊥
Adjacent p d (c ∷ e ∷ es) = ((c ≡ p) × (e ≡ d)) ⊎ Adjacent p d (e ∷ es)

-- what holds of each holds of both
both_of : (P : Change → Type 0) (p d : Change) (cs : List Change) → AllByRecursion P cs → Adjacent p d cs → P p × P d
both_of P p d [] all next = absurd next
both_of P p d (c ∷ []) all next = absurd next
both_of P p d (c ∷ e ∷ es) all next = elim next [
  | inl here ↦ (subst P here.0 all.0, subst P here.1 all.1.0)
  | inr later ↦ both_of P p d (e ∷ es) all.1 later
]

-- no day lies between theirs
record AreNeighbours (p d : Change) (cs : List Change) : Type 0 where
  less : p.day < d.day
  there : AmongDays p.day cs
  there_too : AmongDays d.day cs
  between : AllByRecursion (λ c. c.day < d.day → c.day ≤ p.day) cs

all_after : (low : ℕ) (P : ℕ → Type 0) (cs : List Change) → Follows low cs → ((day : ℕ) → low < day → P day) → AllByRecursion (λ c. P c.day) cs
all_after low P [] up so = tt
all_after low P (c ∷ cs) up so = (so c.day up.0, all_after c.day P cs up.2 (λ day later. so day (let first = up.0 in omega (arith, first, later))))

neighbours : (p d : Change) (cs : List Change) → InOrder cs → Adjacent p d cs → AreNeighbours p d cs
neighbours p d [] up next = absurd next
neighbours p d (c ∷ []) up next = absurd next
neighbours p d (c ∷ e ∷ es) up next = elim next [
  | inl here ↦ subst (λ q. AreNeighbours q d (c ∷ e ∷ es)) here.0 (subst (λ f. AreNeighbours c f (c ∷ e ∷ es)) here.1 (record {
    less = up.1.0;
    there = inl refl;
    there_too = inr (inl refl);
    between = (λ less. omega arith, (λ less. omega arith, all_after e.day (λ day. day < e.day → day ≤ c.day) es up.1.2 (λ day later less. omega arith)));
  }))
  | inr later ↦
      let rest = neighbours p d (e ∷ es) (up.1.1, up.1.2) later in
      let first = up.1.0 in
      let above = first_among p.day e es up.1.2 rest.there in
      record { less = rest.less; there = inr rest.there; there_too = inr rest.there_too; between = (λ less. omega (arith, first, above), rest.between) }
]

-- of two recorded days with none between, the changes stand one behind the other
record AreOfDays (earlier day : ℕ) (cs : List Change) : Type 0 where
  p : Change
  d : Change
  next : Adjacent p d cs
  p_is : p.day ≡ earlier
  d_is : d.day ≡ day

of_days : (earlier day : ℕ) (cs : List Change) → InOrder cs → earlier < day → AmongDays earlier cs → AmongDays day cs → AllByRecursion (λ e. e.day < day → e.day ≤ earlier) cs → AreOfDays earlier day cs
of_days earlier day [] up less there too between = absurd there
of_days earlier day (c ∷ []) up less there too between = absurd (elim there [
  | inl first ↦ elim too [ inl same ↦ omega (arith, first, same, less) | inr none ↦ none ]
  | inr none ↦ none
])
of_days earlier day (c ∷ e ∷ es) up less there too between =
    let rises = up.1.0 in
    let low = first_among earlier c (e ∷ es) up.1 there in
    let rest = among_rest day c (e ∷ es) (omega (arith, low, less)) too in
    elim (cases_eq c.day earlier) [
      | inl first ↦
          let from = first_among day e es up.1.2 rest in
          let reach : day ≤ e.day = elim (cases_lt e.day day) [ inl short ↦ (let gap = between.1.0 short in omega (arith, gap, first, rises)) | inr far ↦ far ] in
          record { p = c; d = e; next = inl (refl, refl); p_is = first; d_is = omega (arith, from, reach) }
      | inr other ↦
          let later : AmongDays earlier (e ∷ es) = elim there [ inl first ↦ absurd (other first) | inr others ↦ others ] in
          let found = of_days earlier day (e ∷ es) (up.1.1, up.1.2) less later rest between.1 in
          record { p = found.p; d = found.d; next = inr found.next; p_is = found.p_is; d_is = found.d_is }
    ]

-- ---- the slot that differs

record HasOther (kinds : List AttributeType) (from : ℕ) (v w : List (List ℕ)) : Type 0 where
  place : ℕ
  kind : AttributeType
  there : slice_get kinds place ≡ Some kind
  tracked : is_tracked kind ≡ true
  differs : slot v (from + place) ≢ slot w (from + place)

other_slot : (kinds : List AttributeType) (from : ℕ) (v w : List (List ℕ)) → are_same (columns_from (picked is_tracked v) from kinds) (columns_from (picked is_tracked w) from kinds) ≡ false → HasOther kinds from v w
other_slot [] from v w h = absurd cc
other_slot (kind ∷ kinds) from v w h =
    by_first (is_tracked kind) refl (bytes_eq (cond (is_tracked kind) (slot v from) []) (cond (is_tracked kind) (slot w from) [])) refl (λ none. other_slot kinds (suc from) v w none) h
  where
    later : HasOther kinds (suc from) v w → HasOther (kind ∷ kinds) from v w
    later rest = record {
      place = suc rest.place;
      kind = rest.kind;
      there = rest.there;
      tracked = rest.tracked;
      differs = subst (λ n. slot v n ≢ slot w n) (omega arith) rest.differs;
    }

    by_first : (t : Bool) → is_tracked kind ≡ t → (b : Bool) → bytes_eq (cond (is_tracked kind) (slot v from) []) (cond (is_tracked kind) (slot w from) []) ≡ b
        → (are_same (columns_from (picked is_tracked v) (suc from) kinds) (columns_from (picked is_tracked w) (suc from) kinds) ≡ false → HasOther kinds (suc from) v w)
        → b && are_same (columns_from (picked is_tracked v) (suc from) kinds) (columns_from (picked is_tracked w) (suc from) kinds) ≡ false → HasOther (kind ∷ kinds) from v w
    by_first t is true same rest none = later (rest none)
    by_first false is false same rest none = let no : bytes_eq [] [] ≡ false = rw is at same in absurd cc
    by_first true is false same rest none =
        let other : bytes_eq (slot v from) (slot w from) ≡ false = rw is at same in
        record {
          place = 0;
          kind = kind;
          there = refl;
          tracked = is;
          differs = λ (equal : slot v (from + 0) ≡ slot w (from + 0)).
              let whole : from + 0 ≡ from = omega arith in
              let yes = (bytes_eq-Decides (slot v from) (slot w from)).1 (subst (λ n. slot v n ≡ slot w n) whole equal) in cc;
        }

-- ---- the starts of a member's rows

module _ (kinds : List AttributeType) where
  -- a change of the day differs in a tracked value from the one before it
  record TurnsAt (day : ℕ) (cs : List Change) : Type 0 where
    p : Change
    d : Change
    next : Adjacent p d cs
    d_is : d.day ≡ day
    other : same_tracked kinds p d ≡ false

  behind : (day : ℕ) (c e : Change) (es : List Change) → TurnsAt day (e ∷ es) → TurnsAt day (c ∷ e ∷ es)
  behind day c e es turn = record { p = turn.p; d = turn.d; next = inr turn.next; d_is = turn.d_is; other = turn.other }

  any_turns : (day : ℕ) (c : Change) (cs : List Change) → list_any (λ n. n == day) (later_starts kinds c cs) ≡ true → TurnsAt day (c ∷ cs)
  any_turns day c [] any = absurd cc
  any_turns day c (e ∷ es) any =
      elim (same_tracked kinds c e) as (λ b. (same_tracked kinds c e ≡ b) → list_any (λ n. n == day) (cond b (later_starts kinds e es) (e.day ∷ later_starts kinds e es)) ≡ true → TurnsAt day (c ∷ e ∷ es)) [
        | true ↦ λ same later. behind day c e es (any_turns day e es later)
        | false ↦ λ other some. elim (either (e.day == day) (list_any (λ n. n == day) (later_starts kinds e es)) some) [
          | inl here ↦ record { p = c; d = e; next = inl (refl, refl); d_is = eq_of e.day day here; other = other }
          | inr later ↦ behind day c e es (any_turns day e es later)
        ]
      ] refl any

  turns_any : (day : ℕ) (p d : Change) (c : Change) (cs : List Change) → Adjacent p d (c ∷ cs) → d.day ≡ day → same_tracked kinds p d ≡ false → list_any (λ n. n == day) (later_starts kinds c cs) ≡ true
  turns_any day p d c [] next is other = absurd next
  turns_any day p d c (e ∷ es) next is other = elim next [
    | inl here ↦
        let apart : same_tracked kinds c e ≡ false = rw (here.0, here.1) other in
        let of_day : e.day ≡ day = ap (λ (f : Change). f.day) here.1 ∙ is in
        rw (apart, eq-eqb e.day day of_day) refl
    | inr later ↦
        let rest = turns_any day p d e es later is other in
        elim (same_tracked kinds c e) as (λ b. list_any (λ n. n == day) (cond b (later_starts kinds e es) (e.day ∷ later_starts kinds e es)) ≡ true) [
          | true ↦ rest
          | false ↦ rw rest (or_true (e.day == day))
        ]
  ]

  started : (day : ℕ) (cs : List Change) → list_any (λ n. n == day) (starts kinds cs) ≡ true → TurnsAt day cs
  started day [] any = absurd cc
  started day (c ∷ cs) any = any_turns day c cs any

  starts_there : (day : ℕ) (p d : Change) (cs : List Change) → Adjacent p d cs → d.day ≡ day → same_tracked kinds p d ≡ false → list_any (λ n. n == day) (starts kinds cs) ≡ true
  starts_there day p d [] next is other = absurd next
  starts_there day p d (c ∷ cs) next is other = turns_any day p d c cs next is other

  -- ---- by all that was accepted

  own_of : (p d : Change) (cs : List Change) → InOrder cs → Adjacent p d cs → (at p.day cs ≡ Some p) × (at d.day cs ≡ Some d)
  own_of p d cs up next = both_of (λ c. at c.day cs ≡ Some c) p d cs (all_own cs up) next

  differ : (p d : Change) (changes : List Change) → InOrder (dated changes) → Adjacent p d (dated changes) → same_tracked kinds p d ≡ false → DiffersTracked kinds changes p.day d.day
  differ p d changes up next other =
      let found = other_slot kinds 0 p.values d.values other in
      let own = own_of p d (dated changes) up next in
      let whole : 0 + found.place ≡ found.place = omega arith in
      let apart : slot p.values found.place ≢ slot d.values found.place = subst (λ n. slot p.values n ≢ slot d.values n) whole found.differs in
      record {
        place = found.place;
        kind = found.kind;
        there = found.there;
        tracked = found.tracked;
        differs = λ equal. apart (ap (said found.place) (sym own.0) ∙ equal ∙ ap (said found.place) own.1);
      }

  anew : (day : ℕ) (changes : List Change) → InOrder (dated changes) → TurnsAt day (dated changes) → BringsAnew kinds changes day
  anew day changes up turn =
      let near = neighbours turn.p turn.d (dated changes) up turn.next in
      subst (BringsAnew kinds changes) turn.d_is (record {
        recorded = recorded_by_days turn.d.day changes near.there_too;
        earlier = turn.p.day;
        before = record {
          recorded = recorded_by_days turn.p.day changes near.there;
          before = near.less;
          greatest = of_dated (λ day. day < turn.d.day → day ≤ turn.p.day) changes near.between;
        };
        differs = differ turn.p turn.d changes up turn.next turn.other;
      })

  alike : (earlier day : ℕ) (changes : List Change) (p d : Change) → InOrder (dated changes) → Adjacent p d (dated changes) → p.day ≡ earlier → d.day ≡ day → DiffersTracked kinds changes earlier day → same_tracked kinds p d ≡ true → ⊥
  alike earlier day changes p d up next p_is d_is differs same =
      let own = own_of p d (dated changes) up next in
      let slots = same_slot kinds differs.place differs.kind p d differs.there differs.tracked ((texts_decide _ _).0 same) in
      let first : value_at earlier differs.place changes ≡ slot p.values differs.place = subst (λ day. value_at day differs.place changes ≡ slot p.values differs.place) p_is (ap (said differs.place) own.0) in
      let second : value_at day differs.place changes ≡ slot d.values differs.place = subst (λ day. value_at day differs.place changes ≡ slot d.values differs.place) d_is (ap (said differs.place) own.1) in
      differs.differs (first ∙ slots ∙ sym second)

  begun : (day : ℕ) (changes : List Change) → InOrder (dated changes) → BringsAnew kinds changes day → list_any (λ n. n == day) (starts kinds (dated changes)) ≡ true
  begun day changes up brings =
      let earlier = brings.earlier in
      let there = among_dated earlier changes (any_among earlier changes brings.before.recorded) in
      let too = among_dated day changes (any_among day changes brings.recorded) in
      let found = of_days earlier day (dated changes) up brings.before.before there too (all_dated (λ c. c.day < day → c.day ≤ earlier) changes brings.before.greatest) in
      let other : same_tracked kinds found.p found.d ≡ false =
      elim (same_tracked kinds found.p found.d) as (λ b. (same_tracked kinds found.p found.d ≡ b) → b ≡ false) [
        | true ↦ λ same. absurd (alike earlier day changes found.p found.d up found.next found.p_is found.d_is brings.differs same)
        | false ↦ λ apart. refl
      ] refl in
      starts_there day found.p found.d (dated changes) found.next found.d_is other

  -- ---- and the rows

  rows_any : (number : ℕ) (m : Member) (day from : ℕ) (more : List ℕ) → list_any (λ r. r.from_day == day) (map (row kinds number m) (spans from more)) ≡ ((from == day) || list_any (λ n. n == day) more)
  rows_any number m day from [] = refl
  rows_any number m day from (next ∷ more) = ap (λ b. (from == day) || b) (rows_any number m day next more)

pub rows_begin : RowsBeginWhereATrackedValueDiffers
rows_begin kinds combinations m day days =
    let up = InOrder-dated m.changes days in
    let number = profile_now kinds combinations m in
    let any = rows_any kinds number m day first_day (starts kinds (dated m.changes)) in (
      λ begins. elim (either (first_day == day) (list_any (λ n. n == day) (starts kinds (dated m.changes))) (sym any ∙ begins)) [
        | inl first ↦ inl (sym (eq_of first_day day first))
        | inr later ↦ inr (anew kinds day m.changes up (started kinds day (dated m.changes) later))
      ],
      λ brings. any ∙ elim brings [
        | inl first ↦ rw (eq-eqb first_day day (sym first)) refl
        | inr later ↦ rw (begun kinds day m.changes up later) (or_true (first_day == day))
      ],
    )
