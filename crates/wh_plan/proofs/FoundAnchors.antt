-- How many anchors a dimension has: the greatest number among the last member's opening and its records' anchors.
use Rattle.std.proofs.Common.{◌≡◌, ◌⊎◌, ℕ, suc, ◌<◌, ◌≤◌, ◌==◌, Bool, true, false, cond, not, ◌&&◌, ◌||◌, List, [], ◌∷◌, ◌++◌, map, filter, length, max, is_some, Option, Some, None, refl, sym, ◌∙◌, ap, subst, arith, inl, inr}
use Rattle.std.specs.Prelude.{bytes_eq, flat_map, option_map, option_to_list, unwrap_or}
use Rattle.std.specs.List.{list_any, AllByRecursion}
use Rattle.std.specs.FinMap.{values}
use Rattle.std.proofs.lemmas.Bool.{cases_lt, eqb-true, eq-eqb}
use Rattle.std.proofs.lemmas.List.{append_assoc}
use Rattle.std.proofs.lemmas.List.Elements.{filter-append, filter_agree}
use Rattle.std.proofs.lemmas.Slice.Eq.{bytes_eq-Decides}
use Rattle.wh_policy.specs.declared.attribute.Dim.{Dim}
use Rattle.wh_policy.specs.declared.record.DimensionRecord.{DimensionRecord}
use Rattle.wh_policy.specs.declared.record.SaleRecord.{SaleRecord}
use Rattle.wh_history.specs.Keys.{distinct, at_place}
use Rattle.wh_history.specs.Accepted.{Accepted, Content, Anchor, same_anchor, opening_of, day_of, described, described_by, sold_by, anchors_of_record, anchors_of_sale, anchors_by, member_of_sale, mentions, anchors, members, surrogate_key}
use Rattle.wh_history.specs.Tables.{Limits}
use Rattle.wh_history.proofs.Basics.{some_is, or_true, both_true}
use Rattle.wh_history.proofs.Places.{anchors_decide}
use Rattle.wh_history.proofs.Once.{once_distinct, among_distinct}
use Rattle.wh_history.proofs.Members.{place_within}
use Rattle.wh_history.proofs.Records.{and_false, day_mentioned}
use Rattle.wh_history.proofs.Lists.{filter_twice}
use Rattle.wh_rows.specs.Tables.{Tables}
use Rattle.wh_model.specs.Defined.{AreOf}
use Rattle.wh_plan.specs.Reading.{last_opening}
use Rattle.wh_model.proofs.FoundPlaces.{at_place-map, at_place_among, place_at}
use Rattle.wh_model.proofs.GrownKeys.{at_last}
use Rattle.wh_plan.proofs.FoundMembers.{same_dim}
use Rattle.wh_plan.proofs.FoundChanges.{anchors_read}
use Rattle.wh_rows.proofs.Keys.{and-true}

-- ---- filters

filters_turn : {X : Type 0} (p q : X → Bool) (xs : List X) → filter p (filter q xs) ≡ filter q (filter p xs)
filters_turn p q [] = refl
filters_turn p q (x ∷ xs) =
    let rest = filters_turn p q xs in
    elim (p x) as (λ b. p x ≡ b → filter p (cond (q x) (x ∷ filter q xs) (filter q xs)) ≡ filter q (cond b (x ∷ filter p xs) (filter p xs))) [
      | true ↦ λ e. elim (q x) as (λ c. filter p (cond c (x ∷ filter q xs) (filter q xs)) ≡ cond c (x ∷ filter q (filter p xs)) (filter q (filter p xs))) [
        | true ↦ rw e (ap (λ ys. x ∷ ys) rest)
        | false ↦ rest
      ]
      | false ↦ λ e. elim (q x) as (λ c. filter p (cond c (x ∷ filter q xs) (filter q xs)) ≡ filter q (filter p xs)) [
        | true ↦ rw e rest
        | false ↦ rest
      ]
    ] refl

filter_of_map : {X Y : Type 0} (f : X → Y) (p : Y → Bool) (xs : List X) → filter p (map f xs) ≡ map f (filter (λ x. p (f x)) xs)
filter_of_map f p [] = refl
filter_of_map f p (x ∷ xs) =
    let rest = filter_of_map f p xs in
    elim (p (f x)) as (λ b. cond b (f x ∷ filter p (map f xs)) (filter p (map f xs)) ≡ map f (cond b (x ∷ filter (λ x. p (f x)) xs) (filter (λ x. p (f x)) xs))) [
      | true ↦ ap (λ ys. f x ∷ ys) rest
      | false ↦ rest
    ]

filter_every : {X : Type 0} (p : X → Bool) → ((x : X) → p x ≡ true) → (xs : List X) → filter p xs ≡ xs
filter_every p passes [] = refl
filter_every p passes (x ∷ xs) = rw (passes x) (ap (λ ys. x ∷ ys) (filter_every p passes xs))

-- ---- among the anchors, the openings are those of the members in order

abbrev opens : Anchor → Bool
opens a = not (is_some a.day)

abbrev names : List Anchor → List (List ℕ)
names as' = map (λ (a : Anchor). a.natural) as'

abbrev others : Anchor → Anchor → Bool
others a b = not (same_anchor a b)

abbrev other_names : List ℕ → List ℕ → Bool
other_names n m = not (bytes_eq n m)

abbrev Opens : List Anchor → Type 0
Opens as' = filter opens (distinct same_anchor as') ≡ map opening_of (distinct bytes_eq (names as'))

openings_left : (n : List ℕ) (ms : List (List ℕ)) → filter (others (opening_of n)) (map opening_of ms) ≡ map opening_of (filter (other_names n) ms)
openings_left n ms =
    filter_of_map opening_of (others (opening_of n)) ms
    ∙ ap (map opening_of) (filter_agree (λ m. others (opening_of n) (opening_of m)) (other_names n) (λ m. ap not (and-true (bytes_eq n m))) ms)

-- one more opening in front
opening_first : (n : List ℕ) (as' : List Anchor) (ms : List (List ℕ)) → filter opens (distinct same_anchor as') ≡ map opening_of ms → filter opens (distinct same_anchor (opening_of n ∷ as')) ≡ map opening_of (n ∷ filter (other_names n) ms)
opening_first n as' ms is =
    ap (λ zs. opening_of n ∷ zs) (filters_turn opens (others (opening_of n)) (distinct same_anchor as') ∙ ap (filter (others (opening_of n))) is ∙ openings_left n ms)

-- a day adds no opening
day_first : (n : List ℕ) (day : ℕ) (as' : List Anchor) → Opens as' → filter opens (distinct same_anchor (day_of n day ∷ as')) ≡ map opening_of (distinct bytes_eq (names as'))
day_first n day as' is =
    filters_turn opens (others (day_of n day)) (distinct same_anchor as') ∙ ap (filter (others (day_of n day))) is
    ∙ filter_of_map opening_of (others (day_of n day)) (distinct bytes_eq (names as'))
    ∙ ap (map opening_of) (filter_every (λ m. others (day_of n day) (opening_of m)) (λ m. ap not (and_false (bytes_eq n m))) (distinct bytes_eq (names as')))

name_twice : (n : List ℕ) (ns : List (List ℕ)) → n ∷ filter (other_names n) (distinct bytes_eq ns) ≡ distinct bytes_eq (n ∷ n ∷ ns)
name_twice n ns =
    let itself : other_names n n ≡ false = ap not ((bytes_eq-Decides n n).1 refl) in
    let rest = filter (other_names n) (distinct bytes_eq ns) in
    ap (λ ms. n ∷ ms) (sym (ap (λ b. cond b (n ∷ filter (other_names n) rest) (filter (other_names n) rest)) itself ∙ filter_twice (other_names n) (distinct bytes_eq ns)))

opens_records : (rs : List DimensionRecord) (as' : List Anchor) → Opens as' → Opens (flat_map anchors_of_record rs ++ as')
opens_records [] as' is = is
opens_records (r ∷ rs) as' is =
    let rest = flat_map anchors_of_record rs ++ as' in
    opening_first r.natural (day_of r.natural r.day ∷ rest) (distinct bytes_eq (names rest)) (day_first r.natural r.day rest (opens_records rs as' is))
    ∙ ap (map opening_of) (name_twice r.natural (names rest))

opens_one : (o : Option (List ℕ)) (as' : List Anchor) → Opens as' → Opens (map opening_of (option_to_list o) ++ as')
opens_one None as' is = is
opens_one (Some n) as' is = opening_first n as' (distinct bytes_eq (names as')) is

module _ (dim : Dim) where
  opens_sales : (sales : List SaleRecord) (as' : List Anchor) → Opens as' → Opens (flat_map (anchors_of_sale dim) sales ++ as')
  opens_sales [] as' is = is
  opens_sales (s ∷ sales) as' is =
      let rest = flat_map (anchors_of_sale dim) sales in
      subst Opens (sym (append_assoc (anchors_of_sale dim s) rest as')) (opens_one (member_of_sale dim s) (rest ++ as') (opens_sales sales as' is))

  opens_by : (content : Content) (as' : List Anchor) → Opens as' → Opens (anchors_by dim content ++ as')
  opens_by content as' is =
      subst Opens (sym (append_assoc (flat_map anchors_of_record (described_by dim content)) (flat_map (anchors_of_sale dim) (sold_by content)) as'))
      (opens_records (described_by dim content) (flat_map (anchors_of_sale dim) (sold_by content) ++ as') (opens_sales (sold_by content) as' is))

  opens_all : (commands : List Accepted) → Opens (mentions dim commands)
  opens_all [] = refl
  opens_all (c ∷ cs) = opens_by c.content (mentions dim cs) (opens_all cs)

  pub openings_are : (commands : List Accepted) → filter opens (anchors dim commands) ≡ map opening_of (members dim commands)
  openings_are commands = opens_all commands

-- ---- the last anchor

last_of : {X : Type 0} (xs : List X) → 0 < length xs → (front : List X) × (x : X) × (xs ≡ front ++ x ∷ [])
last_of [] some = absurd (omega arith)
last_of (x ∷ []) some = ([], x, refl)
last_of (x ∷ y ∷ ys) some = let rest = last_of (y ∷ ys) (omega arith) in (x ∷ rest.0, rest.1, ap (λ zs. x ∷ zs) rest.2)

length_map : {X Y : Type 0} (f : X → Y) (xs : List X) → length (map f xs) ≡ length xs
length_map f [] = refl
length_map f (x ∷ xs) = ap suc (length_map f xs)

abbrev make_anchor : List ℕ → Option ℕ → Anchor
make_anchor natural day = record { natural = natural; day = day }

module _ (dim : Dim) (commands : List Accepted) where
  abbrev count : ℕ
  count = length (anchors dim commands)

  -- where the last anchor is an opening, it is that of the last member
  last_is_opening : (front : List Anchor) (a : Anchor) → anchors dim commands ≡ front ++ a ∷ [] → a.day ≡ None → last_opening dim commands ≡ surrogate_key dim commands a
  last_is_opening front a ends opening =
      let passes : opens a ≡ true = ap (λ d. not (is_some d)) opening in
      let kept : filter opens (front ++ a ∷ []) ≡ filter opens front ++ a ∷ [] = filter-append opens front (a ∷ []) ∙ ap (λ b. filter opens front ++ cond b (a ∷ []) []) passes in
      let listed : map opening_of (members dim commands) ≡ filter opens front ++ a ∷ [] = sym (openings_are dim commands) ∙ ap (filter opens) ends ∙ kept in
      let size : length (members dim commands) ≡ length (filter opens front ++ a ∷ []) = sym (length_map opening_of (members dim commands)) ∙ ap (λ (xs : List Anchor). length xs) listed in
      let last : option_map opening_of (at_place (length (members dim commands)) (members dim commands)) ≡ Some a =
      sym (at_place-map opening_of (length (members dim commands)) (members dim commands)) ∙ ap (at_place (length (members dim commands))) listed ∙ ap (λ n. at_place n (filter opens front ++ a ∷ [])) size ∙ at_last (filter opens front) a in
      by_member (at_place (length (members dim commands)) (members dim commands)) last
    where
      by_member : (o : Option (List ℕ)) → option_map opening_of o ≡ Some a → unwrap_or (option_map (λ natural. surrogate_key dim commands (opening_of natural)) o) 0 ≡ surrogate_key dim commands a
      by_member None is = absurd (cc)
      by_member (Some natural) is = ap (surrogate_key dim commands) (some_is _ _ is)

  opening_within : (o : Option (List ℕ)) → unwrap_or (option_map (λ natural. surrogate_key dim commands (opening_of natural)) o) 0 ≤ length (anchors dim commands)
  opening_within None = omega arith
  opening_within (Some natural) = place_within same_anchor (opening_of natural) (anchors dim commands)

  abbrev anchor_of : DimensionRecord → ℕ
  anchor_of r = surrogate_key dim commands (day_of r.natural r.day)

  days_within : (rs : List DimensionRecord) → AllByRecursion (λ n. n ≤ length (anchors dim commands)) (map anchor_of rs)
  days_within [] = tt
  days_within (r ∷ rs) = (place_within same_anchor (day_of r.natural r.day) (anchors dim commands), days_within rs)

  day_among : (key : ℕ) (natural : List ℕ) (day : ℕ) (rs : List DimensionRecord) → surrogate_key dim commands (day_of natural day) ≡ key → list_any (λ (r : DimensionRecord). bytes_eq r.natural natural && (r.day == day)) rs ≡ true → list_any (λ n. n == key) (map anchor_of rs) ≡ true
  day_among key natural day [] is h = cc
  day_among key natural day (r ∷ rs) is h =
      elim (bytes_eq r.natural natural && (r.day == day)) as (λ b. ((bytes_eq r.natural natural && (r.day == day)) ≡ b) → (b || list_any (λ (r : DimensionRecord). bytes_eq r.natural natural && (r.day == day)) rs) ≡ true → ((anchor_of r == key) || list_any (λ n. n == key) (map anchor_of rs)) ≡ true) [
        | true ↦ λ e _.
            let both = both_true (bytes_eq r.natural natural) (r.day == day) e in
            let name = (bytes_eq-Decides r.natural natural).0 both.0 in
            let same = eqb-true r.day day both.1 in
            rw (eq-eqb (anchor_of r) key (ap (λ (n : List ℕ). surrogate_key dim commands (day_of n r.day)) name ∙ ap (λ (d : ℕ). surrogate_key dim commands (day_of natural d)) same ∙ is)) refl
        | false ↦ λ e later. rw (day_among key natural day rs is later) (or_true (anchor_of r == key))
      ] refl h

  -- the last anchor's number is that of the last opening, or of a record
  last_among : (a : Anchor) → at_place (length (anchors dim commands)) (anchors dim commands) ≡ Some a → (front : List Anchor) → anchors dim commands ≡ front ++ a ∷ []
      → (last_opening dim commands ≡ length (anchors dim commands)) ⊎ (list_any (λ n. n == length (anchors dim commands)) (map anchor_of (described dim commands)) ≡ true)
  last_among a at front ends = by_day a.day refl
    where
      number : surrogate_key dim commands a ≡ length (anchors dim commands)
      number = place_at same_anchor anchors_decide (length (anchors dim commands)) (anchors dim commands) a (once_distinct same_anchor anchors_decide (mentions dim commands)) at

      by_day : (day : Option ℕ) → a.day ≡ day → (last_opening dim commands ≡ length (anchors dim commands)) ⊎ (list_any (λ n. n == length (anchors dim commands)) (map anchor_of (described dim commands)) ≡ true)
      by_day None opening = inl (last_is_opening front a ends opening ∙ number)
      by_day (Some day) on =
          let is : a ≡ day_of a.natural day = ap (make_anchor a.natural) on in
          let stands = at_place_among (λ b. same_anchor b a) (length (anchors dim commands)) (anchors dim commands) a at ((anchors_decide a a).1 refl) in
          let mentioned = sym (among_distinct same_anchor anchors_decide a (mentions dim commands)) ∙ stands in
          let told = sym (day_mentioned dim a.natural day commands) ∙ ap (λ (b : Anchor). list_any (λ c. same_anchor c b) (mentions dim commands)) (sym is) ∙ mentioned in
          inr (day_among (length (anchors dim commands)) a.natural day (described dim commands) (ap (surrogate_key dim commands) (sym is) ∙ number) told)

-- ---- the greatest number

module _ (greatest : List ℕ → ℕ) (of_none : greatest [] ≡ 0) (of_more : (n : ℕ) (ns : List ℕ) → greatest (n ∷ ns) ≡ max n (greatest ns)) where
  greatest_within : (top : ℕ) (ns : List ℕ) → AllByRecursion (λ n. n ≤ top) ns → greatest ns ≤ top
  greatest_within top [] all = omega arith
  greatest_within top (n ∷ ns) all =
      let rest = greatest_within top ns all.1 in
      let here = all.0 in
      let more = of_more n ns in
      omega arith

  greatest_above : (key : ℕ) (ns : List ℕ) → list_any (λ n. n == key) ns ≡ true → key ≤ greatest ns
  greatest_above key [] h = cc
  greatest_above key (n ∷ ns) h =
      let more = of_more n ns in
      elim (n == key) as (λ b. ((n == key) ≡ b) → (b || list_any (λ n. n == key) ns) ≡ true → key ≤ greatest (n ∷ ns)) [
        | true ↦ λ e _. let is = eqb-true n key e in omega arith
        | false ↦ λ e later. let rest = greatest_above key ns later in omega arith
      ] refl h

  module _ (limits : Limits) (commands : List Accepted) (t : Tables) (are : AreOf limits commands t) (dim : Dim) where
    abbrev days : List ℕ
    days = map (anchor_of dim commands) (described dim commands)

    greatest_is : max (last_opening dim commands) (greatest days) ≡ length (anchors dim commands)
    greatest_is =
        let low = opening_within dim commands (at_place (length (members dim commands)) (members dim commands)) in
        let within = greatest_within (length (anchors dim commands)) days (days_within dim commands (described dim commands)) in
        elim (cases_lt 0 (length (anchors dim commands))) [
          | inr none ↦ omega arith
          | inl some ↦
              let last = last_of (anchors dim commands) some in
              let at : at_place (length (anchors dim commands)) (anchors dim commands) ≡ Some last.1 = ap (λ (xs : List Anchor). at_place (length xs) xs) last.2 ∙ at_last last.0 last.1 in
              elim (last_among dim commands last.1 at last.0 last.2) [
                | inl opening ↦ omega arith
                | inr told ↦ let high = greatest_above (length (anchors dim commands)) days told in omega arith
              ]
        ]

    -- the anchors of a dimension are counted by the greater of the last member's opening and the greatest anchor of its rows in change
    pub anchors_counted : max (last_opening dim commands) (greatest (map (λ r. r.anchor) (filter (λ r. same_dim dim r.dim) (values t.change)))) ≡ length (anchors dim commands)
    anchors_counted = ap (λ ns. max (last_opening dim commands) (greatest ns)) (anchors_read limits commands t are dim) ∙ greatest_is
