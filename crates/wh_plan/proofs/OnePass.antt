-- What one pass over the facts finds of touched members is, of each, what its facts between two days are, and what their rows make of it is what moves.
use Rattle.std.proofs.Common.{◌≡◌, ℕ, ◌<◌, ◌≤◌, ◌==◌, Bool, true, false, cond, nat_le, nat_lt, ◌&&◌, ◌+◌, ◌++◌, List, [], ◌∷◌, drop, get_or, length, map, Option, Some, None, Ordering, Less, Equal, Greater, refl, sym, ap, ap₂, subst, ◌∙◌, arith, append-nil, append_assoc}
use Rattle.std.specs.Prelude.{◌≢◌, filter, filter_map, flat_map, is_some, option_map}
use Rattle.std.specs.Cmp.{ranks, unsigned_tied}
use Rattle.std.specs.FinMap.{FinMap, values}
use Rattle.std.specs.List.{AllByRecursion, cons_option}
use Rattle.std.specs.List.Sorted.{IsPermutation}
use Rattle.std.specs.Option.{option_and_then, option_or, option_to_list}
use Rattle.std.specs.Ordering.{MatchOrdering, is_ge, is_le, nat_cmp}
use Rattle.std.proofs.lemmas.Bool.{and_parts, eq-eqb, eqb-true, le-leb, leb-true, ltb-false, ltb-true}
use Rattle.std.proofs.lemmas.List.Sorted.{IsPermutation-refl, IsPermutation-trans, IsPermutation-append, IsPermutation-append_comm}
use Rattle.sqlite_trees.proofs.ListLemmas.{filter-filter, IsPermutation-filter, IsPermutation-flat_map, IsPermutation-same}
use Rattle.wh_history.specs.Facts.{rekeyed_fact}
use Rattle.wh_history.specs.MovingDays.{moves_since, moves_until}
use Rattle.wh_history.specs.Shapes.{RenderedMember, Shape, rendered_in}
use Rattle.wh_history.specs.declared.facts.Fact.{Fact}
use Rattle.wh_history.specs.declared.member.Member.{Member}
use Rattle.wh_history.proofs.Joins.{all_weaker}
use Rattle.wh_rows.proofs.ColumnLemmas.{both}
use Rattle.wh_rows.specs.Questions.{durable_of, is_sold_between}
use Rattle.wh_rows.specs.Rows as row
use Rattle.wh_rows.specs.Since.{is_sold_of}
use Rattle.wh_rows.specs.declared.key.LineKey.{LineKey}
use Rattle.wh_plan.specs.BatchRows.{AreFacts, AreRekeyed}
use Rattle.wh_plan.specs.MovedFacts.{facts_between, moved_of_touched, pair_of}
use Rattle.wh_plan.specs.OnePass.{AreApart, IsAskedFor, Moving, can_move, earlier, first_moving, is_within, moved_by, moved_fact, moved_of_found, moves_of_fact, moves_on, moving_of, on_day, owner_in}
use Rattle.wh_plan.specs.declared.records.touched.TouchedMember.{TouchedMember}
use Rattle.wh_sql.proofs.Looping.{next_is}
use Rattle.wh_plan.proofs.Lines.{all_permuted, find_permuted, once_permuted}
use Rattle.wh_plan.proofs.MovedLists.{flat_none, moves_of_some}

-- ---- days

not_below : (a b : ℕ) → a < b → nat_le b a ≡ false
not_below a b less = elim (nat_le b a) as (λ t. (nat_le b a ≡ t) → t ≡ false) [ true ↦ λ is. let more = leb-true b a is in absurd (omega (arith, less, more)) | false ↦ λ _. refl ] refl

at_least_is : (a b : ℕ) → is_ge (nat_cmp a b) ≡ nat_le b a
at_least_is a b = go (nat_cmp a b) (ranks a b)
  where
    go : (o : Ordering) → MatchOrdering o (a < b) (a ≡ b) (b < a) → is_ge o ≡ nat_le b a
    go Less less = sym (not_below a b less)
    go Equal same = sym (le-leb b a (omega (arith, same)))
    go Greater more = sym (le-leb b a (omega (arith, more)))

at_most_is : (a b : ℕ) → is_le (nat_cmp a b) ≡ nat_le a b
at_most_is a b = go (nat_cmp a b) (ranks a b)
  where
    go : (o : Ordering) → MatchOrdering o (a < b) (a ≡ b) (b < a) → is_le o ≡ nat_le a b
    go Less less = sym (le-leb a b (omega (arith, less)))
    go Equal same = sym (le-leb a b (omega (arith, same)))
    go Greater more = sym (not_below b a more)

-- ---- a member's part

module _ (shape : Shape) (has : ℕ → ℕ → Bool) (from : ℕ) (t : Member × RenderedMember) where
  -- the facts that a member's days are asked for
  abbrev asked : Fact → Bool
  asked = is_sold_between shape.dim t.1.member.durable (moves_since t.0.changes t.1.member.changes) (moves_until (rendered_in shape t.0) t.1)

  asked_is : (f : Fact) → asked f ≡ can_move shape t f
  asked_is f = ap₂ ◌&&◌ (unsigned_tied t.1.member.durable (durable_of shape.dim f)) (ap₂ ◌&&◌ (at_least_is f.day (moves_since t.0.changes t.1.member.changes)) (at_most_is f.day (moves_until (rendered_in shape t.0) t.1)))

  filter_is : (facts : List Fact) → filter asked facts ≡ filter (can_move shape t) facts
  filter_is [] = refl
  filter_is (f ∷ fs) = ap₂ (λ b l. cond b (f ∷ l) l) (asked_is f) (filter_is fs)

  module _ (given : (day : ℕ) → is_within (moving_of shape t) day ≡ true → has t.1.member.durable day ≡ true) (later : from ≤ moves_since t.0.changes t.1.member.changes) where
    -- a fact that is asked for of a member is among those that are asked for of all
    is_among : (f : Fact) → can_move shape t f ≡ true → is_sold_of has shape.dim from f ≡ true
    is_among f h =
        let its = and_parts (t.1.member.durable == durable_of shape.dim f) (is_within (moving_of shape t) f.day) h in
        let days = and_parts (nat_le (moves_since t.0.changes t.1.member.changes) f.day) (nat_le f.day (moves_until (rendered_in shape t.0) t.1)) its.1 in
        let day = leb-true (moves_since t.0.changes t.1.member.changes) f.day days.0 in
        both (at_least_is f.day from ∙ le-leb from f.day (omega (arith, day, later))) (ap (λ durable. has durable f.day) (sym (eqb-true t.1.member.durable (durable_of shape.dim f) its.0)) ∙ given f.day its.1)

    -- So the part of what was found that is of a member and between its days is, in some order, what the table has of it.
    part_of_found : (table : FinMap row.fact.order Fact) (found : List Fact) → IsPermutation (filter (is_sold_of has shape.dim from) (values table)) found
        → IsPermutation (facts_between table shape.dim t.1.member.durable (moves_since t.0.changes t.1.member.changes) (moves_until (rendered_in shape t.0) t.1)) (filter (can_move shape t) found)
    part_of_found table found same =
        subst (λ l. IsPermutation l (filter (can_move shape t) found)) (filter-filter (can_move shape t) (is_sold_of has shape.dim from) is_among (values table) ∙ sym (filter_is (values table)))
        (IsPermutation-filter (can_move shape t) _ _ same)

-- ---- lists

as_flat_map : {X Y : Type 0} (h : X → Option Y) (xs : List X) → filter_map h xs ≡ flat_map (λ x. option_to_list (h x)) xs
as_flat_map h [] = refl
as_flat_map h (x ∷ xs) = elim (h x) as (λ o. cons_option o (filter_map h xs) ≡ option_to_list o ++ flat_map (λ y. option_to_list (h y)) xs) [ None ↦ as_flat_map h xs | Some y ↦ ap (λ l. y ∷ l) (as_flat_map h xs) ]

pub reordered : {X Y : Type 0} (h : X → Option Y) (xs ys : List X) → IsPermutation xs ys → IsPermutation (filter_map h xs) (filter_map h ys)
reordered h xs ys same = rw (as_flat_map h xs, as_flat_map h ys) (IsPermutation-flat_map (λ x. option_to_list (h x)) xs ys same)

-- four lists, of which the middle ones change places
exchanged : {X : Type 0} (a b c d : List X) → IsPermutation ((a ++ b) ++ (c ++ d)) ((a ++ c) ++ (b ++ d))
exchanged a b c d =
    let inner : IsPermutation (b ++ (c ++ d)) (c ++ (b ++ d)) =
    subst (λ l. IsPermutation l (c ++ (b ++ d))) (append_assoc b c d) (subst (IsPermutation ((b ++ c) ++ d)) (append_assoc c b d) (IsPermutation-append (b ++ c) (c ++ b) d d (IsPermutation-append_comm b c) (IsPermutation-refl d))) in
    subst (λ l. IsPermutation l ((a ++ c) ++ (b ++ d))) (sym (append_assoc a b (c ++ d)))
    (subst (IsPermutation (a ++ (b ++ (c ++ d)))) (sym (append_assoc a c (b ++ d))) (IsPermutation-append a a _ _ (IsPermutation-refl a) inner))

joined : {F X : Type 0} (a b : F → List X) (fs : List F) → IsPermutation (flat_map a fs ++ flat_map b fs) (flat_map (λ f. a f ++ b f) fs)
joined a b [] = IsPermutation-refl []
joined a b (f ∷ fs) = IsPermutation-trans _ _ _ (exchanged (a f) (flat_map a fs) (b f) (flat_map b fs)) (IsPermutation-append _ _ _ _ (IsPermutation-refl (a f ++ b f)) (joined a b fs))

-- what each of one list makes of each of another, in either order
pub turned : {P F X : Type 0} (makes : P → F → List X) (ps : List P) (fs : List F) → IsPermutation (flat_map (λ p. flat_map (makes p) fs) ps) (flat_map (λ f. flat_map (λ p. makes p f) ps) fs)
turned {X = X} makes [] fs = IsPermutation-same [] _ (sym (flat_none {X = X} fs))
turned makes (p ∷ ps) fs = IsPermutation-trans _ _ _ (IsPermutation-append _ _ _ _ (IsPermutation-refl (flat_map (makes p) fs)) (turned makes ps fs)) (joined (makes p) (λ f. flat_map (λ p. makes p f) ps) fs)

-- ---- of all touched members

module _ (shape : Shape) (table : FinMap row.fact.order Fact) (has : ℕ → ℕ → Bool) (from : ℕ) (found : List Fact) (same : IsPermutation (filter (is_sold_of has shape.dim from) (values table)) found) where
  moved_part : (t : Member × RenderedMember) → IsAskedFor shape has from t → IsPermutation (moved_of_touched shape table t) (moved_of_found shape found t)
  moved_part t asked =
      let since = moves_since t.0.changes t.1.member.changes in
      let until = moves_until (rendered_in shape t.0) t.1 in
      elim (nat_lt 0 t.0.durable) as (λ b. (nat_lt 0 t.0.durable ≡ b) → IsPermutation (cond b (filter_map (rekeyed_fact shape t.1) (facts_between table shape.dim t.1.member.durable since until)) []) (cond b (filter_map (rekeyed_fact shape t.1) (filter (can_move shape t) found)) [])) [
        | true ↦ λ stored. let given = asked stored in reordered (rekeyed_fact shape t.1) _ _ (part_of_found shape has from t given.0 given.1 table found same)
        | false ↦ λ _. IsPermutation-refl []
      ] refl

  -- the facts that they move, one member after the other
  moved_parts : (touched : List (Member × RenderedMember)) → AllByRecursion (IsAskedFor shape has from) touched → IsPermutation (flat_map (moved_of_touched shape table) touched) (flat_map (moved_of_found shape found) touched)
  moved_parts [] asked = IsPermutation-refl []
  moved_parts (t ∷ ts) asked = IsPermutation-append _ _ _ _ (moved_part t asked.0) (moved_parts ts asked.1)

  -- one fact after the other
  by_fact : (t : Member × RenderedMember) → moved_of_found shape found t ≡ flat_map (λ f. option_to_list (moved_by shape f t)) found
  by_fact t =
      let to = rekeyed_fact shape t.1 in
      let stands = can_move shape t in
      elim (nat_lt 0 t.0.durable) as (λ b. cond b (filter_map to (filter stands found)) [] ≡ flat_map (λ f. option_to_list (cond (b && stands f) (to f) None)) found) [
        | true ↦ moves_of_some stands to found ∙ as_flat_map (λ f. cond (stands f) (to f) None) found
        | false ↦ sym (flat_none found)
      ]

  each_by_fact : (touched : List (Member × RenderedMember)) → flat_map (moved_of_found shape found) touched ≡ flat_map (λ t. flat_map (λ f. option_to_list (moved_by shape f t)) found) touched
  each_by_fact [] = refl
  each_by_fact (t ∷ ts) = ap (λ l. l ++ flat_map (moved_of_found shape found) ts) (by_fact t) ∙ ap (λ l. flat_map (λ f. option_to_list (moved_by shape f t)) found ++ l) (each_by_fact ts)

  -- So what the touched members make of each fact that was found is, in some order, what the facts of each of them lead to.
  one_pass : (touched : List (Member × RenderedMember)) → AllByRecursion (IsAskedFor shape has from) touched → IsPermutation (flat_map (moved_of_touched shape table) touched) (flat_map (moves_of_fact shape touched) found)
  one_pass touched asked =
      IsPermutation-trans _ _ _ (moved_parts touched asked)
      (subst (λ l. IsPermutation l (flat_map (moves_of_fact shape touched) found)) (sym (each_by_fact touched)) (turned (λ t f. option_to_list (moved_by shape f t)) touched found))

-- ---- by its owner alone

none_owned : (u : Member × RenderedMember) (durable : ℕ) (rest : Option (Member × RenderedMember)) → cond (nat_lt 0 u.0.durable && (u.1.member.durable == durable)) (Some u) rest ≡ None → ((nat_lt 0 u.0.durable && (u.1.member.durable == durable)) ≡ false) × (rest ≡ None)
none_owned u durable rest none =
    elim (nat_lt 0 u.0.durable && (u.1.member.durable == durable)) as (λ b. cond b (Some u) rest ≡ None → (b ≡ false) × (rest ≡ None)) [
      | true ↦ λ some. absurd cc
      | false ↦ λ later. (refl, later)
    ] none

module _ (shape : Shape) (f : Fact) where
  abbrev durable : ℕ
  durable = durable_of shape.dim f

  abbrev gives : Member × RenderedMember → List Fact
  gives t = option_to_list (moved_by shape f t)

  -- what isn't its owner gives nothing
  others_give_none : (us : List (Member × RenderedMember)) → owner_in us durable ≡ None → flat_map gives us ≡ []
  others_give_none [] none = refl
  others_give_none (u ∷ us) none =
      let split = none_owned u durable (owner_in us durable) none in
      go (nat_lt 0 u.0.durable) (u.1.member.durable == durable) split.0 (others_give_none us split.1)
    where
      go : (stored mine : Bool) → (stored && mine) ≡ false → flat_map gives us ≡ [] → option_to_list (cond (stored && (mine && is_within (moving_of shape u) f.day)) (rekeyed_fact shape u.1 f) None) ++ flat_map gives us ≡ []
      go true true other rest = absurd cc
      go true false other rest = rest
      go false mine other rest = rest

  owner_gives : (ts : List (Member × RenderedMember)) → AreApart ts → flat_map gives ts ≡ option_to_list (moved_fact shape (λ d. option_map (moving_of shape) (owner_in ts d)) f)
  owner_gives [] apart = refl
  owner_gives (t ∷ ts) apart =
      go (nat_lt 0 t.0.durable) (t.1.member.durable == durable)
      (λ stored mine. others_give_none ts (ap (owner_in ts) (sym (eqb-true t.1.member.durable durable mine)) ∙ apart.0 stored)) refl refl (owner_gives ts apart.1)
    where
      to : RenderedMember → Option Fact
      to rows = rekeyed_fact shape rows f

      within : (b : Bool) → option_to_list (cond b (rekeyed_fact shape t.1 f) None) ≡ option_to_list (option_and_then (λ rows. rekeyed_fact shape rows f) (cond b (Some t.1) None))
      within true = refl
      within false = refl

      go : (stored mine : Bool) → (nat_lt 0 t.0.durable ≡ true → (t.1.member.durable == durable) ≡ true → flat_map gives ts ≡ []) → nat_lt 0 t.0.durable ≡ stored → (t.1.member.durable == durable) ≡ mine
          → flat_map gives ts ≡ option_to_list (moved_fact shape (λ d. option_map (moving_of shape) (owner_in ts d)) f)
          → option_to_list (cond (stored && (mine && is_within (moving_of shape t) f.day)) (rekeyed_fact shape t.1 f) None) ++ flat_map gives ts
          ≡ option_to_list (option_and_then (λ rows. rekeyed_fact shape rows f) (on_day (option_map (moving_of shape) (cond (stored && mine) (Some t) (owner_in ts durable))) f.day))
      go true true none is_stored is_mine rest =
          ap (λ l. option_to_list (cond (is_within (moving_of shape t) f.day) (rekeyed_fact shape t.1 f) None) ++ l) (none is_stored is_mine) ∙ append-nil _ ∙ within (is_within (moving_of shape t) f.day)
      go true false none is_stored is_mine rest = rest
      go false mine none is_stored is_mine rest = rest

-- ---- what is asked for

-- each that is stored is found by its durable key
found_itself : (ts : List (Member × RenderedMember)) → AreApart ts → AllByRecursion (λ t. nat_lt 0 t.0.durable ≡ true → owner_in ts t.1.member.durable ≡ Some t) ts
found_itself [] apart = tt
found_itself (s ∷ ts) apart = (
  (λ stored. ap₂ (λ a b. cond (a && b) (Some s) (owner_in ts s.1.member.durable)) stored (eq-eqb s.1.member.durable s.1.member.durable refl)),
  all_weaker (λ t. nat_lt 0 t.0.durable ≡ true → owner_in ts t.1.member.durable ≡ Some t) (λ t. nat_lt 0 t.0.durable ≡ true → owner_in (s ∷ ts) t.1.member.durable ≡ Some t) (λ t found stored. behind t (found stored)) ts (found_itself ts apart.1),
)
  where
    behind : (t : Member × RenderedMember) → owner_in ts t.1.member.durable ≡ Some t → owner_in (s ∷ ts) t.1.member.durable ≡ Some t
    behind t found = go (nat_lt 0 s.0.durable) (s.1.member.durable == t.1.member.durable) refl refl
      where
        go : (stored mine : Bool) → nat_lt 0 s.0.durable ≡ stored → (s.1.member.durable == t.1.member.durable) ≡ mine → cond (stored && mine) (Some s) (owner_in ts t.1.member.durable) ≡ Some t
        go true true is_stored is_mine = let none = apart.0 is_stored in let same = ap (owner_in ts) (eqb-true s.1.member.durable t.1.member.durable is_mine) in absurd cc
        go true false is_stored is_mine = found
        go false mine is_stored is_mine = found

-- none is earlier
abbrev IsBound : ℕ → Option ℕ → Type 0
IsBound from None = Unit {0}
IsBound from (Some day) = from ≤ day

earlier_bound : (from day : ℕ) (o : Option ℕ) → from ≤ earlier day o → (from ≤ day) × IsBound from o
earlier_bound from day None h = (h, tt)
earlier_bound from day (Some other) h =
    elim (nat_lt other day) as (λ b. (nat_lt other day ≡ b) → from ≤ cond b other day → (from ≤ day) × (from ≤ other)) [
      | true ↦ λ less bound. let below = ltb-true other day less in (omega (arith, below, bound), bound)
      | false ↦ λ not bound. let above = ltb-false other day not in (bound, omega (arith, above, bound))
    ] refl h

none_before : (from : ℕ) (ts : List (Member × RenderedMember)) → IsBound from (first_moving ts) → AllByRecursion (λ t. nat_lt 0 t.0.durable ≡ true → from ≤ moves_since t.0.changes t.1.member.changes) ts
none_before from [] bound = tt
none_before from (t ∷ ts) bound =
    elim (nat_lt 0 t.0.durable) as (λ b. IsBound from (cond b (Some (earlier (moves_since t.0.changes t.1.member.changes) (first_moving ts))) (first_moving ts)) → (b ≡ true → from ≤ moves_since t.0.changes t.1.member.changes) × AllByRecursion (λ t. nat_lt 0 t.0.durable ≡ true → from ≤ moves_since t.0.changes t.1.member.changes) ts) [
      | true ↦ λ given. let parts = earlier_bound from (moves_since t.0.changes t.1.member.changes) (first_moving ts) given in ((λ _. parts.0), none_before from ts parts.1)
      | false ↦ λ given. ((λ some. absurd cc), none_before from ts given)
    ] bound

-- where no touched member is stored nothing moves
pub none_moves : (shape : Shape) (table : FinMap row.fact.order Fact) (ts : List (Member × RenderedMember)) → first_moving ts ≡ None → flat_map (moved_of_touched shape table) ts ≡ []
none_moves shape table [] none = refl
none_moves shape table (t ∷ ts) none =
    elim (nat_lt 0 t.0.durable) as (λ b. cond b (Some (earlier (moves_since t.0.changes t.1.member.changes) (first_moving ts))) (first_moving ts) ≡ None
    → cond b (filter_map (rekeyed_fact shape t.1) (facts_between table shape.dim t.1.member.durable (moves_since t.0.changes t.1.member.changes) (moves_until (rendered_in shape t.0) t.1))) [] ++ flat_map (moved_of_touched shape table) ts ≡ []) [
      | true ↦ λ some. absurd cc
      | false ↦ λ later. none_moves shape table ts later
    ] none

-- What the members make of the facts that one pass found is, in some order, what the facts of each of them lead to.
pub found_moved : (shape : Shape) (table : FinMap row.fact.order Fact) (touched : List (Member × RenderedMember)) → AreApart touched
    → (movers : ℕ → Option Moving) → ((durable : ℕ) → movers durable ≡ option_map (moving_of shape) (owner_in touched durable))
    → (from : ℕ) → first_moving touched ≡ Some from
    → (found : List Fact) → IsPermutation (filter (is_sold_of (moves_on movers) shape.dim from) (values table)) found
    → (facts : List Fact) → facts ≡ filter_map (moved_fact shape movers) found → IsPermutation (flat_map (moved_of_touched shape table) touched) facts
found_moved shape table touched apart movers are from first found same facts made =
    let bound : IsBound from (first_moving touched) = subst (IsBound from) (sym first) (le_itself from) in
    let asked = all_both touched (found_itself touched apart) (none_before from touched bound) in
    let each : (fs : List Fact) → flat_map (moves_of_fact shape touched) fs ≡ filter_map (moved_fact shape movers) fs = by_owner in
    subst (IsPermutation (flat_map (moved_of_touched shape table) touched)) (each found ∙ sym made) (one_pass shape table (moves_on movers) from found same touched asked)
  where
    joined_option : {X : Type 0} (o : Option X) (xs : List X) → option_to_list o ++ xs ≡ cons_option o xs
    joined_option None xs = refl
    joined_option (Some x) xs = refl

    le_itself : (n : ℕ) → n ≤ n
    le_itself n = omega arith

    day_given : (t : Member × RenderedMember) → movers t.1.member.durable ≡ Some (moving_of shape t) → (day : ℕ) → is_within (moving_of shape t) day ≡ true → moves_on movers t.1.member.durable day ≡ true
    day_given t is day within = ap (λ o. is_some (on_day o day)) is ∙ ap (λ b. is_some (cond b (Some t.1) None)) within

    all_both : (ts : List (Member × RenderedMember)) → AllByRecursion (λ t. nat_lt 0 t.0.durable ≡ true → owner_in touched t.1.member.durable ≡ Some t) ts
        → AllByRecursion (λ t. nat_lt 0 t.0.durable ≡ true → from ≤ moves_since t.0.changes t.1.member.changes) ts → AllByRecursion (IsAskedFor shape (moves_on movers) from) ts
    all_both [] owned bounds = tt
    all_both (t ∷ ts) owned bounds = (
      (λ stored. (day_given t (are t.1.member.durable ∙ ap (option_map (moving_of shape)) (owned.0 stored)), bounds.0 stored)),
      all_both ts owned.1 bounds.1,
    )

    one_owner : (f : Fact) → moves_of_fact shape touched f ≡ option_to_list (moved_fact shape movers f)
    one_owner f = owner_gives shape f touched apart ∙ ap (λ o. option_to_list (option_and_then (λ rows. rekeyed_fact shape rows f) (on_day o f.day))) (sym (are (durable_of shape.dim f)))

    by_owner : (fs : List Fact) → flat_map (moves_of_fact shape touched) fs ≡ filter_map (moved_fact shape movers) fs
    by_owner [] = refl
    by_owner (f ∷ fs) = ap₂ (λ l k. l ++ k) (one_owner f) (by_owner fs) ∙ joined_option (moved_fact shape movers f) (filter_map (moved_fact shape movers) fs)

-- ---- they lead from the facts of the commands to those with the batch, in whatever order

pub facts_again : (before after : LineKey → Option Fact) (facts again : List Fact) → IsPermutation facts again → AreFacts before after facts → AreFacts before after again
facts_again before after facts again same are = record {
  lead = λ key. ap (λ o. option_or o (before key)) (find_permuted row.fact.key facts again same are.once key) ∙ are.lead key;
  needed = all_permuted (λ f. before (row.fact.key f) ≢ Some f) facts again same are.needed;
  once = once_permuted row.fact.key facts again same are.once;
}

pub rekeyed_again : (before : LineKey → Option Fact) (facts again : List Fact) → IsPermutation facts again → AreRekeyed before facts → AreRekeyed before again
rekeyed_again before facts again same are = all_permuted (λ f. (old : Fact) × (before (row.fact.key f) ≡ Some old) × (f ≡ record old { keys = f.keys })) facts again same are

-- ---- with one more touched member

pub owner_more : (shape : Shape) (ts : List TouchedMember) (i : ℕ) (t : TouchedMember) (durable : ℕ) → i < length ts → t ≡ get_or ts i t
    → option_map (moving_of shape) (owner_in (map pair_of (drop i ts)) durable)
    ≡ cond (nat_lt 0 t.stored.now.durable && (t.after.member.now.durable == durable)) (Some (moving_of shape (pair_of t))) (option_map (moving_of shape) (owner_in (map pair_of (drop (i + 1) ts)) durable))
owner_more shape ts i t durable within stands =
    ap (λ us. option_map (moving_of shape) (owner_in (map pair_of us) durable)) (next_is ts i t within stands)
    ∙ chosen (nat_lt 0 t.stored.now.durable && (t.after.member.now.durable == durable))
  where
    rest : Option (Member × RenderedMember)
    rest = owner_in (map pair_of (drop (i + 1) ts)) durable

    chosen : (b : Bool) → option_map (moving_of shape) (cond b (Some (pair_of t)) rest) ≡ cond b (Some (moving_of shape (pair_of t))) (option_map (moving_of shape) rest)
    chosen true = refl
    chosen false = refl
