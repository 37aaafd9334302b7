-- The members that a batch of sales mentions, and the numbers that the new ones get.
use Rattle.std.proofs.Common.{◌≡◌, ℕ, suc, ◌+◌, ◌<◌, ◌==◌, nat_lt, Bool, true, false, cond, not, ◌||◌, List, [], ◌∷◌, ◌++◌, length, map, Some, None, refl, sym, ◌∙◌, ap, subst, arith, length-append, append-nil}
use Rattle.std.specs.Prelude.{filter, filter_map, flat_map, bytes_eq, option_to_list}
use Rattle.std.specs.Bool.{Decides}
use Rattle.std.specs.List.{list_any, AllByRecursion, cons_option}
use Rattle.std.proofs.lemmas.Bool.{eqb-true, eq-eqb, ne_eqb, lt-ltb, le-ltb}
use Rattle.std.proofs.lemmas.List.{append_assoc, map-append, length-map}
use Rattle.std.proofs.lemmas.List.Elements.{filter-append}
use Rattle.std.proofs.lemmas.Slice.Eq.{bytes_eq-Decides}
use Rattle.wh_policy.specs.declared.attribute.Dim.{Dim}
use Rattle.wh_policy.specs.declared.record.SaleRecord.{SaleRecord}
use Rattle.wh_history.specs.Accepted.{Accepted, Anchor, Sells, same_anchor, opening_of, anchors_by, anchors_of_sale, member_of_sale, mentions, members, anchors, durable_key, surrogate_key, changes_of, member_of}
use Rattle.wh_history.specs.Keys.{distinct, place}
use Rattle.wh_history.specs.Touched.{given_or, grown, with_numbers}
use Rattle.wh_history.specs.declared.member.Member.{Member}
use Rattle.wh_history.proofs.Lasts.{not_among, given_or_is, grown_is}
use Rattle.wh_history.proofs.Members.{place_within}
use Rattle.wh_history.proofs.Numbers.{fresh, distinct-append, place-append_front, place-distinct_none}
use Rattle.wh_history.proofs.Once.{IsOnce, once_distinct}
use Rattle.wh_history.proofs.Places.{anchors_decide, place-distinct_given}
use Rattle.wh_history.proofs.Untouched.{mentions-last}
use Rattle.wh_plan.specs.SoldMembers.{naturals_sold, numbered}
use Rattle.wh_plan.proofs.FoundStored.{member_absent}
use Rattle.wh_model.proofs.GrownChanges.{natural_among}
use Rattle.wh_model.proofs.GrownMembers.{Opened, opened_in_all}
use Rattle.wh_plan.proofs.PlanningLists.{fresh_is}
use Rattle.wh_plan.proofs.PlanningPlaces.{place_here}
use Rattle.wh_plan.proofs.SaleBatches.Selling.{changes_kept}
use Rattle.wh_rows.proofs.Keys.{and-true}

-- ---- lists

filter_alike : {X : Type 0} (p q : X → Bool) → ((x : X) → p x ≡ q x) → (xs : List X) → filter p xs ≡ filter q xs
filter_alike p q same [] = refl
filter_alike p q same (x ∷ xs) = ap (λ b. cond b (x ∷ filter p xs) (filter p xs)) (same x) ∙ ap (λ ys. cond (q x) (x ∷ ys) ys) (filter_alike p q same xs)

filter_mapped : {X Y : Type 0} (p : Y → Bool) (f : X → Y) (xs : List X) → filter p (map f xs) ≡ map f (filter (λ x. p (f x)) xs)
filter_mapped p f [] = refl
filter_mapped p f (x ∷ xs) =
    elim (p (f x)) as (λ b. cond b (f x ∷ filter p (map f xs)) (filter p (map f xs)) ≡ map f (cond b (x ∷ filter (λ x. p (f x)) xs) (filter (λ x. p (f x)) xs))) [
      | true ↦ ap (λ ys. f x ∷ ys) (filter_mapped p f xs)
      | false ↦ filter_mapped p f xs
    ]

pub openings_named : (ns : List (List ℕ)) → map (λ (a : Anchor). a.natural) (map opening_of ns) ≡ ns
openings_named [] = refl
openings_named (n ∷ ns) = ap (λ ms. n ∷ ms) (openings_named ns)

-- openings are as distinct as their members
distinct_opened : (ns : List (List ℕ)) → distinct same_anchor (map opening_of ns) ≡ map opening_of (distinct bytes_eq ns)
distinct_opened [] = refl
distinct_opened (n ∷ ns) =
    let other = λ (a : Anchor). not (same_anchor (opening_of n) a) in
    ap (λ ys. opening_of n ∷ ys)
    (ap (filter other) (distinct_opened ns)
    ∙ filter_mapped other opening_of (distinct bytes_eq ns)
    ∙ ap (map opening_of) (filter_alike (λ m. other (opening_of m)) (λ m. not (bytes_eq n m)) (λ m. ap not (and-true (bytes_eq n m))) (distinct bytes_eq ns)))

-- the openings that sales mention
sales_opened : (dim : Dim) (sales : List SaleRecord) → flat_map (anchors_of_sale dim) sales ≡ map opening_of (filter_map (member_of_sale dim) sales)
sales_opened dim [] = refl
sales_opened dim (s ∷ sales) =
    elim (member_of_sale dim s) as (λ o. map opening_of (option_to_list o) ++ flat_map (anchors_of_sale dim) sales ≡ map opening_of (cons_option o (filter_map (member_of_sale dim) sales))) [
      | None ↦ sales_opened dim sales
      | Some n ↦ ap (λ ys. opening_of n ∷ ys) (sales_opened dim sales)
    ]

-- where a member is mentioned its opening is, as each one's is
opened_named : (ms all : List Anchor) (n : List ℕ) → AllByRecursion (Opened all) ms → list_any (λ m. bytes_eq m n) (map (λ (a : Anchor). a.natural) ms) ≡ true → list_any (λ a. same_anchor a (opening_of n)) all ≡ true
opened_named [] all n opened h = cc
opened_named (m ∷ ms) all n opened h =
    elim (bytes_eq m.natural n) as (λ b. (bytes_eq m.natural n ≡ b) → (b || list_any (λ k. bytes_eq k n) (map (λ (a : Anchor). a.natural) ms)) ≡ true → list_any (λ a. same_anchor a (opening_of n)) all ≡ true) [
      | true ↦ λ e _. subst (λ k. list_any (λ a. same_anchor a (opening_of k)) all ≡ true) ((bytes_eq-Decides m.natural n).0 e) opened.0
      | false ↦ λ _ t. opened_named ms all n opened.1 t
    ] refl h

opening_mentioned : (ms : List Anchor) (n : List ℕ) → AllByRecursion (Opened ms) ms → list_any (λ m. bytes_eq m n) (map (λ (a : Anchor). a.natural) ms) ≡ list_any (λ a. same_anchor a (opening_of n)) ms
opening_mentioned ms n opened =
    elim (list_any (λ m. bytes_eq m n) (map (λ (a : Anchor). a.natural) ms)) as (λ b. (list_any (λ m. bytes_eq m n) (map (λ (a : Anchor). a.natural) ms) ≡ b) → b ≡ list_any (λ a. same_anchor a (opening_of n)) ms) [
      | true ↦ λ e. sym (opened_named ms ms n opened e)
      | false ↦ λ e. elim (list_any (λ a. same_anchor a (opening_of n)) ms) as (λ b. (list_any (λ a. same_anchor a (opening_of n)) ms ≡ b) → false ≡ b) [
        | true ↦ λ t. let there = natural_among (opening_of n) ms t in absurd cc
        | false ↦ λ _. refl
      ] refl
    ] refl

-- ---- numbers

module _ {X : Type 0} (same : X → X → Bool) (decides : (x y : X) → Decides (same x y) (x ≡ y)) where
  number_kept : (there rest : List X) (x : X) (next : ℕ) → 0 < place same x there → given_or (place same x there) next ≡ place same x (there ++ rest)
  number_kept there rest x next given = sym (given_or_is (place same x there) next given) ∙ sym (place-append_front same x there rest given)

  number_new : (there front back : List X) (x : X) → place same x there ≡ 0 → IsOnce same decides ((there ++ front) ++ x ∷ back)
      → given_or (place same x there) (suc (length there + length front)) ≡ place same x ((there ++ front) ++ x ∷ back)
  number_new there front back x none once =
      ap (λ k. given_or k (suc (length there + length front))) none
      ∙ ap suc (sym (length-append there front))
      ∙ sym (place_here same decides (there ++ front) x back once)

module _ (dim : Dim) (commands : List Accepted) (c : Accepted) (sales : List SaleRecord) (is : c.content ≡ Sells sales) where
  abbrev after : List Accepted
  after = commands ++ c ∷ []

  abbrev ns : List (List ℕ)
  ns = naturals_sold dim sales

  abbrev before : List (List ℕ)
  before = map (λ (a : Anchor). a.natural) (mentions dim commands)

  mentions_now : mentions dim after ≡ mentions dim commands ++ map opening_of (filter_map (member_of_sale dim) sales)
  mentions_now = mentions-last dim commands c ∙ ap (λ ms. mentions dim commands ++ ms) (ap (anchors_by dim) is ∙ sales_opened dim sales)

  -- no command before mentions it
  abbrev pub is_new : List ℕ → Bool
  is_new n = durable_key dim commands n == 0

  mentioned_before : (n : List ℕ) → list_any (λ m. bytes_eq m n) before ≡ true → is_new n ≡ false
  mentioned_before n e =
      let given : 0 < durable_key dim commands n = place-distinct_given bytes_eq bytes_eq-Decides n before e in
      ne_eqb (durable_key dim commands n) 0 (λ none. omega (arith, given, none))

  not_mentioned : (n : List ℕ) → list_any (λ m. bytes_eq m n) before ≡ false → durable_key dim commands n ≡ 0
  not_mentioned n e = place-distinct_none bytes_eq n before (not_among bytes_eq bytes_eq-Decides n before e)

  new_test : (n : List ℕ) → not (list_any (λ m. bytes_eq m n) before) ≡ is_new n
  new_test n =
      elim (list_any (λ m. bytes_eq m n) before) as (λ b. (list_any (λ m. bytes_eq m n) before ≡ b) → not b ≡ is_new n) [
        | true ↦ λ e. sym (mentioned_before n e)
        | false ↦ λ e. sym (eq-eqb (durable_key dim commands n) 0 (not_mentioned n e))
      ] refl

  pub members_grow : members dim (commands ++ c ∷ []) ≡ members dim commands ++ filter is_new (naturals_sold dim sales)
  members_grow =
      let ms = filter_map (member_of_sale dim) sales in
      ap (λ as'. distinct bytes_eq (map (λ (a : Anchor). a.natural) as')) mentions_now
      ∙ ap (distinct bytes_eq) (map-append (λ (a : Anchor). a.natural) (mentions dim commands) (map opening_of ms))
      ∙ ap (λ ks. distinct bytes_eq (before ++ ks)) (openings_named ms)
      ∙ distinct-append bytes_eq before ms
      ∙ ap (λ ks. members dim commands ++ ks) (fresh_is bytes_eq before ns ∙ filter_alike (λ n. not (list_any (λ m. bytes_eq m n) before)) is_new new_test ns)

  pub anchors_grow : anchors dim (commands ++ c ∷ []) ≡ anchors dim commands ++ map opening_of (filter is_new (naturals_sold dim sales))
  anchors_grow =
      let ms = filter_map (member_of_sale dim) sales in
      let there = mentions dim commands in
      let unmentioned = λ (a : Anchor). not (list_any (λ b. same_anchor b a) there) in
      ap (distinct same_anchor) mentions_now
      ∙ distinct-append same_anchor there (map opening_of ms)
      ∙ ap (λ as'. anchors dim commands ++ fresh same_anchor there as') (distinct_opened ms)
      ∙ ap (λ as'. anchors dim commands ++ as')
      (fresh_is same_anchor there (map opening_of ns)
      ∙ filter_mapped unmentioned opening_of ns
      ∙ ap (map opening_of) (filter_alike (λ n. unmentioned (opening_of n)) is_new (λ n. ap not (sym (opening_mentioned there n (opened_in_all dim commands))) ∙ new_test n) ns))

  -- a member that isn't new has its numbers
  given_before : (n : List ℕ) → is_new n ≡ false → (0 < durable_key dim commands n) × (0 < surrogate_key dim commands (opening_of n))
  given_before n old =
      elim (list_any (λ m. bytes_eq m n) before) as (λ b. (list_any (λ m. bytes_eq m n) before ≡ b) → (0 < durable_key dim commands n) × (0 < surrogate_key dim commands (opening_of n))) [
        | true ↦ λ e. (
          place-distinct_given bytes_eq bytes_eq-Decides n before e,
          place-distinct_given same_anchor anchors_decide (opening_of n) (mentions dim commands) (sym (opening_mentioned (mentions dim commands) n (opened_in_all dim commands)) ∙ e),
        )
        | false ↦ λ e. let new = eq-eqb (durable_key dim commands n) 0 (not_mentioned n e) in absurd cc
      ] refl

  -- and a new one has none
  pub none_before : (n : List ℕ) → is_new n ≡ true → (durable_key dim commands n ≡ 0) × (surrogate_key dim commands (opening_of n) ≡ 0) × (changes_of dim (commands ++ c ∷ []) n ≡ [])
  none_before n new =
      let none : durable_key dim commands n ≡ 0 = eqb-true (durable_key dim commands n) 0 new in
      let absent = member_absent dim commands n none in
      (none, ap (λ (m : Member). m.opening) absent, changes_kept commands c sales is dim n ∙ ap (λ (m : Member). m.changes) absent)

  split_new : (front left : List (List ℕ)) (n : List ℕ) → front ++ n ∷ left ≡ ns → is_new n ≡ true → filter is_new ns ≡ filter is_new front ++ n ∷ filter is_new left
  split_new front left n split new =
      ap (filter is_new) (sym split) ∙ filter-append is_new front (n ∷ left) ∙ ap (λ b. filter is_new front ++ cond b (n ∷ filter is_new left) (filter is_new left)) new

  members_split : (front left : List (List ℕ)) (n : List ℕ) → front ++ n ∷ left ≡ ns → is_new n ≡ true → members dim after ≡ (members dim commands ++ filter is_new front) ++ n ∷ filter is_new left
  members_split front left n split new =
      members_grow ∙ ap (λ ks. members dim commands ++ ks) (split_new front left n split new) ∙ sym (append_assoc (members dim commands) (filter is_new front) (n ∷ filter is_new left))

  anchors_split : (front left : List (List ℕ)) (n : List ℕ) → front ++ n ∷ left ≡ ns → is_new n ≡ true
      → anchors dim after ≡ (anchors dim commands ++ map opening_of (filter is_new front)) ++ opening_of n ∷ map opening_of (filter is_new left)
  anchors_split front left n split new =
      anchors_grow
      ∙ ap (λ ks. anchors dim commands ++ map opening_of ks) (split_new front left n split new)
      ∙ ap (λ as'. anchors dim commands ++ as') (map-append opening_of (filter is_new front) (n ∷ filter is_new left))
      ∙ sym (append_assoc (anchors dim commands) (map opening_of (filter is_new front)) (opening_of n ∷ map opening_of (filter is_new left)))

  abbrev members_so_far : List (List ℕ) → ℕ
  members_so_far front = length (members dim commands) + length (filter is_new front)

  abbrev anchors_so_far : List (List ℕ) → ℕ
  anchors_so_far front = length (anchors dim commands) + length (filter is_new front)

  durable_new : (front left : List (List ℕ)) (n : List ℕ) → front ++ n ∷ left ≡ ns → is_new n ≡ true → given_or (durable_key dim commands n) (suc (members_so_far front)) ≡ durable_key dim after n
  durable_new front left n split new =
      let whole = members_split front left n split new in
      let once = subst (IsOnce bytes_eq bytes_eq-Decides) whole (once_distinct bytes_eq bytes_eq-Decides (map (λ (a : Anchor). a.natural) (mentions dim after))) in
      number_new bytes_eq bytes_eq-Decides (members dim commands) (filter is_new front) (filter is_new left) n (none_before n new).0 once ∙ ap (place bytes_eq n) (sym whole)

  opening_new : (front left : List (List ℕ)) (n : List ℕ) → front ++ n ∷ left ≡ ns → is_new n ≡ true → given_or (surrogate_key dim commands (opening_of n)) (suc (anchors_so_far front)) ≡ surrogate_key dim after (opening_of n)
  opening_new front left n split new =
      let whole = anchors_split front left n split new in
      let once = subst (IsOnce same_anchor anchors_decide) whole (once_distinct same_anchor anchors_decide (mentions dim after)) in
      ap (λ k. given_or (surrogate_key dim commands (opening_of n)) (suc (length (anchors dim commands) + k))) (sym (length-map (filter is_new front) opening_of))
      ∙ number_new same_anchor anchors_decide (anchors dim commands) (map opening_of (filter is_new front)) (map opening_of (filter is_new left)) (opening_of n) (none_before n new).1 once
      ∙ ap (place same_anchor (opening_of n)) (sym whole)

  durable_old : (n : List ℕ) (next : ℕ) → is_new n ≡ false → given_or (durable_key dim commands n) next ≡ durable_key dim after n
  durable_old n next old = number_kept bytes_eq bytes_eq-Decides (members dim commands) (filter is_new ns) n next (given_before n old).0 ∙ ap (place bytes_eq n) (sym members_grow)

  opening_old : (n : List ℕ) (next : ℕ) → is_new n ≡ false → given_or (surrogate_key dim commands (opening_of n)) next ≡ surrogate_key dim after (opening_of n)
  opening_old n next old =
      number_kept same_anchor anchors_decide (anchors dim commands) (map opening_of (filter is_new ns)) (opening_of n) next (given_before n old).1 ∙ ap (place same_anchor (opening_of n)) (sym anchors_grow)

  -- the first of those that are left
  one_numbered : (front left : List (List ℕ)) (n : List ℕ) → front ++ n ∷ left ≡ ns → with_numbers (members_so_far front) (anchors_so_far front) (member_of dim commands n) ≡ member_of dim after n
  one_numbered front left n split =
      elim (is_new n) as (λ b. (is_new n ≡ b) → with_numbers (members_so_far front) (anchors_so_far front) (member_of dim commands n) ≡ member_of dim after n) [
        | true ↦ λ new. rw (durable_new front left n split new, opening_new front left n split new, changes_kept commands c sales is dim n) refl
        | false ↦ λ old. rw (durable_old n (suc (members_so_far front)) old, opening_old n (suc (anchors_so_far front)) old, changes_kept commands c sales is dim n) refl
      ] refl

  -- and how many have numbers after it
  one_counted : (front : List (List ℕ)) (n : List ℕ) (count number : ℕ) → (is_new n ≡ true → number ≡ 0) → (is_new n ≡ false → 0 < number)
      → grown number (count + length (filter is_new front)) ≡ count + length (filter is_new (front ++ n ∷ []))
  one_counted front n count number none some =
      elim (is_new n) as (λ b. (is_new n ≡ b) → grown number (count + length (filter is_new front)) ≡ count + length (filter is_new front ++ cond b (n ∷ []) [])) [
        | true ↦ λ new.
            let longer : length (filter is_new front ++ n ∷ []) ≡ suc (length (filter is_new front)) = length-append (filter is_new front) (n ∷ []) ∙ omega arith in
            ap (λ k. grown k (count + length (filter is_new front))) (none new) ∙ omega (arith, longer)
        | false ↦ λ old.
            sym (grown_is number (count + length (filter is_new front)) (some old)) ∙ ap (λ ks. count + length ks) (sym (append-nil (filter is_new front)))
      ] refl
      ∙ ap (λ ks. count + length ks) (sym (filter-append is_new front (n ∷ [])))

  numbered_from : (front left : List (List ℕ)) → front ++ left ≡ ns → numbered (members_so_far front) (anchors_so_far front) (map (member_of dim commands) left) ≡ map (member_of dim after) left
  numbered_from front [] split = refl
  numbered_from front (n ∷ left) split =
      let rest = numbered_from (front ++ n ∷ []) left (append_assoc front (n ∷ []) left ∙ split) in
      let members_more = one_counted front n (length (members dim commands)) (durable_key dim commands n) (λ new. (none_before n new).0) (λ old. (given_before n old).0) in
      let anchors_more = one_counted front n (length (anchors dim commands)) (surrogate_key dim commands (opening_of n)) (λ new. (none_before n new).1) (λ old. (given_before n old).1) in
      ap (λ m. m ∷ numbered (grown (durable_key dim commands n) (members_so_far front)) (grown (surrogate_key dim commands (opening_of n)) (anchors_so_far front)) (map (member_of dim commands) left)) (one_numbered front left n split)
      ∙ ap (λ k. member_of dim after n ∷ numbered k (grown (surrogate_key dim commands (opening_of n)) (anchors_so_far front)) (map (member_of dim commands) left)) members_more
      ∙ ap (λ k. member_of dim after n ∷ numbered (members_so_far (front ++ n ∷ [])) k (map (member_of dim commands) left)) anchors_more
      ∙ ap (λ ms. member_of dim after n ∷ ms) rest

  none_yet : (count : ℕ) → count ≡ count + 0
  none_yet count = omega arith

  -- the members with their numbers are as they are after the batch
  pub sold_numbered : numbered (length (members dim commands)) (length (anchors dim commands)) (map (member_of dim commands) (naturals_sold dim sales)) ≡ map (member_of dim (commands ++ c ∷ [])) (naturals_sold dim sales)
  sold_numbered =
      ap (λ k. numbered k (length (anchors dim commands)) (map (member_of dim commands) ns)) (none_yet (length (members dim commands)))
      ∙ ap (λ k. numbered (length (members dim commands) + 0) k (map (member_of dim commands) ns)) (none_yet (length (anchors dim commands)))
      ∙ numbered_from [] ns refl

  -- ---- which of them are new, by the number

  later_from : (front left : List (List ℕ)) → front ++ left ≡ ns → AllByRecursion (λ n. is_new n ≡ nat_lt (length (members dim commands)) (durable_key dim after n)) left
  later_from front [] split = tt
  later_from front (n ∷ left) split =
      let count = length (members dim commands) in
      let here = elim (is_new n) as (λ b. (is_new n ≡ b) → b ≡ nat_lt count (durable_key dim after n)) [
        | true ↦ λ new.
            let number = durable_new front left n split new in
            let first = ap (λ k. given_or k (suc (members_so_far front))) (none_before n new).0 in
            let own : durable_key dim after n ≡ suc (members_so_far front) = sym number ∙ first in
            sym (lt-ltb count (durable_key dim after n) (omega (arith, own)))
        | false ↦ λ old.
            let given = (given_before n old).0 in
            let number : durable_key dim commands n ≡ durable_key dim after n = given_or_is (durable_key dim commands n) 1 given ∙ durable_old n 1 old in
            let within = place_within bytes_eq n (members dim commands) in
            sym (le-ltb count (durable_key dim after n) (omega (arith, number, within)))
      ] refl in
      (here, later_from (front ++ n ∷ []) left (append_assoc front (n ∷ []) left ∙ split))

  pub new_later : AllByRecursion (λ n. is_new n ≡ nat_lt (length (members dim commands)) (durable_key dim (commands ++ c ∷ []) n)) (naturals_sold dim sales)
  new_later = later_from [] ns refl
