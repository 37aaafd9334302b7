-- The members that a batch mentions first.
use Rattle.std.proofs.Common.{◌≡◌, ℕ, ◌+◌, ◌<◌, Bool, true, false, cond, not, ◌||◌, List, [], ◌∷◌, ◌++◌, length, map, nat_lt, Option, Some, None, refl, sym, ◌∙◌, ap, subst, arith, length-append}
use Rattle.std.specs.Prelude.{filter, filter_map, flat_map, bytes_eq, option_map}
use Rattle.std.specs.List.{list_any, AllByRecursion, cons_option}
use Rattle.std.specs.Option.{option_and_then}
use Rattle.std.proofs.lemmas.Bool.{lt-ltb, le-ltb}
use Rattle.std.proofs.lemmas.List.{map-append, length-map}
use Rattle.std.proofs.lemmas.List.Folds.{list_any-append}
use Rattle.std.proofs.lemmas.Slice.Eq.{bytes_eq-Decides}
use Rattle.wh_policy.specs.declared.attribute.Dim.{Dim}
use Rattle.wh_policy.specs.declared.record.DimensionRecord.{DimensionRecord}
use Rattle.wh_history.specs.Keys.{distinct, place, at_place}
use Rattle.wh_history.specs.Accepted.{Accepted, Describes, Anchor, opening_of, anchors_by, anchors_of_record, mentions, members, durable_key, surrogate_key, member_of}
use Rattle.wh_history.specs.Tables as history
use Rattle.wh_history.specs.Touched.{touched_by}
use Rattle.wh_history.specs.declared.member.Member.{Member}
use Rattle.wh_history.proofs.Basics.{or_true}
use Rattle.wh_history.proofs.Batches.{anchors_in}
use Rattle.wh_history.proofs.Growth.{members-append, durable_stays}
use Rattle.wh_history.proofs.Joins.{all_weaker}
use Rattle.wh_history.proofs.Lasts.{not_among}
use Rattle.wh_history.proofs.Members.{place_within}
use Rattle.wh_history.proofs.Numbers.{fresh, distinct-append, place-distinct_none, place-append_behind, place-none_from_append}
use Rattle.wh_history.proofs.Once.{once_distinct}
use Rattle.wh_history.proofs.Owners.{all_distinct}
use Rattle.wh_history.proofs.Places.{place-distinct_given}
use Rattle.wh_history.proofs.Untouched.{mentions-last}
use Rattle.wh_history.proofs.Lists.{filter_twice}
use Rattle.wh_rows.specs.declared.rows.MemberRow.{MemberRow}
use Rattle.wh_model.specs.Defined.{member_at}
use Rattle.wh_plan.specs.BatchRows.{numbers_after}
use Rattle.wh_plan.specs.NewRows.{row_of_member, new_member}
use Rattle.wh_plan.proofs.PlanningLists.{filter_same, fresh_is}
use Rattle.wh_plan.proofs.PlanningPlaces.{filter_map_same, behind_gives, by_number}

-- a natural key is among others
abbrev pub Among : List (List ℕ) → List ℕ → Type 0
Among naturals natural = list_any (λ n. bytes_eq n natural) naturals ≡ true

pub all_among : (naturals : List (List ℕ)) → AllByRecursion (Among naturals) naturals
all_among [] = tt
all_among (n ∷ ns) = (rw ((bytes_eq-Decides n n).1 refl) refl, all_weaker (Among ns) (Among (n ∷ ns)) (λ m t. rw t (or_true (bytes_eq n m))) ns (all_among ns))

abbrev pub naturals : List DimensionRecord → List (List ℕ)
naturals rs = map (λ (r : DimensionRecord). r.natural) rs

abbrev members_in : List Anchor → List (List ℕ)
members_in ms = map (λ (a : Anchor). a.natural) ms

-- a record's opening and day are of one member
once_each : (rs : List DimensionRecord) → distinct bytes_eq (members_in (flat_map anchors_of_record rs)) ≡ distinct bytes_eq (naturals rs)
once_each [] = refl
once_each (r ∷ rs) =
    let rest = once_each rs in
    let p = λ (y : List ℕ). not (bytes_eq r.natural y) in
    let behind_it = filter p (distinct bytes_eq (members_in (flat_map anchors_of_record rs))) in
    let itself : bytes_eq r.natural r.natural ≡ true = (bytes_eq-Decides r.natural r.natural).1 refl in
    let twice : filter p (r.natural ∷ behind_it) ≡ behind_it = ap (λ b. cond (not b) (r.natural ∷ filter p behind_it) (filter p behind_it)) itself ∙ filter_twice p (distinct bytes_eq (members_in (flat_map anchors_of_record rs))) in
    ap (λ ys. r.natural ∷ ys) (twice ∙ ap (filter p) rest)

named_twice : (n : List ℕ) (rs : List DimensionRecord) → Among (naturals rs) n → Among (members_in (flat_map anchors_of_record rs)) n
named_twice n [] h = cc
named_twice n (r ∷ rs) h =
    elim (bytes_eq r.natural n) as (λ b. (b || list_any (λ m. bytes_eq m n) (naturals rs)) ≡ true → (b || (b || list_any (λ m. bytes_eq m n) (members_in (flat_map anchors_of_record rs)))) ≡ true) [
      | true ↦ λ _. refl
      | false ↦ λ t. named_twice n rs t
    ] h

pub twice : {X Y Z : Type 0} (f : Y → Z) (g : X → Y) (o : Option X) → option_map f (option_map g o) ≡ option_and_then (λ x. Some (f (g x))) o
twice f g None = refl
twice f g (Some x) = refl

-- ---- the rows of members whose durable keys are after those that were given

module _ (dim : Dim) (commands after : List Accepted) where
  abbrev is_later : List ℕ → Bool
  is_later n = nat_lt (length (members dim commands)) (durable_key dim after n)

  abbrev row_now : List ℕ → MemberRow
  row_now n = row_of_member dim (member_of dim after n)

  abbrev entry : Bool → MemberRow → Option MemberRow
  entry b r = cond b (Some r) None

  new_rows : (ns : List (List ℕ)) → filter_map (new_member dim (length (members dim commands))) (map (member_of dim after) ns) ≡ map row_now (filter is_later ns)
  new_rows [] = refl
  new_rows (n ∷ ns) =
      let rest = new_rows ns in
      elim (is_later n) as (λ b. cons_option (entry b (row_now n)) (filter_map (new_member dim (length (members dim commands))) (map (member_of dim after) ns)) ≡ map row_now (cond b (n ∷ filter is_later ns) (filter is_later ns))) [
        | true ↦ ap (λ ms. row_now n ∷ ms) rest
        | false ↦ rest
      ]

  abbrev row_under : ℕ → List ℕ → MemberRow
  row_under k n = record { dim = dim; durable = k; natural = n; opening = surrogate_key dim after (opening_of n) }

  at_key : (k : ℕ) → member_at after (record { dim = dim; durable = k }) ≡ option_and_then (λ n. Some (row_under k n)) (at_place k (members dim after))
  at_key k = twice (λ (m : history.MemberRow). record { dim = dim; durable = k; natural = m.natural; opening = m.opening }) (λ n. record { natural = n; opening = surrogate_key dim after (opening_of n) }) (at_place k (members dim after))

  -- where the members grow by those of a list, the member table gets their rows
  pub rows_behind : (ns : List (List ℕ)) → members dim after ≡ members dim commands ++ filter (λ n. nat_lt (length (members dim commands)) (durable_key dim after n)) ns
      → filter_map (new_member dim (length (members dim commands))) (map (member_of dim after) ns) ≡ filter_map (λ n. member_at after (record { dim = dim; durable = n })) (numbers_after (length (members dim commands)) (length (members dim after)))
  rows_behind ns grow =
      let there = members dim commands in
      new_rows ns
      ∙ sym (by_number bytes_eq bytes_eq-Decides row_under (members dim after) there (filter is_later ns) grow (once_distinct bytes_eq bytes_eq-Decides (members_in (mentions dim after))))
      ∙ sym (behind_gives (λ k n. Some (row_under k n)) (members dim after) there (filter is_later ns) grow)
      ∙ sym (filter_map_same (λ k. member_at after (record { dim = dim; durable = k })) (λ k. option_and_then (λ n. Some (row_under k n)) (at_place k (members dim after))) at_key (numbers_after (length there) (length (members dim after))))

  -- and so many
  pub rows_counted : (ns : List (List ℕ)) → members dim after ≡ members dim commands ++ filter (λ n. nat_lt (length (members dim commands)) (durable_key dim after n)) ns
      → length (filter_map (new_member dim (length (members dim commands))) (map (member_of dim after) ns)) + length (members dim commands) ≡ length (members dim after)
  rows_counted ns grow =
      let more = filter is_later ns in
      let many : length (filter_map (new_member dim (length (members dim commands))) (map (member_of dim after) ns)) ≡ length more = ap length (new_rows ns) ∙ length-map more row_now in
      let whole : length (members dim after) ≡ length (members dim commands) + length more = ap length grow ∙ length-append (members dim commands) more in
      omega arith

module _ (dim : Dim) (commands : List Accepted) (c : Accepted) (rs : List DimensionRecord) (is : c.content ≡ Describes dim rs) where
  abbrev after : List Accepted
  after = commands ++ c ∷ []

  abbrev before : List (List ℕ)
  before = members_in (mentions dim commands)

  mentions_now : mentions dim (commands ++ c ∷ []) ≡ mentions dim commands ++ flat_map anchors_of_record rs
  mentions_now = mentions-last dim commands c ∙ ap (λ ms. mentions dim commands ++ ms) (ap (anchors_by dim) is ∙ anchors_in dim commands c.id c.kind c.bytes rs)

  members_now : members_in (mentions dim (commands ++ c ∷ [])) ≡ before ++ members_in (flat_map anchors_of_record rs)
  members_now = ap members_in mentions_now ∙ map-append (λ (a : Anchor). a.natural) (mentions dim commands) (flat_map anchors_of_record rs)

  -- a member that the batch mentions has a durable key
  pub mentioned_given : (n : List ℕ) → Among (naturals rs) n → 0 < durable_key dim (commands ++ c ∷ []) n
  mentioned_given n among =
      let front = list_any (λ m. bytes_eq m n) before in
      let all : Among (members_in (mentions dim after)) n =
      ap (list_any (λ m. bytes_eq m n)) members_now
      ∙ list_any-append (λ m. bytes_eq m n) before (members_in (flat_map anchors_of_record rs))
      ∙ ap (λ b. front || b) (named_twice n rs among) ∙ or_true front in
      place-distinct_given bytes_eq bytes_eq-Decides n (members_in (mentions dim after)) all

  -- and one after all that were given, where nothing mentioned it before
  pub new_is : (n : List ℕ) → Among (naturals rs) n → not (list_any (λ m. bytes_eq m n) before) ≡ nat_lt (length (members dim commands)) (durable_key dim after n)
  new_is n among =
      let count = length (members dim commands) in
      elim (list_any (λ m. bytes_eq m n) before) as (λ b. (list_any (λ m. bytes_eq m n) before ≡ b) → not b ≡ nat_lt count (durable_key dim after n)) [
        | true ↦ λ e.
            let given = place-distinct_given bytes_eq bytes_eq-Decides n before e in
            let same = durable_stays dim commands (c ∷ []) n given in
            let within = place_within bytes_eq n (members dim commands) in
            sym (le-ltb count (durable_key dim after n) (omega (arith, same, within)))
        | false ↦ λ e.
            let none = place-distinct_none bytes_eq n before (not_among bytes_eq bytes_eq-Decides n before e) in
            let whole = members-append dim commands (c ∷ []) in
            let later = fresh bytes_eq before (members dim (c ∷ [])) in
            let there : 0 < place bytes_eq n (members dim commands ++ later) = subst (λ (ms : List (List ℕ)). 0 < place bytes_eq n ms) whole (mentioned_given n among) in
            let given = place-none_from_append bytes_eq n (members dim commands) later none there in
            let number : durable_key dim after n ≡ count + place bytes_eq n later = ap (place bytes_eq n) whole ∙ place-append_behind bytes_eq n (members dim commands) later none given in
            sym (lt-ltb count (durable_key dim after n) (omega (arith, number, given)))
      ] refl

  abbrev is_new : List ℕ → Bool
  is_new n = nat_lt (length (members dim commands)) (durable_key dim after n)

  new_each : (ns : List (List ℕ)) → AllByRecursion (Among (naturals rs)) ns → AllByRecursion (λ n. not (list_any (λ m. bytes_eq m n) before) ≡ is_new n) ns
  new_each [] all = tt
  new_each (n ∷ ns) all = (new_is n all.0, new_each ns all.1)

  -- the members are those that were there, and of the touched ones those with later durable keys
  members_grow : members dim after ≡ members dim commands ++ filter is_new (distinct bytes_eq (naturals rs))
  members_grow =
      let ns = distinct bytes_eq (naturals rs) in
      ap (distinct bytes_eq) members_now
      ∙ distinct-append bytes_eq before (members_in (flat_map anchors_of_record rs))
      ∙ ap (λ ms. members dim commands ++ fresh bytes_eq before ms) (once_each rs)
      ∙ ap (λ ms. members dim commands ++ ms) (fresh_is bytes_eq before ns ∙ filter_same (λ n. not (list_any (λ m. bytes_eq m n) before)) is_new ns (new_each ns (all_distinct (Among (naturals rs)) bytes_eq (naturals rs) (all_among (naturals rs)))))

  -- the rows of the touched members with later durable keys are those that the member table gets
  pub members_planned : filter_map (new_member dim (length (members dim commands))) (touched_by dim commands after rs).list ≡ filter_map (λ n. member_at after (record { dim = dim; durable = n })) (numbers_after (length (members dim commands)) (length (members dim after)))
  members_planned = rows_behind dim commands after (distinct bytes_eq (naturals rs)) members_grow

-- for rows that a call gives
pub new_members_planned : (dim : Dim) (given : ℕ) (touched : List Member) (rows : List MemberRow) → rows ≡ filter_map (new_member dim given) touched
    → (commands : List Accepted) (c : Accepted) (rs : List DimensionRecord) → c.content ≡ Describes dim rs → touched ≡ (touched_by dim commands (commands ++ c ∷ []) rs).list → given ≡ length (members dim commands)
    → rows ≡ filter_map (λ n. member_at (commands ++ c ∷ []) (record { dim = dim; durable = n })) (numbers_after (length (members dim commands)) (length (members dim (commands ++ c ∷ []))))
new_members_planned dim given touched rows made commands c rs is list count =
    made ∙ ap (λ k. filter_map (new_member dim k) touched) count ∙ ap (filter_map (new_member dim (length (members dim commands)))) list ∙ members_planned dim commands c rs is
