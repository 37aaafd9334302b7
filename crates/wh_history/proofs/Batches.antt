-- A batch is its records, one after the other.
use Rattle.std.proofs.Common.{◌≡◌, ℕ, true, false, cond, ◌||◌, List, [], ◌∷◌, ◌++◌, length, map, drop, replicate, ◌-◌, ◌≤◌, suc, arith, length-append, refl, sym, ◌∙◌, ap, subst, append-nil, Option, Some, None}
use Rattle.std.specs.Prelude.{filter, bytes_eq, find, unwrap_or, flat_map}
use Rattle.std.specs.List.{list_any, AllByRecursion}
use Rattle.std.proofs.lemmas.Slice.Eq.{bytes_eq-Decides}
use Rattle.std.proofs.lemmas.Grind.{flat_map-append}
use Rattle.std.proofs.lemmas.List.{map-append, append_assoc, drop_all}
use Rattle.wh_history.specs.Keys.{distinct, place}
use Rattle.wh_history.specs.Laws.{mentions_member}
use Rattle.wh_history.specs.Accepted.{Accepted, Describes, Anchor, same_anchor, opening_of, day_of, anchors_by, anchors_of_record, mentions, described, described_by, anchors, members, member_of}
use Rattle.wh_policy.specs.declared.record.DimensionRecord.{DimensionRecord}
use Rattle.wh_policy.specs.declared.attribute.Dim.{Dim}
use Rattle.wh_history.specs.declared.member.Member.{Member}
use Rattle.wh_history.proofs.Numbers.{distinct-append}
use Rattle.wh_history.proofs.Untouched.{mentions-last, described-last, member-last}
use Rattle.wh_history.proofs.Basics.{or_none, first_or}
use Rattle.wh_day.specs.Value.{none_text}
use Rattle.wh_history.specs.Slots.{padded}
use Rattle.wh_history.proofs.Lasts.{fresh_one}
use Rattle.wh_history.proofs.Once.{IsOnce, among_distinct, once_distinct, apart}
use Rattle.wh_history.specs.Touched.{grown, anchor_of_day, with_record, TouchedMembers, current, with_member, touch_member, touch, touched, untouched, touched_by, given_or}
use Rattle.wh_history.proofs.Growth.{anchors-append}
use Rattle.wh_history.proofs.Owners as behind
use Rattle.wh_history.proofs.Records.{durable_after, member_after, members_after, anchors_after}

pub same_dimension : (dim : Dim) (rs : List DimensionRecord) → described_by dim (Describes dim rs) ≡ rs
same_dimension dim rs = elim dim as (λ d. described_by d (Describes d rs) ≡ rs) [ Dim.Product ↦ refl | Dim.Store ↦ refl | Dim.Customer ↦ refl ]

no_less : (xs ys zs : List Anchor) → xs ≡ ys ++ zs → length ys ≤ length xs
no_less xs ys zs e = let n = ap (λ (as' : List Anchor). length as') e ∙ length-append ys zs in omega arith

-- a member, by what was mentioned and said of its dimension
abbrev member_by : List Anchor → List DimensionRecord → List ℕ → Member
member_by mentioned told natural = record {
  durable = place bytes_eq natural (distinct bytes_eq (map (λ a. a.natural) mentioned));
  natural = natural;
  opening = place same_anchor (opening_of natural) (distinct same_anchor mentioned);
  changes = map (λ r. record { day = r.day; anchor = place same_anchor (day_of r.natural r.day) (distinct same_anchor mentioned); values = padded none_text r.values }) (filter (λ r. bytes_eq r.natural natural) told);
}

-- two lists with the same mentions and records have the same members
pub member_same : (dim : Dim) (a b : List Accepted) → mentions dim a ≡ mentions dim b → described dim a ≡ described dim b → (natural : List ℕ) → member_of dim a natural ≡ member_of dim b natural
member_same dim a b mentioned told natural = ap (λ ms. member_by ms (described dim a) natural) mentioned ∙ ap (λ rs. member_by (mentions dim b) rs natural) told

module _ (dim : Dim) (commands : List Accepted) (id kind bytes : List ℕ) where
  abbrev pub batch : List DimensionRecord → Accepted
  batch rs = record { id = id; kind = kind; bytes = bytes; content = Describes dim rs }

  abbrev pub after : List DimensionRecord → List Accepted
  after rs = commands ++ batch rs ∷ []

  pub anchors_in : (rs : List DimensionRecord) → anchors_by dim (Describes dim rs) ≡ flat_map anchors_of_record rs
  anchors_in rs = ap (λ (qs : List DimensionRecord). flat_map anchors_of_record qs ++ []) (same_dimension dim rs) ∙ append-nil (flat_map anchors_of_record rs)

  pub mentions_after : (rs : List DimensionRecord) → mentions dim (after rs) ≡ mentions dim commands ++ flat_map anchors_of_record rs
  mentions_after rs = mentions-last dim commands (batch rs) ∙ ap (λ ms. mentions dim commands ++ ms) (anchors_in rs)

  pub described_after : (rs : List DimensionRecord) → described dim (after rs) ≡ described dim commands ++ rs
  described_after rs = described-last dim commands (batch rs) ∙ ap (λ qs. described dim commands ++ qs) (same_dimension dim rs)

  -- the batch with a record more mentions and tells what the record does after the batch
  mentions_more : (rs : List DimensionRecord) (r : DimensionRecord) → mentions dim (after (rs ++ r ∷ [])) ≡ mentions dim (after rs ++ batch (r ∷ []) ∷ [])
  mentions_more rs r =
      mentions_after (rs ++ r ∷ [])
      ∙ ap (λ ms. mentions dim commands ++ ms) (flat_map-append anchors_of_record rs (r ∷ []))
      ∙ sym (append_assoc (mentions dim commands) (flat_map anchors_of_record rs) (flat_map anchors_of_record (r ∷ [])))
      ∙ ap (λ ms. ms ++ flat_map anchors_of_record (r ∷ [])) (sym (mentions_after rs))
      ∙ sym (mentions-last dim (after rs) (batch (r ∷ [])) ∙ ap (λ ms. mentions dim (after rs) ++ ms) (anchors_in (r ∷ [])))

  described_more : (rs : List DimensionRecord) (r : DimensionRecord) → described dim (after (rs ++ r ∷ [])) ≡ described dim (after rs ++ batch (r ∷ []) ∷ [])
  described_more rs r =
      described_after (rs ++ r ∷ [])
      ∙ sym (append_assoc (described dim commands) rs (r ∷ []))
      ∙ ap (λ qs. qs ++ r ∷ []) (sym (described_after rs))
      ∙ sym (described-last dim (after rs) (batch (r ∷ [])) ∙ ap (λ qs. described dim (after rs) ++ qs) (same_dimension dim (r ∷ [])))

  member_more : (rs : List DimensionRecord) (r : DimensionRecord) (natural : List ℕ) → member_of dim (after (rs ++ r ∷ [])) natural ≡ member_of dim (after rs ++ batch (r ∷ []) ∷ []) natural
  member_more rs r = member_same dim (after (rs ++ r ∷ [])) (after rs ++ batch (r ∷ []) ∷ []) (mentions_more rs r) (described_more rs r)

  -- the batch mentions the members of its records
  not_mentioned : (natural : List ℕ) (rs : List DimensionRecord) → list_any (λ n. bytes_eq n natural) (map (λ (r : DimensionRecord). r.natural) rs) ≡ false → list_any (λ a. bytes_eq a.natural natural) (flat_map anchors_of_record rs) ≡ false
  not_mentioned natural [] h = refl
  not_mentioned natural (r ∷ rs) h =
      let split = or_none (bytes_eq r.natural natural) (list_any (λ n. bytes_eq n natural) (map (λ (r : DimensionRecord). r.natural) rs)) h in
      rw (split.0, not_mentioned natural rs split.1) refl

  pub unmentioned : (natural : List ℕ) (rs : List DimensionRecord) → list_any (λ n. bytes_eq n natural) (map (λ (r : DimensionRecord). r.natural) rs) ≡ false → mentions_member dim (batch rs) natural ≡ false
  unmentioned natural rs h = ap (list_any (λ a. bytes_eq a.natural natural)) (anchors_in rs) ∙ not_mentioned natural rs h

  pub member_stays : (natural : List ℕ) (rs : List DimensionRecord) → list_any (λ n. bytes_eq n natural) (map (λ (r : DimensionRecord). r.natural) rs) ≡ false → member_of dim (after rs) natural ≡ member_of dim commands natural
  member_stays natural rs h = member-last dim commands (batch rs) natural (unmentioned natural rs h)

  -- where the batch stands after some of its records
  abbrev pub state : List DimensionRecord → TouchedMembers
  state rs = touched_by dim commands (after rs) rs

  abbrev pub naturals : List DimensionRecord → List (List ℕ)
  naturals rs = map (λ r. r.natural) rs

  abbrev M : List DimensionRecord → List ℕ → Member
  M rs = member_of dim (after rs)

  found_there : (rs : List DimensionRecord) (n : List ℕ) (ns : List (List ℕ)) → list_any (λ m. bytes_eq m n) ns ≡ true → find (λ (m : Member). bytes_eq m.natural n) (map (M rs) ns) ≡ Some (M rs n)
  found_there rs n [] h = cc
  found_there rs n (m ∷ ns) h =
      elim (bytes_eq m n) as (λ b. (bytes_eq m n ≡ b) → (b || list_any (λ m. bytes_eq m n) ns) ≡ true → first_or b (M rs m) (find (λ (m : Member). bytes_eq m.natural n) (map (M rs) ns)) ≡ Some (M rs n)) [
        | true ↦ λ e _. ap (λ (m : List ℕ). Some (M rs m)) ((bytes_eq-Decides m n).0 e)
        | false ↦ λ e t. found_there rs n ns t
      ] refl h

  found_nowhere : (rs : List DimensionRecord) (n : List ℕ) (ns : List (List ℕ)) → list_any (λ m. bytes_eq m n) ns ≡ false → find (λ (m : Member). bytes_eq m.natural n) (map (M rs) ns) ≡ None
  found_nowhere rs n [] h = refl
  found_nowhere rs n (m ∷ ns) h =
      let split = or_none (bytes_eq m n) (list_any (λ m. bytes_eq m n) ns) h in
      rw (split.0, found_nowhere rs n ns split.1) refl

  current_is : (rs : List DimensionRecord) (n : List ℕ) → current (member_of dim commands) (map (M rs) (distinct bytes_eq (naturals rs))) n ≡ M rs n
  current_is rs n =
      elim (list_any (λ m. bytes_eq m n) (naturals rs)) as (λ b. (list_any (λ m. bytes_eq m n) (naturals rs) ≡ b) → current (member_of dim commands) (map (M rs) (distinct bytes_eq (naturals rs))) n ≡ M rs n) [
        | true ↦ λ e. ap (λ (o : Option Member). unwrap_or o (member_of dim commands n)) (found_there rs n (distinct bytes_eq (naturals rs)) (among_distinct bytes_eq bytes_eq-Decides n (naturals rs) ∙ e))
        | false ↦ λ e. ap (λ (o : Option Member). unwrap_or o (member_of dim commands n)) (found_nowhere rs n (distinct bytes_eq (naturals rs)) (among_distinct bytes_eq bytes_eq-Decides n (naturals rs) ∙ e)) ∙ sym (member_stays n rs e)
      ] refl

  same_elsewhere : (rs qs : List DimensionRecord) (n : List ℕ) → ((m : List ℕ) → bytes_eq m n ≡ false → M rs m ≡ M qs m) → (ns : List (List ℕ)) → list_any (λ m. bytes_eq m n) ns ≡ false → map (M rs) ns ≡ map (M qs) ns
  same_elsewhere rs qs n others [] none = refl
  same_elsewhere rs qs n others (m ∷ ns) none =
      let split = or_none (bytes_eq m n) (list_any (λ m. bytes_eq m n) ns) none in
      ap (λ (t : Member). t ∷ map (M rs) ns) (others m split.0) ∙ ap (λ ts. M qs m ∷ ts) (same_elsewhere rs qs n others ns split.1)

  -- the member after a record takes its place
  placed : (rs qs : List DimensionRecord) (n : List ℕ) → ((m : List ℕ) → bytes_eq m n ≡ false → M rs m ≡ M qs m) → (ns : List (List ℕ)) → IsOnce bytes_eq bytes_eq-Decides ns → with_member (M qs n) (map (M rs) ns) ≡ map (M qs) (ns ++ cond (list_any (λ m. bytes_eq m n) ns) [] (n ∷ []))
  placed rs qs n others [] once = refl
  placed rs qs n others (m ∷ ns) once =
      elim (bytes_eq m n) as (λ b. (bytes_eq m n ≡ b) → cond b (M qs n ∷ map (M rs) ns) (M rs m ∷ with_member (M qs n) (map (M rs) ns)) ≡ M qs m ∷ map (M qs) (ns ++ cond (b || list_any (λ m. bytes_eq m n) ns) [] (n ∷ []))) [
        | true ↦ λ e.
            let is = (bytes_eq-Decides m n).0 e in
            let none : list_any (λ k. bytes_eq k n) ns ≡ false = subst (λ (k : List ℕ). list_any (λ j. bytes_eq j k) ns ≡ false) is once.0 in
            let rest : map (M rs) ns ≡ map (M qs) (ns ++ []) = same_elsewhere rs qs n others ns none ∙ ap (map (M qs)) (sym (append-nil ns)) in
            ap (λ (k : List ℕ). M qs k ∷ map (M rs) ns) (sym is) ∙ ap (λ ts. M qs m ∷ ts) rest
        | false ↦ λ e.
            ap (λ (t : Member). t ∷ with_member (M qs n) (map (M rs) ns)) (others m e) ∙ ap (λ ts. M qs m ∷ ts) (placed rs qs n others ns once.1)
      ] refl

  -- the owners of anchors past some, by what was mentioned
  abbrev owners_by : ℕ → List Anchor → List ℕ
  owners_by count mentioned = map (λ a. place bytes_eq a.natural (distinct bytes_eq (map (λ (b : Anchor). b.natural) mentioned))) (drop count (distinct same_anchor mentioned))

  module _ (rs : List DimensionRecord) (r : DimensionRecord) where
    abbrev more : List DimensionRecord
    more = rs ++ r ∷ []

    itself_more : M (rs ++ r ∷ []) r.natural ≡ with_record (length (members dim (after rs))) (length (anchors dim (after rs))) (M rs r.natural) r
    itself_more = member_more rs r r.natural ∙ member_after dim (after rs) id kind bytes r

    others_more : (m : List ℕ) → bytes_eq m r.natural ≡ false → M rs m ≡ M (rs ++ r ∷ []) m
    others_more m e =
        let e' = apart bytes_eq bytes_eq-Decides m r.natural e in
        sym (member_more rs r m ∙ member-last dim (after rs) (batch (r ∷ [])) m (unmentioned m (r ∷ []) (rw e' refl)))

    members_more : length (members dim (after (rs ++ r ∷ []))) ≡ grown (M rs r.natural).durable (length (members dim (after rs)))
    members_more = ap (λ ms. length (distinct bytes_eq (map (λ (a : Anchor). a.natural) ms))) (mentions_more rs r) ∙ members_after dim (after rs) id kind bytes r

    anchors_more : length (anchors dim (after (rs ++ r ∷ []))) ≡ grown (anchor_of_day r.day (M rs r.natural).changes) (grown (M rs r.natural).opening (length (anchors dim (after rs))))
    anchors_more = ap (λ ms. length (distinct same_anchor ms)) (mentions_more rs r) ∙ anchors_after dim (after rs) id kind bytes r

    naturals_more : distinct bytes_eq (naturals (rs ++ r ∷ [])) ≡ distinct bytes_eq (naturals rs) ++ cond (list_any (λ m. bytes_eq m r.natural) (distinct bytes_eq (naturals rs))) [] (r.natural ∷ [])
    naturals_more =
        ap (distinct bytes_eq) (map-append (λ (r : DimensionRecord). r.natural) rs (r ∷ []))
        ∙ distinct-append bytes_eq (naturals rs) (r.natural ∷ [])
        ∙ ap (λ ns. distinct bytes_eq (naturals rs) ++ ns) (fresh_one bytes_eq bytes_eq-Decides r.natural (naturals rs))
        ∙ ap (λ b. distinct bytes_eq (naturals rs) ++ cond b [] (r.natural ∷ [])) (sym (among_distinct bytes_eq bytes_eq-Decides r.natural (naturals rs)))

    -- the new anchors are the record's, so their owner is its member
    owners_more : (state rs).owners ++ replicate (length (anchors dim (after (rs ++ r ∷ []))) - length (anchors dim (after rs))) (given_or (M rs r.natural).durable (suc (length (members dim (after rs))))) ≡ (state (rs ++ r ∷ [])).owners
    owners_more =
        let count = length (anchors dim commands) in
        let within : count ≤ length (anchors dim (after rs)) = no_less (anchors dim (after rs)) (anchors dim commands) _ (anchors-append dim commands (batch rs ∷ [])) in
        let one : AllByRecursion (λ (a : Anchor). a.natural ≡ r.natural) (mentions dim (batch (r ∷ []) ∷ [])) = rw (append-nil (anchors_by dim (Describes dim (r ∷ []))), anchors_in (r ∷ [])) (refl, (refl, tt)) in
        let grown_by : length (anchors dim (after (rs ++ r ∷ []))) ≡ length (anchors dim (after rs ++ batch (r ∷ []) ∷ [])) = ap (λ ms. length (distinct same_anchor ms)) (mentions_more rs r) in
        let durable = durable_after dim (after rs) id kind bytes r in
        ap (λ n. (state rs).owners ++ replicate (n - length (anchors dim (after rs))) (given_or (M rs r.natural).durable (suc (length (members dim (after rs)))))) grown_by
        ∙ ap (λ n. (state rs).owners ++ replicate (length (anchors dim (after rs ++ batch (r ∷ []) ∷ [])) - length (anchors dim (after rs))) n) (sym durable)
        ∙ sym (behind.owners_more dim (after rs) (batch (r ∷ [])) r.natural one count within)
        ∙ ap (owners_by count) (sym (mentions_more rs r))

    list_more : with_member (with_record (length (members dim (after rs))) (length (anchors dim (after rs))) (M rs r.natural) r) (map (M rs) (distinct bytes_eq (naturals rs))) ≡ map (M (rs ++ r ∷ [])) (distinct bytes_eq (naturals (rs ++ r ∷ [])))
    list_more =
        ap (λ (m : Member). with_member m (map (M rs) (distinct bytes_eq (naturals rs)))) (sym itself_more)
        ∙ placed rs (rs ++ r ∷ []) r.natural others_more (distinct bytes_eq (naturals rs)) (once_distinct bytes_eq bytes_eq-Decides (naturals rs))
        ∙ ap (map (M (rs ++ r ∷ []))) (sym naturals_more)

    touch_is : touch (member_of dim commands) (state rs) r ≡ state (rs ++ r ∷ [])
    touch_is =
        ap (λ (m : Member). touch_member (state rs) m r) (current_is rs r.natural)
        ∙ rw (sym members_more, sym anchors_more, list_more, owners_more) refl

  touched_from : (done rs : List DimensionRecord) → touched (member_of dim commands) (state done) rs ≡ state (done ++ rs)
  touched_from done [] = ap state (sym (append-nil done))
  touched_from done (r ∷ rs) =
      ap (λ t. touched (member_of dim commands) t rs) (touch_is done r) ∙ touched_from (done ++ r ∷ []) rs ∙ ap state (append_assoc done (r ∷ []) rs)

  -- nothing of the batch yet
  abbrev pub start : TouchedMembers
  start = untouched (length (members dim commands)) (length (anchors dim commands))

  mentions_none : mentions dim (after []) ≡ mentions dim commands
  mentions_none = mentions_after [] ∙ append-nil (mentions dim commands)

  start_is : start ≡ state []
  start_is =
      let members_none : length (members dim (after [])) ≡ length (members dim commands) = ap (λ ms. length (distinct bytes_eq (map (λ (a : Anchor). a.natural) ms))) mentions_none in
      let anchors_none : length (anchors dim (after [])) ≡ length (anchors dim commands) = ap (λ ms. length (distinct same_anchor ms)) mentions_none in
      let none : drop (length (anchors dim commands)) (anchors dim (after [])) ≡ [] = drop_all (length (anchors dim commands)) (anchors dim (after [])) (omega (arith, anchors_none)) in
      rw (none, sym members_none, sym anchors_none) refl

  -- the loop over a batch's records, from what is stored, ends with the members of the list with the batch
  pub touched_is : (rs : List DimensionRecord) → touched (member_of dim commands) start rs ≡ state rs
  touched_is rs = ap (λ t. touched (member_of dim commands) t rs) start_is ∙ touched_from [] rs
