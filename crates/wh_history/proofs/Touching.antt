-- The place of a member among those that were touched.
use Rattle.std.proofs.Common.{◌≡◌, ◌+◌, ◌-◌, ◌<◌, ℕ, zero, suc, get_or, replicate, Bool, true, false, cond, not, ◌||◌, List, [], ◌∷◌, ◌++◌, map, length, slice_set, Some, refl, sym, ◌∙◌, ap, arith}
use Rattle.std.specs.Prelude.{bytes_eq, find, slice_get, unwrap_or}
use Rattle.std.specs.List.{list_any, position_or_len}
use Rattle.std.proofs.lemmas.Slice.Eq.{bytes_eq-Decides}
use Rattle.wh_policy.specs.declared.record.DimensionRecord.{DimensionRecord}
use Rattle.wh_history.specs.Touched.{TouchedMembers, current, with_stored, with_record, with_member, anchors_with, given_or, grown, touch_member, touch}
use Rattle.wh_history.specs.declared.member.Member.{Member}
use Rattle.wh_history.proofs.Basics.{or_none, first_or}

bytes_eq-swap : (a b : List ℕ) → bytes_eq a b ≡ bytes_eq b a
bytes_eq-swap a b =
    elim (bytes_eq a b) as (λ t. (bytes_eq a b ≡ t) → t ≡ bytes_eq b a) [
      | true ↦ λ e. let is = (bytes_eq-Decides a b).0 e in let back = (bytes_eq-Decides b a).1 (sym is) in sym back
      | false ↦ λ e.
          elim (bytes_eq b a) as (λ t. (bytes_eq b a ≡ t) → false ≡ t) [
            | true ↦ λ f. let is = (bytes_eq-Decides b a).0 f in let back = (bytes_eq-Decides a b).1 (sym is) in cc
            | false ↦ λ f. refl
          ] refl
    ] refl

-- texts that are those of the members' natural keys have the same tests
module _ {K : Type 0} (text : K → List ℕ) (natural : List ℕ) where
  pub index_by : (keys : List K) (list : List Member) → map text keys ≡ map (λ m. m.natural) list → position_or_len (λ y. bytes_eq natural (text y)) keys ≡ position_or_len (λ m. bytes_eq m.natural natural) list
  index_by [] [] is = refl
  index_by [] (m ∷ ms) is = cc
  index_by (k ∷ ks) [] is = cc
  index_by (k ∷ ks) (m ∷ ms) is =
      let here : text k ≡ m.natural = cc in
      let behind : map text ks ≡ map (λ m. m.natural) ms = cc in
      let rest = index_by ks ms behind in
      let test : bytes_eq natural (text k) ≡ bytes_eq m.natural natural = bytes_eq-swap natural (text k) ∙ ap (λ n. bytes_eq n natural) here in
      rw (test, rest) refl

  pub any_by : (keys : List K) (list : List Member) → map text keys ≡ map (λ m. m.natural) list → list_any (λ y. bytes_eq natural (text y)) keys ≡ list_any (λ m. bytes_eq m.natural natural) list
  any_by [] [] is = refl
  any_by [] (m ∷ ms) is = cc
  any_by (k ∷ ks) [] is = cc
  any_by (k ∷ ks) (m ∷ ms) is =
      let here : text k ≡ m.natural = cc in
      let behind : map text ks ≡ map (λ m. m.natural) ms = cc in
      let rest = any_by ks ms behind in
      let test : bytes_eq natural (text k) ≡ bytes_eq m.natural natural = bytes_eq-swap natural (text k) ∙ ap (λ n. bytes_eq n natural) here in
      rw (test, rest) refl

module _ (stored : List ℕ → Member) (natural : List ℕ) where
  abbrev is : Member → Bool
  is m = bytes_eq m.natural natural

  abbrev pub Index : List Member → ℕ
  Index list = position_or_len (λ m. bytes_eq m.natural natural) list

  -- a member that was touched has its natural key, and one that was not is the stored one
  pub current_natural : (list : List Member) → list_any (λ m. bytes_eq m.natural natural) list ≡ true → (current stored list natural).natural ≡ natural
  current_natural [] h = cc
  current_natural (t ∷ ts) h =
      elim (bytes_eq t.natural natural) as (λ b. (bytes_eq t.natural natural ≡ b) → (b || list_any is ts) ≡ true → (unwrap_or (first_or b t (find is ts)) (stored natural)).natural ≡ natural) [
        | true ↦ λ e _. (bytes_eq-Decides t.natural natural).0 e
        | false ↦ λ e later. current_natural ts later
      ] refl h

  pub current_stored : (list : List Member) → list_any (λ m. bytes_eq m.natural natural) list ≡ false → current stored list natural ≡ stored natural
  current_stored [] h = refl
  current_stored (t ∷ ts) h =
      let split = or_none (bytes_eq t.natural natural) (list_any is ts) h in
      rw split.0 (current_stored ts split.1)

  commuted : (b : Bool) (t m : Member) (ts : List Member) → cond b (t ∷ ts) (t ∷ (ts ++ m ∷ [])) ≡ t ∷ cond b ts (ts ++ m ∷ [])
  commuted true t m ts = refl
  commuted false t m ts = refl

  one_more : (n : ℕ) → 1 + n ≡ suc n
  one_more n = omega arith

  -- the member stands at its place
  pub placed : (list : List Member) → slice_get (with_stored stored list natural) (Index list) ≡ Some (current stored list natural)
  placed [] = refl
  placed (t ∷ ts) =
      let rest = placed ts in
      elim (bytes_eq t.natural natural) as (λ b. slice_get (cond (b || list_any is ts) (t ∷ ts) (t ∷ (ts ++ stored natural ∷ []))) (cond (not b) (1 + Index ts) 0) ≡ Some (unwrap_or (first_or b t (find is ts)) (stored natural))) [
        | true ↦ refl
        | false ↦ ap (slice_get (cond (list_any is ts) (t ∷ ts) (t ∷ (ts ++ stored natural ∷ [])))) (one_more (Index ts)) ∙ ap (λ us. slice_get us (suc (Index ts))) (commuted (list_any is ts) t (stored natural) ts) ∙ rest
      ]

  -- and is written there
  pub replaced : (list : List Member) (m : Member) → m.natural ≡ natural → slice_set (with_stored stored list natural) (Index list) m ≡ with_member m list
  replaced [] m same = refl
  replaced (t ∷ ts) m same =
      let rest = replaced ts m same in
      let test : bytes_eq t.natural m.natural ≡ bytes_eq t.natural natural = ap (bytes_eq t.natural) same in
      rw test (elim (bytes_eq t.natural natural) as (λ b. slice_set (cond (b || list_any is ts) (t ∷ ts) (t ∷ (ts ++ stored natural ∷ []))) (cond (not b) (1 + Index ts) 0) m ≡ cond b (m ∷ ts) (t ∷ with_member m ts)) [
        | true ↦ refl
        | false ↦ ap (λ n. slice_set (cond (list_any is ts) (t ∷ ts) (t ∷ (ts ++ stored natural ∷ []))) n m) (one_more (Index ts)) ∙ ap (λ us. slice_set us (suc (Index ts)) m) (commuted (list_any is ts) t (stored natural) ts) ∙ ap (λ us. t ∷ us) rest
      ])

-- what the set tells of a natural key
pub not_new : (new there : Bool) → new ≡ not there → new ≡ false → there ≡ true
not_new new true told is = refl
not_new new false told is = cc

pub is_new : (new there : Bool) → new ≡ not there → new ≡ true → there ≡ false
is_new new true told is = cc
is_new new false told is = refl

get_within : {X : Type 0} (xs : List X) (i : ℕ) (x : X) → slice_get xs i ≡ Some x → i < length xs
get_within [] i x is = cc
get_within (y ∷ ys) zero x is = omega arith
get_within (y ∷ ys) (suc i) x is = let rest = get_within ys i x is in omega arith

get_is : {X : Type 0} (xs : List X) (i : ℕ) (x d : X) → slice_get xs i ≡ Some x → get_or xs i d ≡ x
get_is [] i x d is = cc
get_is (y ∷ ys) zero x d is = cc
get_is (y ∷ ys) (suc i) x d is = get_is ys i x d is

map_set : {X Y : Type 0} (v : X → Y) (xs : List X) (i : ℕ) (x m : X) → slice_get xs i ≡ Some x → v m ≡ v x → map v (slice_set xs i m) ≡ map v xs
map_set v [] i x m is same = cc
map_set v (y ∷ ys) zero x m is same = let here : y ≡ x = cc in ap (λ z. z ∷ map v ys) (same ∙ ap v (sym here))
map_set v (y ∷ ys) (suc i) x m is same = ap (λ zs. v y ∷ zs) (map_set v ys i x m is same)

module _ (stored : List ℕ → Member) (t : TouchedMembers) (r : DimensionRecord) (place : ℕ) (list : List Member) (list_is : list ≡ with_stored stored t.list r.natural) (place_is : place ≡ Index stored r.natural t.list) where
  abbrev here : Member
  here = current stored t.list r.natural

  there : slice_get list place ≡ Some (current stored t.list r.natural)
  there = rw (list_is, place_is) (placed stored r.natural t.list)

  pub place_within : place < length list
  place_within = get_within list place here there

  pub old_is : (old : Member) → old ≡ get_or list place old → old ≡ current stored t.list r.natural
  old_is old is = is ∙ get_is list place here old there

  module _ (old m : Member) (old_at : old ≡ get_or list place old) (named : (current stored t.list r.natural).natural ≡ r.natural) (made : m ≡ with_record t.members t.anchors old r) where
    m_natural : m.natural ≡ old.natural
    m_natural = ap (λ (q : Member). q.natural) made

    pub naturals_stay : map (λ (q : Member). q.natural) (slice_set list place m) ≡ map (λ (q : Member). q.natural) list
    naturals_stay = map_set (λ (q : Member). q.natural) list place here m there (m_natural ∙ ap (λ (q : Member). q.natural) (old_is old old_at))

    -- one record more
    pub touched_one : (a b : ℕ) (owners : List ℕ) → a ≡ grown old.durable t.members → b ≡ anchors_with t.anchors old r → owners ≡ t.owners ++ replicate (b - t.anchors) m.durable
        → record { members = a; anchors = b; owners = owners; list = slice_set list place m } ≡ touch stored t r
    touched_one a b owners members anchors owned =
        let is = old_is old old_at in
        let name : m.natural ≡ r.natural = m_natural ∙ ap (λ (q : Member). q.natural) is ∙ named in
        let durable : m.durable ≡ given_or old.durable (suc t.members) = ap (λ (q : Member). q.durable) made in
        let whole : slice_set list place m ≡ with_member (with_record t.members t.anchors old r) t.list =
        rw (list_is, place_is) (replaced stored r.natural t.list m name) ∙ ap (λ (q : Member). with_member q t.list) made in
        let owners_are : owners ≡ t.owners ++ replicate (anchors_with t.anchors old r - t.anchors) (given_or old.durable (suc t.members)) = owned ∙ rw (anchors, durable) refl in
        rw (members, anchors, owners_are, whole) (ap (λ (q : Member). touch_member t q r) is)
