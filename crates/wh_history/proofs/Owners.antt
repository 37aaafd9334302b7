-- Which members the new anchors of a command belong to.
use Rattle.std.proofs.Common.{◌≡◌, ℕ, suc, ◌-◌, ◌<◌, ◌≤◌, Bool, true, false, cond, not, List, [], ◌∷◌, ◌++◌, map, drop, length, replicate, refl, ◌∙◌, ap, arith, zero, length-append}
use Rattle.std.specs.Prelude.{filter, bytes_eq}
use Rattle.std.specs.List.{list_any, AllByRecursion}
use Rattle.std.proofs.lemmas.List.{map-append, drop-append-le}
use Rattle.std.proofs.lemmas.Slice.Eq.{bytes_eq-Decides}
use Rattle.wh_policy.specs.declared.attribute.Dim.{Dim}
use Rattle.wh_history.specs.Keys.{distinct}
use Rattle.wh_history.specs.Accepted.{Accepted, Anchor, same_anchor, mentions, anchors, durable_key}
use Rattle.wh_history.proofs.Basics.{or_true}
use Rattle.wh_history.proofs.Numbers.{fresh}
use Rattle.wh_history.proofs.Places.{place-distinct_given}
use Rattle.wh_history.proofs.Growth.{anchors-append, durable_stays}
use Rattle.wh_history.proofs.Joins.{all_weaker}

pub all_filtered : {X : Type 0} (P : X → Type 0) (p : X → Bool) (xs : List X) → AllByRecursion P xs → AllByRecursion P (filter p xs)
all_filtered P p [] all = tt
all_filtered P p (x ∷ xs) all =
    let rest = all_filtered P p xs all.1 in
    elim (p x) as (λ b. AllByRecursion P (cond b (x ∷ filter p xs) (filter p xs))) [ true ↦ (all.0, rest) | false ↦ rest ]

pub all_distinct : {X : Type 0} (P : X → Type 0) (same : X → X → Bool) (xs : List X) → AllByRecursion P xs → AllByRecursion P (distinct same xs)
all_distinct P same [] all = tt
all_distinct P same (x ∷ xs) all = (all.0, all_filtered P (λ y. not (same x y)) (distinct same xs) (all_distinct P same xs all.1))

pub all_fresh : {X : Type 0} (P : X → Type 0) (same : X → X → Bool) (xs zs : List X) → AllByRecursion P zs → AllByRecursion P (fresh same xs zs)
all_fresh P same [] zs all = all
all_fresh P same (x ∷ xs) zs all = all_filtered P (λ y. not (same x y)) (fresh same xs zs) (all_fresh P same xs zs all)

all_behind : {X : Type 0} (P : X → Type 0) (n : ℕ) (xs : List X) → AllByRecursion P xs → AllByRecursion P (drop n xs)
all_behind P zero xs all = all
all_behind P (suc n) [] all = tt
all_behind P (suc n) (x ∷ xs) all = all_behind P n xs all.1

map_each : {X Y : Type 0} (f g : X → Y) (xs : List X) → AllByRecursion (λ x. f x ≡ g x) xs → map f xs ≡ map g xs
map_each f g [] all = refl
map_each f g (x ∷ xs) all = let here = all.0 in let rest = map_each f g xs all.1 in cc

map_one : {X Y : Type 0} (f : X → Y) (y : Y) (xs : List X) → AllByRecursion (λ x. f x ≡ y) xs → map f xs ≡ replicate (length xs) y
map_one f y [] all = refl
map_one f y (x ∷ xs) all = let here = all.0 in let rest = map_one f y xs all.1 in cc

abbrev Named : List Anchor → Anchor → Type 0
Named ms a = list_any (λ n. bytes_eq n a.natural) (map (λ (b : Anchor). b.natural) ms) ≡ true

named : (ms : List Anchor) → AllByRecursion (Named ms) ms
named [] = tt
named (m ∷ ms) = (
  rw ((bytes_eq-Decides m.natural m.natural).1 refl) refl,
  all_weaker (Named ms) (Named (m ∷ ms)) (λ a t. rw t (or_true (bytes_eq m.natural a.natural))) ms (named ms),
)

-- the member of each anchor has a durable key
pub owners_given : (dim : Dim) (commands : List Accepted) → AllByRecursion (λ (a : Anchor). 0 < durable_key dim commands a.natural) (anchors dim commands)
owners_given dim commands =
    all_distinct (λ (a : Anchor). 0 < durable_key dim commands a.natural) same_anchor (mentions dim commands)
    (all_weaker (Named (mentions dim commands)) (λ (a : Anchor). 0 < durable_key dim commands a.natural) (λ a t. place-distinct_given bytes_eq bytes_eq-Decides a.natural (map (λ (b : Anchor). b.natural) (mentions dim commands)) t) (mentions dim commands) (named (mentions dim commands)))

module _ (dim : Dim) (old : List Accepted) (c : Accepted) (natural : List ℕ) (one : AllByRecursion (λ (a : Anchor). a.natural ≡ natural) (mentions dim (c ∷ []))) where
  abbrev new : List Anchor
  new = fresh same_anchor (mentions dim old) (anchors dim (c ∷ []))

  abbrev owner : List Accepted → Anchor → ℕ
  owner commands a = durable_key dim commands a.natural

  -- a command that mentions one member gives it all new anchors
  pub owners_more : (count : ℕ) → count ≤ length (anchors dim old)
      → map (λ a. durable_key dim (old ++ c ∷ []) a.natural) (drop count (anchors dim (old ++ c ∷ [])))
      ≡ map (λ a. durable_key dim old a.natural) (drop count (anchors dim old)) ++ replicate (length (anchors dim (old ++ c ∷ [])) - length (anchors dim old)) (durable_key dim (old ++ c ∷ []) natural)
  owners_more count within =
      let after = old ++ c ∷ [] in
      let joined = anchors-append dim old (c ∷ []) in
      let mine : AllByRecursion (λ (a : Anchor). a.natural ≡ natural) new = all_fresh (λ (a : Anchor). a.natural ≡ natural) same_anchor (mentions dim old) (anchors dim (c ∷ [])) (all_distinct (λ (a : Anchor). a.natural ≡ natural) same_anchor (mentions dim (c ∷ [])) one) in
      let stay : AllByRecursion (λ a. owner after a ≡ owner old a) (drop count (anchors dim old)) =
      all_behind (λ a. owner after a ≡ owner old a) count (anchors dim old)
      (all_weaker (λ (a : Anchor). 0 < durable_key dim old a.natural) (λ a. owner after a ≡ owner old a) (λ a given. durable_stays dim old (c ∷ []) a.natural given) (anchors dim old) (owners_given dim old)) in
      let grew : length new ≡ length (anchors dim after) - length (anchors dim old) = let e = ap (λ (xs : List Anchor). length xs) joined ∙ length-append (anchors dim old) new in omega arith in
      ap (λ (xs : List Anchor). map (owner after) (drop count xs)) joined
      ∙ ap (map (owner after)) (drop-append-le count (anchors dim old) new within)
      ∙ map-append (owner after) (drop count (anchors dim old)) new
      ∙ ap (λ ns. ns ++ map (owner after) new) (map_each (owner after) (owner old) (drop count (anchors dim old)) stay)
      ∙ ap (λ ns. map (owner old) (drop count (anchors dim old)) ++ ns) (map_one (owner after) (durable_key dim after natural) new (all_weaker (λ (a : Anchor). a.natural ≡ natural) (λ a. owner after a ≡ durable_key dim after natural) (λ a same. ap (durable_key dim after) same) new mine))
      ∙ ap (λ n. map (owner old) (drop count (anchors dim old)) ++ replicate n (durable_key dim after natural)) grew
