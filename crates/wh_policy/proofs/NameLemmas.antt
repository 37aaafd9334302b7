-- The slot of a name.
use Rattle.std.proofs.Common.{◌≡◌, ◌≢◌, ℕ, zero, suc, ◌+◌, ◌<◌, ◌≤◌, true, false, List, [], ◌∷◌, ◌++◌, map, length, drop, get_or, Some, None, refl, sym, ap, ◌∙◌, arith, inl, inr}
use Rattle.std.specs.List.{All, AllPairs, slice_get}
use Rattle.std.specs.Str.{bytes_eq}
use Rattle.std.proofs.lemmas.Bool.{cases_Bool, and_parts, and_from, false≢true, both_ways, false_from_ne_true}
use Rattle.std.proofs.lemmas.List.Elements.{All-nil, All-cons}
use Rattle.std.proofs.lemmas.Option.{same_Some, none-some, some_pair_parts, slice_get_within, get_or_from_slice_get}
use Rattle.std.proofs.lemmas.Slice.Eq.{bytes_eq-Decides}
use Rattle.std.proofs.lemmas.List.{drop_more, drop_all}
use Rattle.wh_policy.specs.declared.attribute.Attribute.{Attribute}
use Rattle.wh_policy.specs.Attributes.{is_named}
use Rattle.wh_policy.specs.Laws.{StandsAt}
use Rattle.wh_policy.specs.Names.{slot_from, are_kept}
use Rattle.wh_policy.specs.Types.{attribute_type_number}
use Rattle.wh_policy.proofs.WrittenLemmas.{same_bytes, AllPairs-first, AllPairs-rest}

pub slot-here : (attributes : List Attribute) (i : ℕ) (a : Attribute) (name : List ℕ) → i < length attributes → a ≡ get_or attributes i a → is_named name a ≡ true
    → slot_from (i + 1) name (drop i attributes) ≡ Some (i + 1, attribute_type_number a.kind)
unfolding slot_from
slot-here attributes i a name lt is same = let here = rw (← is) at (drop_more attributes i a lt) in rw (here, same) refl

pub slot-next : (attributes : List Attribute) (i : ℕ) (a : Attribute) (name : List ℕ) → i < length attributes → a ≡ get_or attributes i a → is_named name a ≡ false
    → slot_from (i + 1) name (drop i attributes) ≡ slot_from (i + 1 + 1) name (drop (i + 1) attributes)
unfolding slot_from
slot-next attributes i a name lt is other = let here = rw (← is) at (drop_more attributes i a lt) in rw (here, other) refl

pub slot-none : (attributes : List Attribute) (i : ℕ) (name : List ℕ) → length attributes ≤ i → slot_from (i + 1) name (drop i attributes) ≡ None
unfolding slot_from
slot-none attributes i name le = rw (drop_all i attributes le) refl

named : (a : Attribute) (name : List ℕ) → a.name ≡ name → is_named name a ≡ true
named a name same = (bytes_eq-Decides a.name name).1 same

not_named : (a : Attribute) (name : List ℕ) → a.name ≢ name → is_named name a ≡ false
not_named a name other = false_from_ne_true _ (λ same. other (same_bytes a.name name same))

-- what is found stands there
pub found_stands : (first : ℕ) (name : List ℕ) (attributes : List Attribute) (slot number : ℕ) → slot_from first name attributes ≡ Some (slot, number)
    → (place : ℕ) × (slot ≡ first + place) × StandsAt attributes place name number
unfolding slot_from
found_stands first name [] slot number e = absurd (none-some _ e)
found_stands first name (a ∷ attributes) slot number e = elim (cases_Bool (is_named name a)) [
  | inl here ↦
      let parts = some_pair_parts first slot (attribute_type_number a.kind) number (rw here at e) in
      (0, omega (arith, parts.0), record { attribute = a; there = refl; same_name = same_bytes a.name name here; same_type = parts.1 })
  | inr later ↦
      let (place, is, stands) = found_stands (first + 1) name attributes slot number (rw later at e) in
      (suc place, omega (arith, is), record { attribute = stands.attribute; there = stands.there; same_name = stands.same_name; same_type = stands.same_type })
]

-- what stands there is found
pub stands_found : (first : ℕ) (name : List ℕ) (attributes : List Attribute) (place number : ℕ) → AllPairs (λ a b. a.name ≢ b.name) attributes → StandsAt attributes place name number
    → slot_from first name attributes ≡ Some (first + place, number)
unfolding slot_from
stands_found first name [] place number distinct h = absurd (none-some _ h.there)
stands_found first name (a ∷ attributes) zero number distinct h =
    let same : a ≡ h.attribute = same_Some a h.attribute h.there in
    let here = named a name (ap (λ (b : Attribute). b.name) same ∙ h.same_name) in
    let kind : attribute_type_number a.kind ≡ number = ap (λ (b : Attribute). attribute_type_number b.kind) same ∙ h.same_type in
    let slot : first ≡ first + 0 = omega arith in
    rw (here, kind) (ap (λ (n : ℕ). Some (n, number)) slot)
stands_found first name (a ∷ attributes) (suc place) number distinct h =
    let there : slice_get attributes place ≡ Some h.attribute = h.there in
    let apart = AllPairs-first (λ (x y : Attribute). x.name ≢ y.name) a attributes distinct place a (slice_get_within attributes place h.attribute there) in
    let differs : a.name ≢ h.attribute.name = rw (get_or_from_slice_get attributes place h.attribute a there) at apart in
    let other = not_named a name (λ same. differs (same ∙ sym h.same_name)) in
    let more = stands_found (first + 1) name attributes place number (AllPairs-rest (λ (x y : Attribute). x.name ≢ y.name) a attributes distinct)
    (record { attribute = h.attribute; there = there; same_name = h.same_name; same_type = h.same_type }) in
    let slot : first + 1 + place ≡ first + suc place = omega arith in
    rw (other, more) (ap (λ (n : ℕ). Some (n, number)) slot)

pub none_stands : (first : ℕ) (name : List ℕ) (attributes : List Attribute) → slot_from first name attributes ≡ None → All (λ a. a.name ≢ name) attributes
unfolding slot_from
none_stands first name [] e = All-nil (λ (a : Attribute). a.name ≢ name)
none_stands first name (a ∷ attributes) e = elim (cases_Bool (is_named name a)) [
  | inl here ↦ absurd (none-some _ (sym (rw here at e)))
  | inr later ↦ All-cons (λ (b : Attribute). b.name ≢ name) a attributes (λ same. both_ways _ later (named a name same)) (none_stands (first + 1) name attributes (rw later at e))
]

pub none_found : (first : ℕ) (name : List ℕ) (attributes : List Attribute) → All (λ a. a.name ≢ name) attributes → slot_from first name attributes ≡ None
unfolding slot_from
none_found first name [] h = refl
none_found first name (a ∷ attributes) h = rw (not_named a name (h 0 a (omega arith))) (none_found (first + 1) name attributes (λ k d lt. h (suc k) d (omega arith)))

-- names that are kept

cons_same : {X : Type 0} (x y : X) (xs ys : List X) → x ≡ y → xs ≡ ys → x ∷ xs ≡ y ∷ ys
cons_same x y xs ys first rest = rw (first, rest) refl

pub kept_names : (old new : List Attribute) → are_kept old new ≡ true → (more : List (List ℕ)) × (map (λ a. a.name) new ≡ map (λ a. a.name) old ++ more)
kept_names [] new h = (map (λ a. a.name) new, refl)
kept_names (a ∷ old) [] h = absurd (false≢true h)
kept_names (a ∷ old) (b ∷ new) h =
    let parts = and_parts (bytes_eq a.name b.name) (are_kept old new) h in
    let (more, is) = kept_names old new parts.1 in
    (more, cons_same b.name a.name _ _ (sym (same_bytes a.name b.name parts.0)) is)

pub names_kept : (old new : List Attribute) (more : List (List ℕ)) → map (λ a. a.name) new ≡ map (λ a. a.name) old ++ more → are_kept old new ≡ true
names_kept [] new more e = refl
names_kept (a ∷ old) [] more e = absurd cc
names_kept (a ∷ old) (b ∷ new) more e =
    let same : b.name ≡ a.name = ap (λ (xs : List (List ℕ)). get_or xs 0 []) e in
    and_from _ _ (named a b.name (sym same)) (names_kept old new more (ap (drop 1) e))
