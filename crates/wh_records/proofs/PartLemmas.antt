-- Records in parts that are batches.
use Rattle.std.proofs.Common.{◌≡◌, ℕ, zero, suc, ◌+◌, ◌-◌, ◌<◌, ◌≤◌, true, false, cond, nat_le, List, [], ◌∷◌, ◌++◌, length, map, take, drop, min, refl, sym, ap, ◌∙◌, arith, length-append, length-drop, get_or, drop-cons, append-nil}
use Rattle.std.specs.Prelude.{flat_map}
use Rattle.std.specs.List.{AllByRecursion, IsDistinct}
use Rattle.std.proofs.lemmas.Bool.{leb-true, le-leb, lt-leb}
use Rattle.std.proofs.lemmas.List.{take-append-drop, length-take, length-take-le, take_all, take_more, drop_all, drop_min}
use Rattle.std.proofs.lemmas.Grind.{flat_map-append}
use Rattle.wh_policy.specs.Policy.{policy_attributes}
use Rattle.wh_policy.specs.Written.{IsSound}
use Rattle.wh_policy.specs.declared.attribute.Attribute.{Attribute}
use Rattle.wh_policy.specs.declared.attribute.Dim.{Dim}
use Rattle.wh_policy.specs.declared.policy.Policy.{Policy}
use Rattle.wh_policy.specs.declared.record.DimensionRecord.{DimensionRecord}
use Rattle.wh_batch.specs.Batch.{is_same_key}
use Rattle.wh_batch.specs.Layouts.{dimension_key}
use Rattle.wh_records.specs.Texts.{record_line, header_line}
use Rattle.wh_records.specs.Parts.{fitting, part_length, part_of, parts_within, parts}
use Rattle.wh_records.specs.Laws.{IsWritable, AreABatch, AreParts}
use Rattle.wh_records.proofs.Sizes.{line_short, header_short}

-- ---- how many fit

pub fits_most : (most room : ℕ) (rs : List DimensionRecord) → fitting most room rs ≤ most
fits_most zero room rs = omega arith
fits_most (suc n) room [] = omega arith
fits_most (suc n) room (r ∷ rs) =
    let rest = fits_most n (room - length (record_line r)) rs in
    elim (nat_le (length (record_line r)) room) as (λ b. cond b (suc (fitting n (room - length (record_line r)) rs)) 0 ≤ suc n) [ true ↦ omega (arith, rest) | false ↦ omega arith ]

pub fits_room : (most room : ℕ) (rs : List DimensionRecord) → length (flat_map record_line (take (fitting most room rs) rs)) ≤ room
fits_room zero room rs = omega arith
fits_room (suc n) room [] = omega arith
fits_room (suc n) room (r ∷ rs) =
    let line : List ℕ = record_line r in
    let rest = fits_room n (room - length (record_line r)) rs in
    elim (nat_le (length (record_line r)) room) as (λ b. (nat_le (length (record_line r)) room ≡ b) → length (flat_map record_line (take (cond b (suc (fitting n (room - length (record_line r)) rs)) 0) (r ∷ rs))) ≤ room) [
      | true ↦ λ e.
          let le = leb-true (length (record_line r)) room e in
          let joined = length-append (record_line r) (flat_map record_line (take (fitting n (room - length (record_line r)) rs) rs)) in
          omega (arith, rest, le, joined)
      | false ↦ λ e. omega arith
    ] refl

fits_one : (most room : ℕ) (r : DimensionRecord) (rs : List DimensionRecord) → length (record_line r) ≤ room → 1 ≤ fitting (suc most) room (r ∷ rs)
fits_one most room r rs le = rw (le-leb (length (record_line r)) room le) (omega arith)

-- the next record fits, or it doesn't, or there is none
pub fits_next : (most room : ℕ) (r : DimensionRecord) (rs : List DimensionRecord) → length (record_line r) ≤ room → fitting (suc most) room (r ∷ rs) ≡ suc (fitting most (room - length (record_line r)) rs)
fits_next most room r rs le = rw (le-leb (length (record_line r)) room le) refl

pub fits_not : (most room : ℕ) (r : DimensionRecord) (rs : List DimensionRecord) → room < length (record_line r) → fitting most room (r ∷ rs) ≡ 0
fits_not zero room r rs lt = refl
fits_not (suc most) room r rs lt = rw (lt-leb (length (record_line r)) room lt) refl

pub fits_none : (most room : ℕ) → fitting most room [] ≡ 0
fits_none zero room = refl
fits_none (suc most) room = refl

pub fits_few : (most room : ℕ) (rs : List DimensionRecord) → fitting most room rs ≤ length rs
fits_few zero room rs = omega arith
fits_few (suc n) room [] = omega arith
fits_few (suc n) room (r ∷ rs) =
    let rest = fits_few n (room - length (record_line r)) rs in
    elim (nat_le (length (record_line r)) room) as (λ b. cond b (suc (fitting n (room - length (record_line r)) rs)) 0 ≤ suc (length rs)) [ true ↦ omega (arith, rest) | false ↦ omega arith ]

-- a part has as many records as were counted
pub part_counted : (attributes : List Attribute) (rs : List DimensionRecord) → part_length attributes rs ≡ length (part_of attributes rs)
unfolding part_length
part_counted attributes rs =
    let few = fits_few 5000 (1000000 - length (header_line attributes)) rs in
    sym (length-take-le (fitting 5000 (1000000 - length (header_line attributes)) rs) rs few)

-- the slice from there
pub slice_least : (first n : ℕ) (rs : List DimensionRecord) → first ≡ min n (length rs) → take (length rs - first) (drop first rs) ≡ drop n rs
slice_least first n rs is =
    let left = length-drop first rs in
    take_all (length rs - first) (drop first rs) (omega (arith, left)) ∙ ap (λ k. drop k rs) is ∙ drop_min n rs

-- ---- one after the other

module _ (most : ℕ) (rs : List DimensionRecord) (place left room : ℕ) (as_far : place + fitting (most - place) left (drop place rs) ≡ fitting most room rs) where
  at_place : (r : DimensionRecord) → place < length rs → r ≡ get_or rs place r → drop place rs ≡ r ∷ drop (place + 1) rs
  at_place r within is = drop-cons rs place r within ∙ ap (λ (x : DimensionRecord). x ∷ drop (suc place) rs) (sym is) ∙ ap (λ n. r ∷ drop n rs) next
    where
      next : suc place ≡ place + 1
      next = omega arith

  pub stops_full : place ≡ most → place ≡ fitting most room rs
  stops_full full =
      let all : most - place ≡ 0 = omega (arith, full) in
      let none : fitting (most - place) left (drop place rs) ≡ 0 = ap (λ n. fitting n left (drop place rs)) all in
      omega (arith, none, as_far)

  pub stops : (r : DimensionRecord) → place < length rs → r ≡ get_or rs place r → left < length (record_line r) → place ≡ fitting most room rs
  stops r within is wide =
      let none : fitting (most - place) left (drop place rs) ≡ 0 = ap (fitting (most - place) left) (at_place r within is) ∙ fits_not (most - place) left r (drop (place + 1) rs) wide in
      omega (arith, none, as_far)

  pub goes_on : (r : DimensionRecord) → place < length rs → r ≡ get_or rs place r → place < most → length (record_line r) ≤ left
      → place + 1 + fitting (most - (place + 1)) (left - length (record_line r)) (drop (place + 1) rs) ≡ fitting most room rs
  goes_on r within is few le =
      let one_more : most - place ≡ suc (most - (place + 1)) = omega (arith, few) in
      let one : fitting (most - place) left (drop place rs) ≡ suc (fitting (most - (place + 1)) (left - length (record_line r)) (drop (place + 1) rs)) =
      ap (λ n. fitting n left (drop place rs)) one_more
      ∙ ap (fitting (suc (most - (place + 1))) left) (at_place r within is)
      ∙ fits_next (most - (place + 1)) left r (drop (place + 1) rs) le in
      omega (arith, one, as_far)

  pub ends : length rs ≤ place → place ≤ length rs → length rs ≡ fitting most room rs
  ends past within =
      let none : fitting (most - place) left (drop place rs) ≡ 0 = ap (fitting (most - place) left) (drop_all place rs past) ∙ fits_none (most - place) left in
      omega (arith, none, as_far)

pub line_more : (rs : List DimensionRecord) (place : ℕ) (r : DimensionRecord) → place < length rs → r ≡ get_or rs place r → flat_map record_line (take place rs) ++ record_line r ≡ flat_map record_line (take (place + 1) rs)
line_more rs place r within is =
    let more : take (place + 1) rs ≡ take place rs ++ r ∷ [] = take_more rs place r within ∙ ap (λ (x : DimensionRecord). take place rs ++ x ∷ []) (sym is) in
    sym (ap (flat_map record_line) more ∙ flat_map-append record_line (take place rs) (r ∷ []) ∙ ap (λ t. flat_map record_line (take place rs) ++ t) (append-nil (record_line r)))

-- ---- of some records, those before and after a place

all_taken : {X : Type 0} (P : X → Type 0) (n : ℕ) (xs : List X) → AllByRecursion P xs → AllByRecursion P (take n xs)
all_taken P zero xs all = tt
all_taken P (suc n) [] all = tt
all_taken P (suc n) (x ∷ xs) all = (all.0, all_taken P n xs all.1)

pub all_left : {X : Type 0} (P : X → Type 0) (n : ℕ) (xs : List X) → AllByRecursion P xs → AllByRecursion P (drop n xs)
all_left P zero xs all = all
all_left P (suc n) [] all = tt
all_left P (suc n) (x ∷ xs) all = all_left P n xs all.1

abbrev pub AreApart : List DimensionRecord → Type 0
AreApart rs = IsDistinct is_same_key (map dimension_key rs)

mapped_taken : {X Y : Type 0} (P : Y → Type 0) (f : X → Y) (n : ℕ) (xs : List X) → AllByRecursion P (map f xs) → AllByRecursion P (map f (take n xs))
mapped_taken P f zero xs all = tt
mapped_taken P f (suc n) [] all = tt
mapped_taken P f (suc n) (x ∷ xs) all = (all.0, mapped_taken P f n xs all.1)

apart_taken : (n : ℕ) (rs : List DimensionRecord) → AreApart rs → AreApart (take n rs)
unfolding IsDistinct
apart_taken zero rs apart = tt
apart_taken (suc n) [] apart = tt
apart_taken (suc n) (r ∷ rs) apart = (mapped_taken (λ k. is_same_key (dimension_key r) k ≡ false) dimension_key n rs apart.0, apart_taken n rs apart.1)

apart_left : (n : ℕ) (rs : List DimensionRecord) → AreApart rs → AreApart (drop n rs)
unfolding IsDistinct
apart_left zero rs apart = apart
apart_left (suc n) [] apart = tt
apart_left (suc n) (r ∷ rs) apart = apart_left n rs apart.1

-- ---- the parts

module _ (dim : Dim) (policy : Policy) (sound : IsSound policy) where
  abbrev attributes : List Attribute
  attributes = policy_attributes policy dim

  slots_few : length (policy_attributes policy dim) ≤ 6
  slots_few = (sound.attributes dim).few

  a_batch : (rs : List DimensionRecord) → AllByRecursion (IsWritable (length (policy_attributes policy dim))) rs → AreApart rs → AreABatch dim policy (part_of (policy_attributes policy dim) rs)
  unfolding part_length
  a_batch rs all apart =
      let room : ℕ = 1000000 - length (header_line (policy_attributes policy dim)) in
      let header = header_short dim policy sound in
      let lines = fits_room 5000 room rs in
      let most = fits_most 5000 room rs in
      let cut = length-take (fitting 5000 room rs) rs in
      let joined = length-append (header_line (policy_attributes policy dim)) (flat_map record_line (take (fitting 5000 room rs) rs)) in
      record {
        each = all_taken (IsWritable (length (policy_attributes policy dim))) (fitting 5000 room rs) rs all;
        distinct = apart_taken (fitting 5000 room rs) rs apart;
        few = omega (arith, most, cut);
        short = omega (arith, header, lines, joined);
      }

  pub begins : (r : DimensionRecord) (rs : List DimensionRecord) → IsWritable (length (policy_attributes policy dim)) r → 1 ≤ part_length (policy_attributes policy dim) (r ∷ rs)
  unfolding part_length
  begins r rs is =
      let header = header_short dim policy sound in
      let line = line_short (length (policy_attributes policy dim)) r slots_few is in
      fits_one 4999 (1000000 - length (header_line (policy_attributes policy dim))) r rs (omega (arith, header, line))

  whole_within : (n : ℕ) (rs : List DimensionRecord) → length rs ≤ n → AllByRecursion (IsWritable (length (policy_attributes policy dim))) rs → flat_map (λ part. part) (parts_within n (policy_attributes policy dim) rs) ≡ rs
  whole_within zero [] few all = refl
  whole_within zero (r ∷ rs) few all = absurd (omega arith)
  whole_within (suc n) [] few all = refl
  whole_within (suc n) (r ∷ rs) few all =
      let k : ℕ = part_length (policy_attributes policy dim) (r ∷ rs) in
      let one : 1 ≤ k = begins r rs all.0 in
      let left = length-drop k (r ∷ rs) in
      let rest = whole_within n (drop k (r ∷ rs)) (omega (arith, few, one, left)) (all_left (IsWritable (length (policy_attributes policy dim))) k (r ∷ rs) all) in
      ap (λ t. take k (r ∷ rs) ++ t) rest ∙ take-append-drop k (r ∷ rs)

  batches_within : (n : ℕ) (rs : List DimensionRecord) → AllByRecursion (IsWritable (length (policy_attributes policy dim))) rs → AreApart rs → AllByRecursion (AreABatch dim policy) (parts_within n (policy_attributes policy dim) rs)
  batches_within zero rs all apart = tt
  batches_within (suc n) [] all apart = tt
  batches_within (suc n) (r ∷ rs) all apart =
      let k : ℕ = part_length (policy_attributes policy dim) (r ∷ rs) in (
        a_batch (r ∷ rs) all apart,
        batches_within n (drop k (r ∷ rs)) (all_left (IsWritable (length (policy_attributes policy dim))) k (r ∷ rs) all) (apart_left k (r ∷ rs) apart),
      )

  pub are_parts : (rs : List DimensionRecord) → AllByRecursion (IsWritable (length (policy_attributes policy dim))) rs → AreApart rs → AreParts dim policy rs (parts (policy_attributes policy dim) rs)
  are_parts rs all apart = record { whole = whole_within (length rs) rs (omega arith) all; batches = batches_within (length rs) rs all apart }
