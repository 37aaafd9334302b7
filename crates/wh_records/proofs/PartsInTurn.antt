-- The parts that are asked for one after the other are all batches.
use Rattle.std.proofs.Common.{◌≡◌, ℕ, zero, suc, ◌+◌, ◌-◌, ◌<◌, ◌≤◌, cond, nat_le, List, [], ◌∷◌, ◌++◌, length, drop, refl, sym, ap, ◌∙◌, arith, length-append, length-drop, subst}
use Rattle.std.specs.List.{AllByRecursion}
use Rattle.std.proofs.lemmas.Bool.{le-leb, lt-leb}
use Rattle.std.proofs.lemmas.List.{drop-drop}
use Rattle.wh_policy.specs.Policy.{policy_attributes}
use Rattle.wh_policy.specs.Written.{IsSound}
use Rattle.wh_policy.specs.declared.attribute.Attribute.{Attribute}
use Rattle.wh_policy.specs.declared.attribute.Dim.{Dim}
use Rattle.wh_policy.specs.declared.policy.Policy.{Policy}
use Rattle.wh_policy.specs.declared.record.DimensionRecord.{DimensionRecord}
use Rattle.wh_records.specs.Carried.{firsts_of, records_of}
use Rattle.wh_records.specs.Parts.{part_length, part_of, parts_within, parts, carried_part, parts_in_turn}
use Rattle.wh_records.specs.Laws.{IsWritable, PartsInTurnAreAll}
use Rattle.wh_records.proofs.CarriedBatches.{sound, slots_of}
use Rattle.wh_records.proofs.FilledParts.{none_of_none, part_bounded}
use Rattle.wh_records.proofs.PartLemmas.{all_left, begins, part_counted}
use Rattle.wh_records.proofs.WrittenRecords.{firsts_writable, records_writable}

within_none : (m : ℕ) (attributes : List Attribute) → parts_within m attributes [] ≡ []
within_none zero attributes = refl
within_none (suc m) attributes = refl

-- ---- one turn

module _ (attributes : List Attribute) (firsts dated : List DimensionRecord) where
  turn : (n place : ℕ) (part : List DimensionRecord) → carried_part attributes firsts dated place ≡ part
      → parts_in_turn (suc n) attributes firsts dated place ≡ cond (nat_le 1 (length part)) (part ∷ parts_in_turn n attributes firsts dated (place + length part)) []
  turn n place part is = ap (λ p. cond (nat_le 1 (length p)) (p ∷ parts_in_turn n attributes firsts dated (place + length p)) []) is

  last_turn : (n place : ℕ) → carried_part attributes firsts dated place ≡ [] → parts_in_turn n attributes firsts dated place ≡ []
  last_turn zero place is = refl
  last_turn (suc n) place is = turn n place [] is

  next_turn : (n place : ℕ) (part : List DimensionRecord) → carried_part attributes firsts dated place ≡ part → 1 ≤ length part
      → parts_in_turn (suc n) attributes firsts dated place ≡ part ∷ parts_in_turn n attributes firsts dated (place + length part)
  next_turn n place part is one = turn n place part is ∙ rw (le-leb 1 (length part) one) refl

  among_firsts : (place : ℕ) → place < length firsts → carried_part attributes firsts dated place ≡ part_of attributes (drop place firsts)
  among_firsts place lt = rw (le-leb (suc place) (length firsts) lt) refl

  past_firsts : (k : ℕ) → carried_part attributes firsts dated (length firsts + k) ≡ part_of attributes (drop k dated)
  past_firsts k =
      let far : length firsts + k - length firsts ≡ k = omega arith in
      rw (lt-leb (suc (length firsts + k)) (length firsts) (omega arith)) (ap (λ n. part_of attributes (drop n dated)) far)

-- ---- all turns

module _ (dim : Dim) (policy : Policy) (good : IsSound policy) (firsts dated : List DimensionRecord) where
  abbrev attributes : List Attribute
  attributes = policy_attributes policy dim

  abbrev AreWritable : List DimensionRecord → Type 0
  AreWritable rs = AllByRecursion (IsWritable (length (policy_attributes policy dim))) rs

  one_there : (r : DimensionRecord) (rs : List DimensionRecord) → AreWritable (r ∷ rs) → 1 ≤ length (part_of (policy_attributes policy dim) (r ∷ rs))
  one_there r rs all =
      let one = begins dim policy good r rs all.0 in
      let counted = part_counted (policy_attributes policy dim) (r ∷ rs) in
      omega (arith, one, counted)

  rest_is : (k : ℕ) (records : List DimensionRecord) (r : DimensionRecord) (rs : List DimensionRecord) → drop k records ≡ r ∷ rs
      → drop (k + length (part_of (policy_attributes policy dim) (r ∷ rs))) records ≡ drop (part_length (policy_attributes policy dim) (r ∷ rs)) (r ∷ rs)
  rest_is k records r rs is =
      sym (drop-drop (length (part_of (policy_attributes policy dim) (r ∷ rs))) k records)
      ∙ ap (drop (length (part_of (policy_attributes policy dim) (r ∷ rs)))) is
      ∙ ap (λ n. drop n (r ∷ rs)) (sym (part_counted (policy_attributes policy dim) (r ∷ rs)))

  left_over : (r : DimensionRecord) (rs : List DimensionRecord) → AreWritable (r ∷ rs) → length (drop (part_length (policy_attributes policy dim) (r ∷ rs)) (r ∷ rs)) ≤ length rs
  left_over r rs all =
      let one = begins dim policy good r rs all.0 in
      let left = length-drop (part_length (policy_attributes policy dim) (r ∷ rs)) (r ∷ rs) in
      omega (arith, one, left)

  of_dated : (n m k : ℕ) (rest : List DimensionRecord) → drop k dated ≡ rest → AreWritable rest → length rest ≤ n → length rest ≤ m
      → parts_in_turn n (policy_attributes policy dim) firsts dated (length firsts + k) ≡ parts_within m (policy_attributes policy dim) rest
  of_dated n m k [] is all few most =
      last_turn (policy_attributes policy dim) firsts dated n (length firsts + k) (past_firsts (policy_attributes policy dim) firsts dated k ∙ ap (part_of (policy_attributes policy dim)) is ∙ none_of_none (policy_attributes policy dim))
      ∙ sym (within_none m (policy_attributes policy dim))
  of_dated zero m k (r ∷ rs) is all few most = absurd (omega (arith, few))
  of_dated (suc n) zero k (r ∷ rs) is all few most = absurd (omega (arith, most))
  of_dated (suc n) (suc m) k (r ∷ rs) is all few most =
      let part : List DimensionRecord = part_of (policy_attributes policy dim) (r ∷ rs) in
      let left = left_over r rs all in
      let place : length firsts + k + length (part_of (policy_attributes policy dim) (r ∷ rs)) ≡ length firsts + (k + length (part_of (policy_attributes policy dim) (r ∷ rs))) = omega arith in
      next_turn (policy_attributes policy dim) firsts dated n (length firsts + k) part (past_firsts (policy_attributes policy dim) firsts dated k ∙ ap (part_of (policy_attributes policy dim)) is) (one_there r rs all)
      ∙ ap (λ at. part ∷ parts_in_turn n (policy_attributes policy dim) firsts dated at) place
      ∙ ap (λ ps. part ∷ ps) (
      of_dated n m (k + length part) (drop (part_length (policy_attributes policy dim) (r ∷ rs)) (r ∷ rs)) (rest_is k dated r rs is)
      (all_left (IsWritable (length (policy_attributes policy dim))) (part_length (policy_attributes policy dim) (r ∷ rs)) (r ∷ rs) all)
      (omega (arith, few, left)) (omega (arith, most, left))
      )

  module _ (writable : AreWritable dated) where
    of_firsts : (n m k : ℕ) (rest : List DimensionRecord) → drop k firsts ≡ rest → k ≤ length firsts → AreWritable rest → length rest + length dated ≤ n → length rest ≤ m
        → parts_in_turn n (policy_attributes policy dim) firsts dated k ≡ parts_within m (policy_attributes policy dim) rest ++ parts (policy_attributes policy dim) dated
    of_firsts n m k [] is within all few most =
        let left = length-drop k firsts in
        let none = ap length is in
        let at : k ≡ length firsts + 0 = omega (arith, left, none, within) in
        ap (parts_in_turn n (policy_attributes policy dim) firsts dated) at
        ∙ of_dated n (length dated) 0 dated refl writable (omega (arith, few)) (omega arith)
        ∙ sym (ap (λ ps. ps ++ parts (policy_attributes policy dim) dated) (within_none m (policy_attributes policy dim)))
    of_firsts zero m k (r ∷ rs) is within all few most = absurd (omega (arith, few))
    of_firsts (suc n) zero k (r ∷ rs) is within all few most = absurd (omega (arith, most))
    of_firsts (suc n) (suc m) k (r ∷ rs) is within all few most =
        let part : List DimensionRecord = part_of (policy_attributes policy dim) (r ∷ rs) in
        let left = length-drop k firsts in
        let some = ap length is in
        let over = left_over r rs all in
        next_turn (policy_attributes policy dim) firsts dated n k part (among_firsts (policy_attributes policy dim) firsts dated k (omega (arith, left, some)) ∙ ap (part_of (policy_attributes policy dim)) is) (one_there r rs all)
        ∙ ap (λ ps. part ∷ ps) (
        of_firsts n m (k + length part) (drop (part_length (policy_attributes policy dim) (r ∷ rs)) (r ∷ rs)) (rest_is k firsts r rs is)
        (within_part k r rs is within)
        (all_left (IsWritable (length (policy_attributes policy dim))) (part_length (policy_attributes policy dim) (r ∷ rs)) (r ∷ rs) all)
        (omega (arith, few, over)) (omega (arith, most, over))
        )
      where
        within_part : (k : ℕ) (r : DimensionRecord) (rs : List DimensionRecord) → drop k firsts ≡ r ∷ rs → k ≤ length firsts → k + length (part_of (policy_attributes policy dim) (r ∷ rs)) ≤ length firsts
        within_part k r rs is within =
            let counted = part_counted (policy_attributes policy dim) (r ∷ rs) in
            let bounded = part_bounded (policy_attributes policy dim) (r ∷ rs) in
            let left = length-drop k firsts in
            let some = ap length is in
            omega (arith, counted, bounded, left, some, within)

pub parts_in_turn_are_all : PartsInTurnAreAll
parts_in_turn_are_all limits commands dim policy it governed n few =
    let as_wide = slots_of limits commands policy it governed dim in
    let joined = length-append (firsts_of dim commands) (records_of dim commands) in
    of_firsts dim policy (sound limits commands policy it governed) (firsts_of dim commands) (records_of dim commands)
    (subst (λ n. AllByRecursion (IsWritable n) (records_of dim commands)) as_wide (records_writable limits commands it dim))
    n (length (firsts_of dim commands)) 0 (firsts_of dim commands) refl (omega arith)
    (subst (λ n. AllByRecursion (IsWritable n) (firsts_of dim commands)) as_wide (firsts_writable limits commands it dim))
    (omega (arith, few, joined)) (omega arith)
