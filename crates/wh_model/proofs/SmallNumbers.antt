-- The numbers that accepted commands give are small.
use Rattle.std.proofs.Common.{◌≡◌, inl, inr, ℕ, suc, ◌+◌, ◌*◌, ◌≤◌, Bool, true, false, cond, not, ◌&&◌, List, [], ◌∷◌, length, map, Option, Some, None, refl, arith, length-append}
use Rattle.std.specs.Prelude.{filter, flat_map, option_to_list, nat_le, bytes_eq}
use Rattle.std.proofs.lemmas.Bool.{cases_lt, leb-true, le-leb}
use Rattle.std.proofs.lemmas.List.{length-map}
use Rattle.wh_policy.specs.declared.attribute.Dim.{Dim}
use Rattle.wh_policy.specs.declared.attribute.Dim.TheVariants.{Product, Store, Customer}
use Rattle.wh_policy.specs.declared.record.DimensionRecord.{DimensionRecord}
use Rattle.wh_policy.specs.declared.record.SaleRecord.{SaleRecord}
use Rattle.wh_history.specs.Keys.{distinct, at_place}
use Rattle.wh_history.specs.Slots.{picks, are_same}
use Rattle.wh_policy.specs.Types.{is_profile}
use Rattle.wh_history.specs.Accepted.{Accepted, Anchor, same_anchor, opening_of, anchors_of_record, anchors_of_sale, anchors_by, described_by, sold_by, member_of_sale, mentions, anchors, members, described, sold, types_in, profiles_of}
use Rattle.wh_history.specs.Tables.{Limits}
use Rattle.wh_history.proofs.Basics.{both_true}
use Rattle.wh_rows.specs.Types.{is_number}
use Rattle.wh_rows.specs.Limits.{is_limit, are_limits}
use Rattle.wh_model.specs.Sound.{IsAccepted, changes_kept}
use Rattle.wh_model.proofs.GrownKeys.{at_past}

pub is_small : (n : ℕ) → n ≤ 9999999 → is_number n ≡ true
is_small n h = le-leb n 9999999 h

-- a place where something stands is within the list
pub at_within : {X : Type 0} (n : ℕ) (xs : List X) (x : X) → at_place n xs ≡ Some x → n ≤ length xs
at_within n xs x is =
    elim (cases_lt (length xs) n) [
      | inl past ↦ let none = at_past n xs past in absurd (cc)
      | inr within ↦ within
    ]

-- ---- how many distinct ones there are

filter_few : {X : Type 0} (p : X → Bool) (xs : List X) → length (filter p xs) ≤ length xs
filter_few p [] = omega arith
filter_few p (x ∷ xs) =
    let rest = filter_few p xs in
    elim (p x) as (λ b. length (cond b (x ∷ filter p xs) (filter p xs)) ≤ suc (length xs)) [ true ↦ omega arith | false ↦ omega arith ]

distinct_few : {X : Type 0} (same : X → X → Bool) (xs : List X) → length (distinct same xs) ≤ length xs
distinct_few same [] = omega arith
distinct_few same (x ∷ xs) =
    let rest = distinct_few same xs in
    let less = filter_few (λ y. not (same x y)) (distinct same xs) in
    omega arith

-- ---- how many anchors are mentioned

by_records : (rs : List DimensionRecord) → length (flat_map anchors_of_record rs) ≡ 2 * length rs
by_records [] = refl
by_records (r ∷ rs) = let rest = by_records rs in omega arith

one_or_none : (o : Option (List ℕ)) → length (map opening_of (option_to_list o)) ≤ 1
one_or_none None = omega arith
one_or_none (Some natural) = omega arith

by_sales : (dim : Dim) (sales : List SaleRecord) → length (flat_map (anchors_of_sale dim) sales) ≤ length sales
by_sales dim [] = omega arith
by_sales dim (s ∷ sales) =
    let rest = by_sales dim sales in
    let one = one_or_none (member_of_sale dim s) in
    let both = length-append (anchors_of_sale dim s) (flat_map (anchors_of_sale dim) sales) in
    omega arith

-- two by a record, and one by a sale
mentions_few : (dim : Dim) (commands : List Accepted) → length (mentions dim commands) ≤ 2 * length (described dim commands) + length (sold commands)
mentions_few dim [] = omega arith
mentions_few dim (c ∷ commands) =
    let rest = mentions_few dim commands in
    let records = described_by dim c.content in
    let sales = sold_by c.content in
    let all = length-append (anchors_by dim c.content) (mentions dim commands) in
    let here = length-append (flat_map anchors_of_record records) (flat_map (anchors_of_sale dim) sales) in
    let told = length-append records (described dim commands) in
    let gone = length-append sales (sold commands) in
    let first = by_records records in
    let second = by_sales dim sales in
    omega arith

-- ---- within the limits

described_kept : (dim : Dim) (commands : List Accepted) → length (described dim commands) ≤ changes_kept commands
described_kept Product commands = omega arith
described_kept Store commands = omega arith
described_kept Customer commands = omega arith

below_most : (most count : ℕ) → is_limit most count ≡ true → count ≤ most
below_most most count is = leb-true count most (both_true (nat_le 1 count) (nat_le count most) is).1

record Few (l : Limits) : Type 0 where
  pub commands : l.commands ≤ 100000
  pub changes : l.changes ≤ 1000000
  pub facts : l.facts ≤ 1000000

limits_few : (l : Limits) → are_limits l ≡ true → Few l
limits_few l is =
    elim (is_limit 100000 l.commands) as (λ b. (is_limit 100000 l.commands ≡ b) → Few l) [
      | false ↦ λ no. absurd (cc)
      | true ↦ λ commands. elim (is_limit 1000000 l.changes) as (λ b. (is_limit 1000000 l.changes ≡ b) → Few l) [
        | false ↦ λ no. absurd (cc)
        | true ↦ λ changes. record { commands = below_most 100000 l.commands commands; changes = below_most 1000000 l.changes changes; facts = below_most 1000000 l.facts (both_true (is_limit 100000 l.commands && is_limit 1000000 l.changes) (is_limit 1000000 l.facts) is).1 }
      ] refl
    ] refl

module _ (limits : Limits) (commands : List Accepted) (ok : IsAccepted limits commands) where
  few : Few limits
  few = limits_few limits ok.limited

  pub commands_few : length commands ≤ 100000
  commands_few = let most = few.commands in let within = ok.commands_within in omega arith

  pub described_few : (dim : Dim) → length (described dim commands) ≤ 1000000
  described_few dim = let most = few.changes in let within = ok.changes_within in let one = described_kept dim commands in omega arith

  pub sold_few : length (sold commands) ≤ 1000000
  sold_few = let most = few.facts in let within = ok.facts_within in omega arith

  mentioned_few : (dim : Dim) → length (mentions dim commands) ≤ 3000000
  mentioned_few dim =
      let told = mentions_few dim commands in
      let one = described_few dim in
      let gone = sold_few in
      omega arith

  pub anchors_few : (dim : Dim) → length (anchors dim commands) ≤ 3000000
  anchors_few dim = let all = mentioned_few dim in let once = distinct_few same_anchor (mentions dim commands) in omega arith

  pub members_few : (dim : Dim) → length (members dim commands) ≤ 3000000
  members_few dim =
      let all = mentioned_few dim in
      let names = length-map (mentions dim commands) (λ (a : Anchor). a.natural) in
      let once = distinct_few bytes_eq (map (λ (a : Anchor). a.natural) (mentions dim commands)) in
      omega arith

  pub profiles_few : length (profiles_of commands) ≤ 1000000
  profiles_few =
      let pick = λ (r : DimensionRecord). picks is_profile (types_in Customer commands) r.values in
      let all = described_few Customer in
      let picked = length-map (described Customer commands) pick in
      let once = distinct_few are_same (map pick (described Customer commands)) in
      omega arith
