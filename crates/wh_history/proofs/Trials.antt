-- The table of a trial, by the members of its records.
use Rattle.std.proofs.Common.{◌≡◌, ℕ, zero, suc, ◌+◌, ◌<◌, true, not, List, [], ◌∷◌, ◌++◌, map, length, Option, Some, None, refl, sym, ◌∙◌, ap, arith, append-nil, length-append}
use Rattle.std.specs.Prelude.{filter_map, flat_map, bytes_eq, slice_get}
use Rattle.std.specs.Option.{option_and_then}
use Rattle.std.specs.List.{range_with_len, cons_option, AllByRecursion}
use Rattle.std.proofs.lemmas.List.{append_assoc}
use Rattle.std.proofs.lemmas.Simd.{map-map}
use Rattle.std.proofs.lemmas.Slice.Eq.{bytes_eq-Decides}
use Rattle.wh_policy.specs.Policy.{policy_types}
use Rattle.wh_policy.specs.declared.policy.Policy.{Policy}
use Rattle.wh_policy.specs.declared.attribute.Dim.{Dim}
use Rattle.wh_policy.specs.declared.attribute.Dim.TheVariants.{Product, Store, Customer}
use Rattle.wh_policy.specs.declared.record.DimensionRecord.{DimensionRecord}
use Rattle.wh_history.specs.Keys.{distinct, at_place}
use Rattle.wh_history.specs.Profiles.{combinations_of}
use Rattle.wh_history.specs.Rows.{rows_by, rows}
use Rattle.wh_history.specs.Known.{number_in, all_numbered}
use Rattle.wh_history.specs.Plan.{row_of}
use Rattle.wh_history.specs.Accepted.{Accepted, Governs, Anchor, anchors_of_record, anchors, members, durable_key, member_of, types_in, profiles_of}
use Rattle.wh_history.specs.Tables.{member_rows, numbered_row, dimension_row, dimension_table, unnamed, trial_commands}
use Rattle.wh_history.specs.Touched.{TouchedMembers, touched, untouched, nothing_stored}
use Rattle.wh_history.specs.Picked.{first_rows, profiles_in, owned_row, picked_from}
use Rattle.wh_history.specs.declared.rows.DimRow.{DimRow}
use Rattle.wh_history.specs.declared.profiles.NumberedProfile.{NumberedProfile}
use Rattle.wh_history.proofs.Knowing.{rows_of_all}
use Rattle.wh_history.proofs.Places.{at_place-place}
use Rattle.wh_history.proofs.Members.{row_of_member_now}
use Rattle.wh_history.proofs.Effective.{in_table}
use Rattle.wh_history.proofs.Owners.{owners_given}
use Rattle.wh_history.proofs.Batches.{mentions_after, touched_is}
use Rattle.wh_history.proofs.Lists.{filter_twice}

-- each natural key twice, as a record mentions it by its opening and by its day
abbrev twice : List (List ℕ) → List (List ℕ)
twice [] = []
twice (n ∷ ns) = n ∷ n ∷ twice ns

mentioned_twice : (rs : List DimensionRecord) → map (λ (a : Anchor). a.natural) (flat_map anchors_of_record rs) ≡ twice (map (λ r. r.natural) rs)
mentioned_twice [] = refl
mentioned_twice (r ∷ rs) = ap (λ ns. r.natural ∷ r.natural ∷ ns) (mentioned_twice rs)

distinct_twice : (ns : List (List ℕ)) → distinct bytes_eq (twice ns) ≡ distinct bytes_eq ns
distinct_twice [] = refl
distinct_twice (n ∷ ns) =
    let rest = distinct_twice ns in
    let itself : bytes_eq n n ≡ true = (bytes_eq-Decides n n).1 refl in
    let other = λ (m : List ℕ). not (bytes_eq n m) in
    rw (rest, itself) (ap (λ ms. n ∷ ms) (filter_twice other (distinct bytes_eq ns)))

-- what stands at a place stands there in a list of what is made of each
pub at_place-map : {X Y : Type 0} (f : X → Y) (n : ℕ) (xs : List X) (x : X) → at_place n xs ≡ Some x → at_place n (map f xs) ≡ Some (f x)
at_place-map f zero xs x is = cc
at_place-map f (suc zero) [] x is = cc
at_place-map f (suc zero) (y ∷ ys) x is = let here : y ≡ x = cc in ap (λ z. Some (f z)) here
at_place-map f (suc (suc n)) [] x is = cc
at_place-map f (suc (suc n)) (y ∷ ys) x is = at_place-map f (suc n) ys x is

pub get_middle : {X : Type 0} (front back : List X) (x : X) → slice_get (front ++ x ∷ back) (length front) ≡ Some x
get_middle [] back x = refl
get_middle (y ∷ front) back x = get_middle front back x

module _ (dim : Dim) (commands : List Accepted) where
  abbrev owner : Anchor → ℕ
  owner a = durable_key dim commands a.natural

  abbrev rows_by_member : List (List DimRow)
  rows_by_member = map (member_rows commands dim) (members dim commands)

  -- the row under an anchor's key is that of the member that owns it
  owned_is : (key : ℕ) (a : Anchor) → 0 < durable_key dim commands a.natural → at_place key (anchors dim commands) ≡ Some a → owned_row rows_by_member key (owner a) ≡ numbered_row commands dim key
  owned_is key a given is =
      let there = at_place-map (member_rows commands dim) (owner a) (members dim commands) a.natural (at_place-place bytes_eq bytes_eq-Decides a.natural (members dim commands) given) in
      ap (option_and_then (row_of key)) there ∙ sym (row_of_member_now dim commands key a is)

  picked_is : (front back : List Anchor) (key : ℕ) → front ++ back ≡ anchors dim commands → key ≡ suc (length front) → AllByRecursion (λ (a : Anchor). 0 < durable_key dim commands a.natural) back
      → picked_from rows_by_member key (map owner back) ≡ filter_map (numbered_row commands dim) (range_with_len key (length back))
  picked_is front [] key whole at given = refl
  picked_is front (a ∷ back) key whole at given =
      let is : at_place key (anchors dim commands) ≡ Some a = ap (λ n. at_place n (anchors dim commands)) at ∙ ap (λ as'. slice_get as' (length front)) (sym whole) ∙ get_middle front back a in
      let here = owned_is key a given.0 is in
      let longer : suc (suc (length front)) ≡ suc (length (front ++ a ∷ [])) = sym (ap suc (length-append front (a ∷ []) ∙ omega arith)) in
      let rest = picked_is (front ++ a ∷ []) back (suc key) (append_assoc front (a ∷ []) back ∙ whole) (ap suc at ∙ longer) given.1 in
      let next : suc key ≡ key + 1 = omega arith in
      ap (λ o. cons_option o (picked_from rows_by_member (suc key) (map owner back))) here ∙ ap (cons_option (numbered_row commands dim key)) (rest ∙ ap (λ n. filter_map (numbered_row commands dim) (range_with_len n (length back))) next)

  -- after the first key the table has the rows of anchors
  in_range : (key n : ℕ) → 0 < key → filter_map (numbered_row commands dim) (range_with_len key n) ≡ filter_map (dimension_row commands dim) (range_with_len key n)
  in_range key zero given = refl
  in_range key (suc n) given =
      let rest = in_range (key + 1) n (omega arith) in
      ap (λ o. cons_option o (filter_map (numbered_row commands dim) (range_with_len (key + 1) n))) (sym (in_table dim commands key given)) ∙ ap (cons_option (dimension_row commands dim key)) rest

  first_is : cons_option (dimension_row commands dim 0) [] ≡ first_rows dim (types_in dim commands)
  first_is = elim dim as (λ d. cons_option (dimension_row commands d 0) [] ≡ first_rows d (types_in d commands)) [ Product ↦ refl | Store ↦ refl | Customer ↦ refl ]

  put_first : (o : Option DimRow) (rs : List DimRow) → cons_option o [] ++ rs ≡ cons_option o rs
  put_first None rs = refl
  put_first (Some r) rs = refl

  -- the rows of the keys by their owners, after the row without a key, are the table
  pub table_is : first_rows dim (types_in dim commands) ++ picked_from rows_by_member 1 (map owner (anchors dim commands)) ≡ dimension_table commands dim
  table_is =
      let picked = picked_is [] (anchors dim commands) 1 refl refl (owners_given dim commands) ∙ in_range 1 (length (anchors dim commands)) (omega arith) in
      ap (λ rs. rs ++ picked_from rows_by_member 1 (map owner (anchors dim commands))) (sym first_is)
      ∙ ap (λ rs. cons_option (dimension_row commands dim 0) [] ++ rs) picked
      ∙ put_first (dimension_row commands dim 0) (filter_map (dimension_row commands dim) (range_with_len 1 (length (anchors dim commands))))

module _ (policy : Policy) (dim : Dim) (records : List DimensionRecord) where
  abbrev making : List Accepted
  making = unnamed (Governs policy) ∷ []

  abbrev whole : List Accepted
  whole = trial_commands policy dim records

  -- the members that the records touch are all members
  naturals_are : distinct bytes_eq (map (λ r. r.natural) records) ≡ members dim whole
  naturals_are = sym (ap (λ (ms : List Anchor). distinct bytes_eq (map (λ (a : Anchor). a.natural) ms)) (mentions_after dim making [] [] [] records) ∙ ap (distinct bytes_eq) (mentioned_twice records) ∙ distinct_twice (map (λ r. r.natural) records))

  profiles_are : profiles_in dim (policy_types policy dim) records ≡ profiles_of whole
  profiles_are = elim dim as (λ d. profiles_in d (policy_types policy d) records ≡ profiles_of (trial_commands policy d records)) [
    | Product ↦ refl
    | Store ↦ refl
    | Customer ↦ ap (combinations_of (policy_types policy Customer)) (sym (append-nil records))
  ]

  pub trial_is : (t : TouchedMembers) → t ≡ touched nothing_stored (untouched 0 0) records
      → first_rows dim (policy_types policy dim) ++ picked_from (map (rows (policy_types policy dim) (profiles_in dim (policy_types policy dim) records)) t.list) 1 t.owners ≡ dimension_table whole dim
  trial_is t is =
      let kinds = policy_types policy dim in
      let row_of_owners = λ (rs : List (List DimRow)). first_rows dim kinds ++ picked_from rs 1 (map (owner dim whole) (anchors dim whole)) in
      let rows_are : map (rows kinds (profiles_in dim kinds records)) (map (member_of dim whole) (distinct bytes_eq (map (λ r. r.natural) records))) ≡ rows_by_member dim whole =
      map-map (rows kinds (profiles_in dim kinds records)) (member_of dim whole) (distinct bytes_eq (map (λ r. r.natural) records))
      ∙ ap (λ ps. map (λ n. rows kinds ps (member_of dim whole n)) (distinct bytes_eq (map (λ r. r.natural) records))) profiles_are
      ∙ ap (map (member_rows whole dim)) naturals_are in
      rw (is ∙ touched_is dim making [] [] [] records) (ap row_of_owners rows_are ∙ table_is dim whole)

  -- the same by its parts
  pub made_is : (t : TouchedMembers) (known : List NumberedProfile) (of_members : List (List DimRow)) (front table : List DimRow)
      → t ≡ touched nothing_stored (untouched 0 0) records → known ≡ all_numbered (profiles_in dim (policy_types policy dim) records) → of_members ≡ map (rows_by (policy_types policy dim) (number_in known)) t.list
      → front ≡ first_rows dim (policy_types policy dim) → table ≡ front ++ picked_from of_members 1 t.owners → table ≡ dimension_table whole dim
  made_is t known of_members front table is numbered rendered first made =
      let all : of_members ≡ map (rows (policy_types policy dim) (profiles_in dim (policy_types policy dim) records)) t.list =
      rendered ∙ ap (λ ks. map (rows_by (policy_types policy dim) (number_in ks)) t.list) numbered ∙ rows_of_all (policy_types policy dim) (profiles_in dim (policy_types policy dim) records) t.list in
      rw (made, first, all) (trial_is t is)
