-- The carried records bring no combination of profile values of their own.
use Rattle.std.proofs.Common.{◌≡◌, ℕ, zero, suc, ◌+◌, ◌-◌, ◌<◌, true, false, cond, List, [], ◌∷◌, ◌++◌, map, length, take, replicate, Option, Some, refl, sym, ap, ◌∙◌, subst, arith, append-nil}
use Rattle.std.specs.Prelude.{filter, slice_get, option_map, unwrap_or}
use Rattle.std.specs.List.{AllByRecursion, list_any}
use Rattle.wh_day.specs.Value.{none_text}
use Rattle.wh_policy.specs.Policy.{policy_types}
use Rattle.wh_policy.specs.Types.{is_profile}
use Rattle.wh_policy.specs.declared.attribute.AttributeType.{AttributeType}
use Rattle.wh_policy.specs.declared.attribute.Dim.TheVariants.{Customer}
use Rattle.wh_policy.specs.declared.policy.Policy.{Policy}
use Rattle.wh_policy.specs.declared.record.DimensionRecord.{DimensionRecord}
use Rattle.wh_history.specs.Accepted.{Accepted, types_in, described, members, change_of, changes_of, profiles_of}
use Rattle.wh_history.specs.Dated.{dated, original}
use Rattle.wh_history.specs.Profiles.{combinations_of}
use Rattle.wh_history.specs.Slots.{are_same, padded, picked, picks, slot}
use Rattle.wh_history.specs.declared.member.Change.{Change}
use Rattle.wh_history.proofs.Basics.{or_true, texts_decide}
use Rattle.wh_history.proofs.Joins.{all_append, all_dated, all_weaker}
use Rattle.wh_history.proofs.Once.{among_distinct}
use Rattle.wh_history.proofs.Owners.{all_distinct, all_filtered}
use Rattle.wh_records.specs.Carried.{record_as, dated_records, first_value, first_values, first_among, first_records, slots_in, records_of, firsts_of, carried}
use Rattle.wh_records.specs.Laws.{NoCombinationComesAbout}
use Rattle.wh_records.proofs.CarriedMembers.{slot_there, column_there}
use Rattle.wh_records.proofs.CarriedRows.{same_columns}
use Rattle.wh_records.proofs.OneMember.{is_of_member}
use Rattle.wh_records.proofs.WrittenRecords.{all_of_members}

-- ---- slots

slot_none : (n place : ℕ) → slot (replicate n none_text) place ≡ none_text
slot_none zero place = refl
slot_none (suc n) zero = refl
slot_none (suc n) (suc place) = slot_none n place

slot_filled : (values : List (List ℕ)) (n place : ℕ) → slot (values ++ replicate n none_text) place ≡ slot values place
slot_filled [] n place = slot_none n place
slot_filled (v ∷ values) n zero = refl
slot_filled (v ∷ values) n (suc place) = slot_filled values n place

slot_taken : (n : ℕ) (values : List (List ℕ)) (place : ℕ) → place < n → slot (take n values) place ≡ slot values place
slot_taken zero values place within = absurd (omega arith)
slot_taken (suc n) [] place within = refl
slot_taken (suc n) (v ∷ values) zero within = refl
slot_taken (suc n) (v ∷ values) (suc place) within = slot_taken n values place (omega arith)

within : (kinds : List AttributeType) (place : ℕ) (kind : AttributeType) → slice_get kinds place ≡ Some kind → place < length kinds
within [] place kind is = absurd cc
within (k ∷ kinds) zero kind is = omega arith
within (k ∷ kinds) (suc place) kind is = let rest = within kinds place kind is in omega (arith, rest)

-- ---- the profile values of what is carried

module _ (kinds : List AttributeType) where
  abbrev said : List (List ℕ) → List (List ℕ)
  said values = picks is_profile kinds values

  said_filled : (values : List (List ℕ)) → picks is_profile kinds (padded none_text values) ≡ picks is_profile kinds values
  said_filled values = same_columns (picked is_profile (padded none_text values)) (picked is_profile values) 0 kinds
      (λ place kind there. ap (λ (text : List ℕ). cond (is_profile kind) text []) (slot_filled values (6 - length values) (0 + place)))

  said_taken : (values : List (List ℕ)) → picks is_profile kinds (take (length kinds) values) ≡ picks is_profile kinds values
  said_taken values = same_columns (picked is_profile (take (length kinds) values)) (picked is_profile values) 0 kinds
      (λ place kind there.
      let few = within kinds place kind there in
      let here : 0 + place < length kinds = omega (arith, few) in
      ap (λ (text : List ℕ). cond (is_profile kind) text []) (slot_taken (length kinds) values (0 + place) here))

  said_first : (changes : List Change) (first : Change) → picks is_profile kinds (first_values kinds changes first) ≡ picks is_profile kinds first.values
  said_first changes first = same_columns (picked is_profile (first_values kinds changes first)) (picked is_profile first.values) 0 kinds (λ place kind there. by_kind place kind there)
    where
      there_is : (place : ℕ) (kind : AttributeType) → slice_get kinds place ≡ Some kind → slot (first_values kinds changes first) place ≡ first_value changes first place kind
      there_is place kind there = slot_there (first_values kinds changes first) place (first_value changes first place kind)
          (ap (λ (ts : List (List ℕ)). slice_get ts place) (sym (append-nil (first_values kinds changes first))) ∙ column_there (first_value changes first) kinds place kind there [])

      at_place : (place : ℕ) (kind : AttributeType) → slice_get kinds place ≡ Some kind → cond (is_profile kind) (slot (first_values kinds changes first) place) [] ≡ cond (is_profile kind) (slot first.values place) []
      at_place place kind there =
          ap (λ (text : List ℕ). cond (is_profile kind) text []) (there_is place kind there)
          ∙ elim (is_profile kind) as (λ b. cond b (cond b (slot first.values place) (original place changes)) [] ≡ cond b (slot first.values place) []) [ true ↦ refl | false ↦ refl ]

      by_kind : (place : ℕ) (kind : AttributeType) → slice_get kinds place ≡ Some kind → picked is_profile (first_values kinds changes first) (0 + place) kind ≡ picked is_profile first.values (0 + place) kind
      by_kind place kind there =
          let at : place ≡ 0 + place = omega arith in
          subst (λ n. picked is_profile (first_values kinds changes first) n kind ≡ picked is_profile first.values n kind) at (at_place place kind there)

-- ---- each was accepted

-- what a list has is among it
among : (f : DimensionRecord → List (List ℕ)) (rs : List DimensionRecord) → AllByRecursion (λ r. list_any (λ other. are_same other (f r)) (map f rs) ≡ true) rs
among f [] = tt
among f (r ∷ rs) =
    let own : are_same (f r) (f r) ≡ true = (texts_decide (f r) (f r)).1 refl in (
      rw own refl,
      all_weaker (λ s. list_any (λ other. are_same other (f s)) (map f rs) ≡ true) (λ s. list_any (λ other. are_same other (f s)) (map f (r ∷ rs)) ≡ true)
          (λ s there. rw there (or_true (are_same (f r) (f s)))) rs (among f rs),
    )

all_mapped : {X Y : Type 0} (P : Y → Type 0) (f : X → Y) (xs : List X) → AllByRecursion (λ x. P (f x)) xs → AllByRecursion P (map f xs)
all_mapped P f [] all = tt
all_mapped P f (x ∷ xs) all = (all.0, all_mapped P f xs all.1)

module _ (commands : List Accepted) where
  abbrev kinds : List AttributeType
  kinds = types_in Customer commands

  -- the combination is one of those that were accepted
  abbrev WasThere : List (List ℕ) → Type 0
  WasThere texts = list_any (λ other. are_same other texts) (profiles_of commands) ≡ true

  of_records : AllByRecursion (λ (r : DimensionRecord). WasThere (picks is_profile (types_in Customer commands) r.values)) (described Customer commands)
  of_records =
      let f : DimensionRecord → List (List ℕ) = λ r. picks is_profile (types_in Customer commands) r.values in
      all_weaker (λ (r : DimensionRecord). list_any (λ other. are_same other (picks is_profile (types_in Customer commands) r.values)) (map (λ (s : DimensionRecord). picks is_profile (types_in Customer commands) s.values) (described Customer commands)) ≡ true)
      (λ (r : DimensionRecord). WasThere (picks is_profile (types_in Customer commands) r.values))
      (λ r there. among_distinct are_same texts_decide (picks is_profile (types_in Customer commands) r.values) (map (λ (s : DimensionRecord). picks is_profile (types_in Customer commands) s.values) (described Customer commands)) ∙ there)
      (described Customer commands) (among f (described Customer commands))

  abbrev SaysOld : Change → Type 0
  SaysOld c = WasThere (picks is_profile (types_in Customer commands) c.values)

  of_changes : (natural : List ℕ) → AllByRecursion SaysOld (changes_of Customer commands natural)
  of_changes natural =
      all_mapped SaysOld (change_of Customer commands) (filter (is_of_member natural) (described Customer commands))
      (all_filtered (λ (r : DimensionRecord). SaysOld (change_of Customer commands r)) (is_of_member natural) (described Customer commands)
      (all_weaker (λ (r : DimensionRecord). WasThere (picks is_profile (types_in Customer commands) r.values)) (λ (r : DimensionRecord). SaysOld (change_of Customer commands r))
      (λ r there. subst WasThere (sym (said_filled (types_in Customer commands) r.values)) there) (described Customer commands) of_records))

  abbrev IsOld : DimensionRecord → Type 0
  IsOld r = WasThere (picks is_profile (types_in Customer commands) r.values)

  of_dated : (natural : List ℕ) (cs : List Change) → AllByRecursion SaysOld cs → AllByRecursion IsOld (map (record_as (slots_in Customer commands) natural) cs)
  of_dated natural [] all = tt
  of_dated natural (c ∷ cs) all = (subst WasThere (sym (said_taken (types_in Customer commands) c.values)) all.0, of_dated natural cs all.1)

  of_first : (natural : List ℕ) (changes es : List Change) → AllByRecursion SaysOld es → AllByRecursion IsOld (first_among (types_in Customer commands) natural changes es)
  of_first natural changes [] all = tt
  of_first natural changes (first ∷ later) all =
      let first_record : DimensionRecord = record { natural = natural; day = first.day; values = first_values (types_in Customer commands) changes first } in
      elim (are_same (first_values (types_in Customer commands) (first ∷ later) first) (first_values (types_in Customer commands) changes first)) as (λ b. AllByRecursion IsOld (cond b [] (first_record ∷ []))) [
        | true ↦ tt
        | false ↦ (subst WasThere (sym (said_first (types_in Customer commands) changes first)) all.0, tt)
      ]

  dated_old : (natural : List ℕ) → AllByRecursion SaysOld (dated (changes_of Customer commands natural))
  dated_old natural = all_dated SaysOld (changes_of Customer commands natural) (of_changes natural)

  all_carried : AllByRecursion IsOld (carried Customer commands)
  all_carried = all_append IsOld (firsts_of Customer commands) (records_of Customer commands)
      (all_of_members IsOld (λ n. first_records (types_in Customer commands) n (changes_of Customer commands n)) (λ n. of_first n (changes_of Customer commands n) (dated (changes_of Customer commands n)) (dated_old n)) (members Customer commands))
      (all_of_members IsOld (λ n. dated_records (slots_in Customer commands) n (changes_of Customer commands n)) (λ n. of_dated n (dated (changes_of Customer commands n)) (dated_old n)) (members Customer commands))

pub no_combination_comes_about : NoCombinationComesAbout
no_combination_comes_about limits commands next it carries =
    let kinds_are : types_in Customer next ≡ types_in Customer commands = ap (λ (o : Option Policy). unwrap_or (option_map (λ policy. policy_types policy Customer) o) []) carries.policy in
    let same : profiles_of next ≡ combinations_of (types_in Customer commands) (carried Customer commands) =
    ap (λ ks. combinations_of ks (described Customer next)) kinds_are ∙ ap (combinations_of (types_in Customer commands)) (carries.records Customer) in
    subst (AllByRecursion (WasThere commands)) (sym same)
    (all_distinct (WasThere commands) are_same (map (λ (r : DimensionRecord). picks is_profile (types_in Customer commands) r.values) (carried Customer commands))
    (all_mapped (WasThere commands) (λ (r : DimensionRecord). picks is_profile (types_in Customer commands) r.values) (carried Customer commands) (all_carried commands)))
