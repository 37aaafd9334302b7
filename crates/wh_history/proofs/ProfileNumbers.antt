-- What more commands under one policy leave of the numbers of profiles.
use Rattle.std.proofs.Common.{◌≡◌, ℕ, zero, suc, ◌<◌, false, List, [], ◌∷◌, ◌++◌, map, length, Option, Some, None, refl, sym, ◌∙◌, ap, subst, arith}
use Rattle.std.specs.Prelude.{option_map, unwrap_or}
use Rattle.std.specs.List.{list_any}
use Rattle.std.proofs.lemmas.Grind.{flat_map-append}
use Rattle.std.proofs.lemmas.List.{map-append}
use Rattle.wh_policy.specs.Policy.{policy_types}
use Rattle.wh_policy.specs.Types.{is_profile}
use Rattle.wh_policy.specs.declared.attribute.Dim.TheVariants.{Customer}
use Rattle.wh_policy.specs.declared.attribute.AttributeType.{AttributeType}
use Rattle.wh_policy.specs.declared.policy.Policy.{Policy}
use Rattle.wh_policy.specs.declared.record.DimensionRecord.{DimensionRecord}
use Rattle.wh_history.specs.Keys.{distinct, place}
use Rattle.wh_history.specs.Slots.{picks, are_same}
use Rattle.wh_history.specs.Profiles.{after_unknown, profile_number}
use Rattle.wh_history.specs.Accepted.{Accepted, governed, policy_after, types_in, described, described_by, profiles_of}
use Rattle.wh_history.specs.Laws.{governs}
use Rattle.wh_history.proofs.Basics.{or_none, some_is}
use Rattle.wh_history.proofs.Numbers.{fresh, distinct-append, place-append_front, place-append_behind, place-none_from_append}
use Rattle.wh_history.proofs.Stays.{governed_same}

policy_goes_on : (before : Option Policy) (old new : List Accepted) → policy_after before (old ++ new) ≡ policy_after (policy_after before old) new
policy_goes_on before [] new = refl
policy_goes_on before (c ∷ old) new = policy_goes_on (governed before c.content) old new

policy_same : (before : Option Policy) (new : List Accepted) → list_any (λ c. governs c.content) new ≡ false → policy_after before new ≡ before
policy_same before [] none = refl
policy_same before (c ∷ new) none =
    let parts = or_none (governs c.content) (list_any (λ c. governs c.content) new) none in
    ap (λ before. policy_after before new) (governed_same before c.content parts.0) ∙ policy_same before new parts.1

-- the place of a combination that has a number
number_place : (number place : ℕ) → after_unknown place ≡ Some number → (0 < place) × (number ≡ suc place)
number_place number zero is = absurd cc
number_place number (suc n) is = (omega arith, sym (some_is (suc (suc n)) number is))

no_place : (place : ℕ) → after_unknown place ≡ None → place ≡ 0
no_place zero is = refl
no_place (suc n) is = absurd cc

module _ (old new : List Accepted) (none : list_any (λ c. governs c.content) new ≡ false) where
  abbrev pick : DimensionRecord → List (List ℕ)
  pick r = picks is_profile (types_in Customer old) r.values

  abbrev later : List (List (List ℕ))
  later = fresh are_same (map pick (described Customer old)) (distinct are_same (map pick (described Customer new)))

  -- they only add combinations at the end
  profiles_grow : profiles_of (old ++ new) ≡ profiles_of old ++ later
  profiles_grow =
      let policy : policy_after None (old ++ new) ≡ policy_after None old = policy_goes_on None old new ∙ policy_same (policy_after None old) new none in
      let types : types_in Customer (old ++ new) ≡ types_in Customer old = ap (λ (p : Option Policy). unwrap_or (option_map (λ policy. policy_types policy Customer) p) []) policy in
      ap (λ (kinds : List AttributeType). distinct are_same (map (λ (r : DimensionRecord). picks is_profile kinds r.values) (described Customer (old ++ new)))) types
      ∙ ap (λ (rs : List DimensionRecord). distinct are_same (map pick rs)) (flat_map-append (λ (c : Accepted). described_by Customer c.content) old new)
      ∙ ap (distinct are_same) (map-append pick (described Customer old) (described Customer new))
      ∙ distinct-append are_same (map pick (described Customer old)) (map pick (described Customer new))

  pub profile_number_stays : (texts : List (List ℕ)) (number : ℕ) → profile_number (profiles_of old) texts ≡ Some number → profile_number (profiles_of (old ++ new)) texts ≡ Some number
  profile_number_stays texts number is =
      let given = number_place number (place are_same texts (profiles_of old)) is in
      ap (λ (cs : List (List (List ℕ))). profile_number cs texts) profiles_grow ∙ ap after_unknown (place-append_front are_same texts (profiles_of old) later given.0) ∙ is

  pub profile_number_next : (texts : List (List ℕ)) (number : ℕ) → profile_number (profiles_of old) texts ≡ None → profile_number (profiles_of (old ++ new)) texts ≡ Some number → suc (length (profiles_of old)) < number
  profile_number_next texts number without is =
      let absent = no_place (place are_same texts (profiles_of old)) without in
      let given = number_place number (place are_same texts (profiles_of (old ++ new))) is in
      let whole = ap (place are_same texts) profiles_grow in
      let there : 0 < place are_same texts (profiles_of old ++ later) = subst (λ (n : ℕ). 0 < n) whole given.0 in
      let behind = place-none_from_append are_same texts (profiles_of old) later absent there in
      let at = place-append_behind are_same texts (profiles_of old) later absent behind in
      let is_number = given.1 in
      omega (arith, behind, is_number, whole, at)
