-- The profiles that a batch is the first to show, and what is known of those of its members.
use Rattle.std.proofs.Common.{◌≡◌, ℕ, suc, ◌+◌, ◌-◌, ◌≤◌, false, not, List, [], ◌∷◌, ◌++◌, length, map, Option, Some, None, refl, sym, ◌∙◌, ap, subst, arith, append-nil, length-append, true}
use Rattle.std.specs.Prelude.{◌≢◌, filter, filter_map, option_map, unwrap_or}
use Rattle.std.specs.List.{list_any, range_with_len, AllByRecursion}
use Rattle.std.proofs.lemmas.List.{length-map}
use Rattle.wh_policy.specs.Policy.{policy_attributes, policy_types}
use Rattle.wh_policy.specs.Types.{is_profile, is_outrigger}
use Rattle.wh_policy.specs.Written.{IsSound}
use Rattle.wh_policy.specs.declared.attribute.Attribute.{Attribute}
use Rattle.wh_policy.specs.declared.attribute.AttributeType.{AttributeType}
use Rattle.wh_policy.specs.declared.attribute.Dim.{Dim}
use Rattle.wh_policy.specs.declared.attribute.Dim.TheVariants.{Product, Store, Customer}
use Rattle.wh_policy.specs.declared.policy.Policy.{Policy}
use Rattle.wh_policy.specs.declared.record.DimensionRecord.{DimensionRecord}
use Rattle.wh_history.specs.Accepted.{Accepted, Content, Describes, policy_after, types_in, described, described_by, profiles_of}
use Rattle.wh_history.specs.Keys.{distinct}
use Rattle.wh_history.specs.Known.{number_in, numbered_from, KnowsEnough}
use Rattle.wh_history.specs.Laws.{governs}
use Rattle.wh_history.specs.Profiles.{combinations_of, profile_number}
use Rattle.wh_history.specs.Slots.{picks, are_same}
use Rattle.wh_history.specs.Tables.{Limits}
use Rattle.wh_history.specs.declared.member.Member.{Member}
use Rattle.wh_history.specs.declared.profiles.NumberedProfile.{NumberedProfile}
use Rattle.wh_history.proofs.Basics.{texts_decide}
use Rattle.wh_history.proofs.Once.{among_distinct}
use Rattle.wh_history.proofs.Owners.{all_distinct}
use Rattle.wh_history.proofs.Stays.{types-last, profiles-last}
use Rattle.wh_history.proofs.Untouched.{described-last}
use Rattle.wh_rows.specs.Tables.{Tables}
use Rattle.wh_rows.specs.declared.rows.ProfileRow.{ProfileRow}
use Rattle.wh_model.specs.Defined.{AreOf, profile_at}
use Rattle.wh_plan.specs.Profiles.{with_combinations, told_of, said_by, number_kept, learned, is_none, unknown, row_of_profile}
use Rattle.wh_plan.specs.BatchRows.{numbers_after}
use Rattle.wh_plan.proofs.FoundProfiles.{number_kept_is}
use Rattle.wh_model.proofs.GrownPlain.{none_of}
use Rattle.wh_plan.proofs.Learning.{any_of, distinct_with, with_append, all_there, any_left, each_change, number_looked_up, number_with, none_known, rows_fresh}
use Rattle.wh_plan.proofs.PlanningLists.{filter_same, fresh_is}

-- the profiles that are in the second list's table and not in the first's
abbrev pub NewProfiles : List Accepted → List Accepted → List ProfileRow
NewProfiles before after = filter_map (profile_at after) (numbers_after (suc (length (profiles_of before))) (suc (length (profiles_of after))))

none_behind : (n : ℕ) → numbers_after n n ≡ []
none_behind n = let none : n - n ≡ 0 = omega arith in ap (range_with_len (suc n)) none

-- where there are as many combinations as before, there are none
none_new : (before after : List Accepted) → length (profiles_of after) ≡ length (profiles_of before) → [] ≡ NewProfiles before after
none_new before after same =
    let count = length (profiles_of before) in
    sym (ap (filter_map (profile_at after)) (ap (λ n. numbers_after (suc count) (suc n)) same ∙ none_behind (suc count)))

-- records of products and stores are none of customers
pub others_bring_nothing : (dim : Dim) (records : List DimensionRecord) → dim ≢ Customer → described_by Customer (Describes dim records) ≡ []
others_bring_nothing Product records other = refl
others_bring_nothing Store records other = refl
others_bring_nothing Customer records other = absurd (other refl)

module _ (commands : List Accepted) (c : Accepted) (dim : Dim) (records : List DimensionRecord) (is : c.content ≡ Describes dim records) where
  abbrev after : List Accepted
  after = commands ++ c ∷ []

  types : types_in Customer after ≡ types_in Customer commands
  types = types-last Customer commands c (ap governs is)

  told : described Customer after ≡ described Customer commands ++ described_by Customer (Describes dim records)
  told = described-last Customer commands c ∙ ap (λ (content : Content). described Customer commands ++ described_by Customer content) is

  -- a batch without a record of a customer brings none
  none_brought : described_by Customer (Describes dim records) ≡ [] → [] ≡ NewProfiles commands after
  none_brought none =
      let same : described Customer after ≡ described Customer commands = told ∙ ap (λ rs. described Customer commands ++ rs) none ∙ append-nil (described Customer commands) in
      none_new commands after (ap (λ kinds. length (combinations_of kinds (described Customer after))) types ∙ ap (λ rs. length (combinations_of (types_in Customer commands) rs)) same)

pub others_bring_none : (commands : List Accepted) (c : Accepted) (dim : Dim) (records : List DimensionRecord) → c.content ≡ Describes dim records → dim ≢ Customer → [] ≡ NewProfiles commands (commands ++ c ∷ [])
others_bring_none commands c dim records is other = none_brought commands c dim records is (others_bring_nothing dim records other)

-- ---- what is known of members

pub types_are : (dim : Dim) (commands : List Accepted) (policy : Policy) → policy_after None commands ≡ Some policy → types_in dim commands ≡ policy_types policy dim
types_are dim commands policy governed = ap (λ (o : Option Policy). unwrap_or (option_map (λ (p : Policy). policy_types p dim) o) []) governed

pub types_few : (dim : Dim) (policy : Policy) → IsSound policy → length (policy_types policy dim) ≤ 6
types_few dim policy sound = let few = (sound.attributes dim).few in let same = length-map (policy_attributes policy dim) (λ (a : Attribute). a.kind) in omega arith

-- of products and stores enough, whatever it is
pub others_known : (dim : Dim) (policy : Policy) → IsSound policy → dim ≢ Customer → (number : List (List ℕ) → Option ℕ) (combinations : List (List (List ℕ))) (ms : List Member) → AllByRecursion (KnowsEnough dim (policy_types policy dim) number combinations) ms
others_known dim policy sound other number combinations [] = tt
others_known dim policy sound other number combinations (m ∷ ms) = (by_dimension dim other (none_of dim policy sound other), others_known dim policy sound other number combinations ms)
  where
    by_dimension : (d : Dim) → d ≢ Customer → list_any is_outrigger (policy_types policy dim) ≡ false → KnowsEnough d (policy_types policy dim) number combinations m
    by_dimension Product apart none = none
    by_dimension Store apart none = none
    by_dimension Customer apart none = absurd (apart refl)

module _ (limits : Limits) (commands : List Accepted) (t : Tables) (are : AreOf limits commands t) (policy : Policy) (governed : policy_after None commands ≡ Some policy) (sound : IsSound policy) where
  abbrev kinds : List AttributeType
  kinds = policy_types policy Customer

  abbrev base : List (List (List ℕ))
  base = profiles_of commands

  kept_is : (values : List (List ℕ)) → number_kept t.profile (picks is_profile kinds values) ≡ profile_number base (picks is_profile kinds values)
  kept_is values = number_kept_is limits commands t are kinds (types_are Customer commands policy governed) (types_few Customer policy sound) values

  looked_up : (ts : List (List (List ℕ))) (values : List (List ℕ)) → any_of (picks is_profile kinds values) ts ≡ true → number_in (learned (number_kept t.profile) (with_combinations [] ts)) (picks is_profile kinds values) ≡ profile_number base (picks is_profile kinds values)
  looked_up ts values among = number_looked_up (number_kept t.profile) ts (picks is_profile kinds values) among ∙ kept_is values

  -- of customers that are stored
  pub customers_known : (ms : List Member) (known : List NumberedProfile) → known ≡ learned (number_kept t.profile) (with_combinations [] (said_by (policy_types policy Customer) ms)) → AllByRecursion (KnowsEnough Customer (policy_types policy Customer) (number_in known) (profiles_of commands)) ms
  customers_known ms known is =
      subst (λ (ks : List NumberedProfile). AllByRecursion (KnowsEnough Customer kinds (number_in ks) base) ms) (sym is)
      (each_change kinds (λ t'. number_in (learned (number_kept t.profile) (with_combinations [] (said_by kinds ms))) t' ≡ profile_number base t') [] ms (looked_up (said_by kinds ms)))

  module _ (c : Accepted) (records : List DimensionRecord) (is : c.content ≡ Describes Customer records) (ms : List Member) where
    abbrev texts_told : List (List (List ℕ))
    texts_told = told_of (policy_types policy Customer) records

    abbrev texts_said : List (List (List ℕ))
    texts_said = said_by (policy_types policy Customer) ms

    abbrev looked : List NumberedProfile
    looked = learned (number_kept t.profile) (with_combinations (with_combinations [] (told_of (policy_types policy Customer) records)) (said_by (policy_types policy Customer) ms))

    abbrev new : List (List (List ℕ))
    new = unknown looked (with_combinations [] texts_told)

    found_number : (values : List (List ℕ)) → any_of (picks is_profile kinds values) (texts_told ++ texts_said) ≡ true → number_in looked (picks is_profile kinds values) ≡ profile_number base (picks is_profile kinds values)
    found_number values among = ap (λ cs. number_in (learned (number_kept t.profile) cs) (picks is_profile kinds values)) (sym (with_append [] texts_told texts_said)) ∙ looked_up (texts_told ++ texts_said) values among

    abbrev pick : DimensionRecord → List (List ℕ)
    pick r = picks is_profile (types_in Customer commands) r.values

    abbrev Tells : List (List ℕ) → Type 0
    Tells x = not (list_any (λ y. are_same y x) (map pick (described Customer commands))) ≡ is_none (number_in looked x)

    tells : (rs : List DimensionRecord) → AllByRecursion (λ x. any_of x texts_told ≡ true) (told_of kinds rs) → AllByRecursion Tells (told_of kinds rs)
    tells [] all = tt
    tells (r ∷ rs) all =
        let x = picks is_profile kinds r.values in (
          sym (ap is_none (found_number r.values (any_left x texts_told texts_said all.0)) ∙ none_known base x ∙ ap not (among_distinct are_same texts_decide x (map pick (described Customer commands)))),
          tells rs all.1,
        )

    -- the new ones are those of which nothing was found
    pub grown : profiles_of commands ++ unknown looked (with_combinations [] (told_of (policy_types policy Customer) records)) ≡ profiles_of (commands ++ c ∷ [])
    grown =
        let types = types_are Customer commands policy governed in
        let brought = ap (described_by Customer) is in
        let each = tells records (all_there texts_told) in
        sym (profiles-last commands c (ap governs is)
        ∙ ap (λ cs. base ++ cs)
        (fresh_is are_same (map pick (described Customer commands)) (distinct are_same (map pick (described_by Customer c.content)))
        ∙ ap (λ rs. filter (λ x. not (list_any (λ y. are_same y x) (map pick (described Customer commands)))) (distinct are_same (map pick rs))) brought
        ∙ ap (λ ks. filter (λ x. not (list_any (λ y. are_same y x) (map pick (described Customer commands)))) (distinct are_same (told_of ks records))) types
        ∙ filter_same (λ x. not (list_any (λ y. are_same y x) (map pick (described Customer commands)))) (λ x. is_none (number_in looked x)) (distinct are_same texts_told) (all_distinct Tells are_same texts_told each)
        ∙ ap (unknown looked) (sym (distinct_with [] texts_told))))

    abbrev next : ℕ
    next = suc (suc (length (profiles_of commands)))

    -- with their numbers enough is known
    pub touched_known : (known : List NumberedProfile) → known ≡ looked ++ numbered_from next (unknown looked (with_combinations [] (told_of (policy_types policy Customer) records))) → AllByRecursion (KnowsEnough Customer (policy_types policy Customer) (number_in known) (profiles_of (commands ++ c ∷ []))) ms
    touched_known known made =
        let at : next ≡ length base + 2 = omega arith in
        let whole = looked ++ numbered_from next new in
        let each = each_change kinds (λ x. number_in whole x ≡ profile_number (base ++ new) x) texts_told ms (λ values among. number_with base new looked next (picks is_profile kinds values) at (found_number values among)) in
        subst (λ (ks : List NumberedProfile). AllByRecursion (KnowsEnough Customer kinds (number_in ks) (profiles_of (commands ++ c ∷ []))) ms) (sym made)
        (subst (λ cs. AllByRecursion (KnowsEnough Customer kinds (number_in whole) cs) ms) grown each)

    pub touched_fresh : map row_of_profile (numbered_from next (unknown looked (with_combinations [] (told_of (policy_types policy Customer) records)))) ≡ NewProfiles commands (commands ++ c ∷ [])
    touched_fresh = rows_fresh commands (commands ++ c ∷ []) new next refl grown

-- how many there were
pub base_few : (commands : List Accepted) (c : Accepted) → governs c.content ≡ false → length (profiles_of (commands ++ c ∷ [])) ≤ 1000000 → suc (length (profiles_of commands)) ≤ 9999999
base_few commands c batch few =
    let grown = ap (λ (cs : List (List (List ℕ))). length cs) (profiles-last commands c batch) in
    let sum = length-append (profiles_of commands) _ in
    let whole = grown ∙ sum in
    omega arith
