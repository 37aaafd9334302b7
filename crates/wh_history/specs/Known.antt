-- The numbers of combinations of profile values, as far as they are known.
use Rattle.std.specs.Prelude.{◌≡◌, ℕ, suc, false, List, [], ◌∷◌, Option, option_map, find}
use Rattle.std.specs.List.{list_any, AllByRecursion}
use Rattle.wh_policy.specs.Types.{is_profile, is_outrigger}
use Rattle.wh_policy.specs.declared.attribute.AttributeType.{AttributeType}
use Rattle.wh_policy.specs.declared.attribute.Dim.{Dim}
use Rattle.wh_policy.specs.declared.attribute.Dim.TheVariants.{Product, Store, Customer}
use Rattle.wh_history.specs.Profiles.{profile_number}
use Rattle.wh_history.specs.Slots.{picks, are_same}
use Rattle.wh_history.specs.declared.member.Change.{Change}
use Rattle.wh_history.specs.declared.member.Member.{Member}
use Rattle.wh_history.specs.declared.profiles.NumberedProfile.{NumberedProfile}

-- the number that is known of a combination, if one is
abbrev pub number_in : List NumberedProfile → List (List ℕ) → Option ℕ
number_in known texts = option_map (λ k. k.number) (find (λ k. are_same k.texts texts) known)

-- combinations with their numbers, from one on
abbrev pub numbered_from : ℕ → List (List (List ℕ)) → List NumberedProfile
numbered_from next [] = []
numbered_from next (texts ∷ more) = record { texts = texts; number = next } ∷ numbered_from (suc next) more

-- all combinations that were accepted, with their numbers: the first has 2
abbrev pub all_numbered : List (List (List ℕ)) → List NumberedProfile
all_numbered = numbered_from 2

-- the combinations of some changes are known: a function gives them the numbers that they have among all combinations
abbrev pub KnowsChange : List AttributeType → (List (List ℕ) → Option ℕ) → List (List (List ℕ)) → Change → Type 0
KnowsChange kinds number combinations c = number (picks is_profile kinds c.values) ≡ profile_number combinations (picks is_profile kinds c.values)

abbrev pub KnowsMember : List AttributeType → (List (List ℕ) → Option ℕ) → List (List (List ℕ)) → Member → Type 0
KnowsMember kinds number combinations m = AllByRecursion (KnowsChange kinds number combinations) m.changes

-- enough is known of a member of a dimension for its rows and its facts: for a product or a store nothing, where their rows show no profile
abbrev pub KnowsEnough : Dim → List AttributeType → (List (List ℕ) → Option ℕ) → List (List (List ℕ)) → Member → Type 0
KnowsEnough Product kinds number combinations m = list_any is_outrigger kinds ≡ false
KnowsEnough Store kinds number combinations m = list_any is_outrigger kinds ≡ false
KnowsEnough Customer kinds number combinations m = KnowsMember kinds number combinations m
