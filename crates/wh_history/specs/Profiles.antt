-- The combinations of profile values, and their numbers.
use Rattle.std.specs.Prelude.{ℕ, zero, suc, if◌then◌else◌, List, map, Option, Some, None, unwrap_or}
use Rattle.std.specs.List.{list_any}
use Rattle.wh_policy.specs.Types.{is_profile, is_outrigger}
use Rattle.wh_policy.specs.declared.attribute.AttributeType.{AttributeType}
use Rattle.wh_policy.specs.declared.record.DimensionRecord.{DimensionRecord}
use Rattle.wh_history.specs.Keys.{distinct, place}
use Rattle.wh_history.specs.Slots.{picks, are_same}
use Rattle.wh_history.specs.Dated.{dated, newest}
use Rattle.wh_history.specs.declared.member.Change.{Change}
use Rattle.wh_history.specs.declared.member.Member.{Member}

-- the distinct combinations of profile values of records, in order of first acceptance
abbrev pub combinations_of : List AttributeType → List DimensionRecord → List (List (List ℕ))
combinations_of kinds records = distinct are_same (map (λ r. picks is_profile kinds r.values) records)

-- the number of a place after those of no card and unknown: the first combination has 2
abbrev pub after_unknown : ℕ → Option ℕ
after_unknown zero = None
after_unknown (suc n) = Some (suc (suc n))

-- the number of a combination of profile values among those that were accepted, in order
abbrev pub profile_number : List (List (List ℕ)) → List (List ℕ) → Option ℕ
profile_number combinations texts = after_unknown (place are_same texts combinations)

-- the number of a change's combination, where a function gives those of combinations; it is 1 where no change says one
abbrev pub current_by : List AttributeType → (List (List ℕ) → Option ℕ) → Option Change → ℕ
current_by kinds number None = 1
current_by kinds number (Some c) = unwrap_or (number (picks is_profile kinds c.values)) 0

-- the number that a member's rows then show: that of the greatest day's combination, where an attribute is of type 5
abbrev pub profile_now_by : List AttributeType → (List (List ℕ) → Option ℕ) → Member → ℕ
profile_now_by kinds number m = if list_any is_outrigger kinds then current_by kinds number (newest (dated m.changes)) else 0

-- both by the combinations that were accepted
abbrev pub current_profile : List AttributeType → List (List (List ℕ)) → Option Change → ℕ
current_profile kinds combinations = current_by kinds (profile_number combinations)

abbrev pub profile_now : List AttributeType → List (List (List ℕ)) → Member → ℕ
profile_now kinds combinations = profile_now_by kinds (profile_number combinations)
