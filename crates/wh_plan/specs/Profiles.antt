-- What a batch has to know of combinations of profile values, and what is read for it.
use Rattle.std.specs.Prelude.{◌≡◌, ℕ, suc, if◌then◌else◌, nat_le, find, Bool, true, false, List, [], ◌∷◌, ◌++◌, map, filter, filter_map, flat_map, length, Option, Some, None, option_map}
use Rattle.std.specs.FinMap.{FinMap, values}
use Rattle.std.specs.List.{list_any, AllByRecursion}
use Rattle.wh_policy.specs.Types.{is_profile}
use Rattle.wh_policy.specs.declared.attribute.AttributeType.{AttributeType}
use Rattle.wh_policy.specs.declared.attribute.Dim.{Dim}
use Rattle.wh_policy.specs.declared.record.DimensionRecord.{DimensionRecord}
use Rattle.wh_history.specs.Accepted.{Accepted, profiles_of}
use Rattle.wh_history.specs.Known.{number_in, KnowsEnough}
use Rattle.wh_history.specs.Slots.{picks, six, are_same}
use Rattle.wh_history.specs.declared.member.Change.{Change}
use Rattle.wh_history.specs.declared.member.Member.{Member}
use Rattle.wh_history.specs.declared.profiles.NumberedProfile.{NumberedProfile}
use Rattle.wh_rows.specs.declared.rows.ProfileRow.{ProfileRow}
use Rattle.wh_rows.specs.Rows as row
use Rattle.wh_sql.specs.Answers.{same_slots}
use Rattle.wh_model.specs.Defined.{profile_at}
use Rattle.wh_plan.specs.BatchRows.{numbers_after}
use Rattle.wh_plan.specs.declared.profiles.KnownProfiles.{KnownProfiles}

-- combinations with one more, unless it is there
abbrev pub with_combination : List (List (List ℕ)) → List (List ℕ) → List (List (List ℕ))
with_combination combinations texts = if list_any (λ c. are_same c texts) combinations then combinations else combinations ++ texts ∷ []

-- with some more, in their order
abbrev pub with_combinations : List (List (List ℕ)) → List (List (List ℕ)) → List (List (List ℕ))
with_combinations combinations [] = combinations
with_combinations combinations (t ∷ ts) = with_combinations (with_combination combinations t) ts

-- the combinations of records, of changes and of members, as they come
abbrev pub told_of : List AttributeType → List DimensionRecord → List (List (List ℕ))
told_of kinds records = map (λ r. picks is_profile kinds r.values) records

abbrev pub said_of : List AttributeType → List Change → List (List (List ℕ))
said_of kinds changes = map (λ c. picks is_profile kinds c.values) changes

abbrev pub said_by : List AttributeType → List Member → List (List (List ℕ))
said_by kinds members = flat_map (λ m. said_of kinds m.changes) members

-- the number that a combination has in a table of profiles: the rows of no card and unknown don't count, which may have its values
abbrev pub number_kept : FinMap row.profile.order ProfileRow → List (List ℕ) → Option ℕ
number_kept table texts = option_map (λ r. r.number) (find (λ r. nat_le 2 r.number) (filter (λ r. same_slots texts r.values) (values table)))

-- of some combinations those that have a number, with it
abbrev pub numbered_as : (List (List ℕ) → Option ℕ) → List (List ℕ) → Option NumberedProfile
numbered_as number texts = option_map (λ n. record { texts = texts; number = n }) (number texts)

abbrev pub learned : (List (List ℕ) → Option ℕ) → List (List (List ℕ)) → List NumberedProfile
learned number combinations = filter_map (numbered_as number) combinations

-- whether nothing is known of a combination
abbrev pub is_none : Option ℕ → Bool
is_none None = true
is_none (Some n) = false

abbrev pub unknown : List NumberedProfile → List (List (List ℕ)) → List (List (List ℕ))
unknown known combinations = filter (λ t. is_none (number_in known t)) combinations

-- the row of a combination with its number
abbrev pub row_of_profile : NumberedProfile → ProfileRow
row_of_profile k = record { number = k.number; values = six k.texts }

-- What is read of profiles for a batch: enough of the members' for their rows and facts, and the rows of the profiles that it is the first to show.
pub record IsLearned (dim : Dim) (kinds : List AttributeType) (before after : List Accepted) (members : List Member) (profiles : KnownProfiles) : Type 0 where
  pub enough : AllByRecursion (KnowsEnough dim kinds (number_in profiles.known) (profiles_of after)) members
  pub fresh : profiles.fresh.items ≡ filter_map (profile_at after) (numbers_after (suc (length (profiles_of before))) (suc (length (profiles_of after))))
