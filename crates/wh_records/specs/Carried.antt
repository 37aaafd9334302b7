-- The records by which the members of one warehouse file are carried to the next.
use Rattle.std.specs.Prelude.{◌≡◌, ◌≤◌, ℕ, if◌then◌else◌, List, [], ◌∷◌, ◌++◌, length, map, flat_map, take, drop}
use Rattle.wh_day.specs.NaturalKey.{is_key}
use Rattle.wh_policy.specs.Types.{is_profile}
use Rattle.wh_policy.specs.declared.attribute.AttributeType.{AttributeType}
use Rattle.wh_policy.specs.declared.attribute.Dim.{Dim}
use Rattle.wh_policy.specs.declared.record.DimensionRecord.{DimensionRecord}
use Rattle.wh_history.specs.Accepted.{Accepted, types_in, members, changes_of}
use Rattle.wh_history.specs.Dated.{dated, original}
use Rattle.wh_history.specs.Slots.{are_same, columns_from, slot}
use Rattle.wh_history.specs.declared.member.Change.{Change}
use Rattle.wh_history.specs.declared.member.Member.{Member}
use Rattle.wh_records.specs.declared.member.RecordKind.{RecordKind}
use Rattle.wh_records.specs.declared.member.RecordKind.TheVariants.{First, Dated}

-- ---- what a member's history says of its days

-- a change as a record: its values in the slots that there are, where one that it was accepted without is none
abbrev pub record_as : ℕ → List ℕ → Change → DimensionRecord
record_as slots natural c = record { natural = natural; day = c.day; values = take slots c.values }

-- a member's records by its dated list: of a day that has more than one the last
abbrev pub dated_records : ℕ → List ℕ → List Change → List DimensionRecord
dated_records slots natural changes = map (record_as slots natural) (dated changes)

-- ---- what it says of the order in which they were accepted

-- what the first record says in a slot: the original value, but in a slot of the profile its own one, so that no new combination comes about
abbrev pub first_value : List Change → Change → ℕ → AttributeType → List ℕ
first_value changes first place kind = if is_profile kind then slot first.values place else original place changes

abbrev pub first_values : List AttributeType → List Change → Change → List (List ℕ)
first_values kinds changes first = columns_from (first_value changes first) 0 kinds

-- the first record, which is accepted before the dated ones, of the first of their days. It is needed only where these, in order of their days, give other original values
abbrev pub first_among : List AttributeType → List ℕ → List Change → List Change → List DimensionRecord
first_among kinds natural changes [] = []
first_among kinds natural changes (first ∷ later) =
    if are_same (first_values kinds (first ∷ later) first) (first_values kinds changes first) then []
    else record { natural = natural; day = first.day; values = first_values kinds changes first } ∷ []

abbrev pub first_records : List AttributeType → List ℕ → List Change → List DimensionRecord
first_records kinds natural changes = first_among kinds natural changes (dated changes)

-- ---- of all members, in order of their durable keys

-- how many slots a dimension has under the policy in force
abbrev pub slots_in : Dim → List Accepted → ℕ
slots_in dim commands = length (types_in dim commands)

-- the dated records of a dimension; a member without a record has none
abbrev pub records_of : Dim → List Accepted → List DimensionRecord
records_of dim commands = flat_map (λ natural. dated_records (slots_in dim commands) natural (changes_of dim commands natural)) (members dim commands)

-- the first records of a dimension, of the members that need one
abbrev pub firsts_of : Dim → List Accepted → List DimensionRecord
firsts_of dim commands = flat_map (λ natural. first_records (types_in dim commands) natural (changes_of dim commands natural)) (members dim commands)

-- the records of a dimension of one kind, first or dated
abbrev pub carried_of : RecordKind → Dim → List Accepted → List DimensionRecord
carried_of First dim commands = firsts_of dim commands
carried_of Dated dim commands = records_of dim commands

-- all that is carried of a dimension
abbrev pub carried : Dim → List Accepted → List DimensionRecord
carried dim commands = firsts_of dim commands ++ records_of dim commands

-- ---- of members that were read

-- the records of a kind of a member
abbrev pub kind_records : RecordKind → List AttributeType → List ℕ → List Change → List DimensionRecord
kind_records First kinds natural changes = first_records kinds natural changes
kind_records Dated kinds natural changes = dated_records (length kinds) natural changes

-- those of one that was read; of one whose name is no key none, since no record has that name
abbrev pub member_records : RecordKind → List AttributeType → Member → List DimensionRecord
member_records kind kinds m = if is_key 32 m.natural then kind_records kind kinds m.natural m.changes else []

-- ---- a range of members at a time

-- the members whose durable keys are past a number and up to another
abbrev pub members_between : Dim → List Accepted → (after last : ℕ) → List (List ℕ)
members_between dim commands after last = drop after (take last (members dim commands))

-- the records of a kind of these
abbrev pub carried_between : RecordKind → Dim → List Accepted → (after last : ℕ) → List DimensionRecord
carried_between kind dim commands after last = flat_map (λ natural. kind_records kind (types_in dim commands) natural (changes_of dim commands natural)) (members_between dim commands after last)

abbrev pub firsts_between : Dim → List Accepted → (after last : ℕ) → List DimensionRecord
firsts_between dim commands after last = carried_between First dim commands after last

abbrev pub records_between : Dim → List Accepted → (after last : ℕ) → List DimensionRecord
records_between dim commands after last = carried_between Dated dim commands after last

-- What is carried of two ranges, one after the other, is what is carried of both together; and all members are a range.
pub record RangesAreJoined (dim : Dim) (commands : List Accepted) : Type 0 where
  pub firsts : (after middle last : ℕ) → after ≤ middle → middle ≤ last → firsts_between dim commands after last ≡ firsts_between dim commands after middle ++ firsts_between dim commands middle last
  pub dated : (after middle last : ℕ) → after ≤ middle → middle ≤ last → records_between dim commands after last ≡ records_between dim commands after middle ++ records_between dim commands middle last
  pub all_firsts : (last : ℕ) → length (members dim commands) ≤ last → firsts_between dim commands 0 last ≡ firsts_of dim commands
  pub all_dated : (last : ℕ) → length (members dim commands) ≤ last → records_between dim commands 0 last ≡ records_of dim commands
