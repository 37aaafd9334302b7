-- What holds of the records that carry members, of their texts, and of the file that they begin.
use Rattle.std.specs.Prelude.{◌≡◌, ◌⊎◌, ◌≤◌, ℕ, true, false, List, [], ◌∷◌, ◌++◌, length, map, flat_map, slice_get, Some, None, Ok}
use Rattle.std.specs.List.{AllByRecursion, IsDistinct, list_any}
use Rattle.wh_day.specs.Day.{is_day}
use Rattle.wh_day.specs.NaturalKey.{is_key}
use Rattle.wh_day.specs.Value.{none_text, is_given}
use Rattle.wh_policy.specs.Policy.{policy_attributes}
use Rattle.wh_policy.specs.Types.{is_profile}
use Rattle.wh_policy.specs.declared.attribute.AttributeType.{AttributeType}
use Rattle.wh_policy.specs.declared.attribute.Dim.{Dim}
use Rattle.wh_policy.specs.declared.policy.Policy.{Policy}
use Rattle.wh_policy.specs.declared.record.DimensionRecord.{DimensionRecord}
use Rattle.wh_batch.specs.Batch.{is_same_key}
use Rattle.wh_batch.specs.Fields.{last_effective_day}
use Rattle.wh_batch.specs.Layouts.{dimension_key, dimension_records}
use Rattle.wh_history.specs.Accepted.{Accepted, types_in, policy_after, described, changes_of, profiles_of}
use Rattle.wh_history.specs.Dated.{dated, value_at, latest, original, prior}
use Rattle.wh_history.specs.Laws.{governs}
use Rattle.wh_history.specs.Slots.{are_same}
use Rattle.wh_history.specs.Tables.{Limits, member_rows}
use Rattle.wh_history.specs.declared.member.Change.{Change}
use Rattle.wh_history.specs.declared.rows.DimRow.{DimRow}
use Rattle.wh_admission.specs.Admission.{AreAdmitted}
use Rattle.wh_records.specs.Carried.{firsts_of, records_of, firsts_between, records_between, carried}
use Rattle.wh_records.specs.Texts.{records_text}
use Rattle.wh_records.specs.Parts.{parts, batches_of, parts_in_turn, carrying}

-- ---- the text

-- a text that some field is read as
abbrev pub IsReadValue : List ℕ → Type 0
IsReadValue value = (value ≡ none_text) ⊎ (is_given value ≡ true)

-- a record that a batch of so many attributes can hold
pub record IsWritable (slots : ℕ) (r : DimensionRecord) : Type 0 where
  pub natural : is_key 32 r.natural ≡ true
  pub day : is_day r.day ≡ true
  pub early : r.day ≤ last_effective_day
  pub whole : length r.values ≡ slots
  pub values : AllByRecursion IsReadValue r.values

-- records that one batch can hold
pub record AreABatch (dim : Dim) (policy : Policy) (records : List DimensionRecord) : Type 0 where
  pub each : AllByRecursion (IsWritable (length (policy_attributes policy dim))) records
  pub distinct : IsDistinct is_same_key (map dimension_key records)
  pub few : length records ≤ 5000
  pub short : length (records_text (policy_attributes policy dim) records) ≤ 1000000

-- Read under the policy whose header it has, the text gives just its records, and no fault.
abbrev pub TextsAreReadAgain : Type 0
TextsAreReadAgain = (dim : Dim) (policy : Policy) (records : List DimensionRecord) → AreABatch dim policy records
    → dimension_records dim policy (records_text (policy_attributes policy dim) records) ≡ Ok records

-- ---- the parts

-- The parts of records that are written, each once, are batches, and together are these records.
pub record AreParts (dim : Dim) (policy : Policy) (records : List DimensionRecord) (found : List (List DimensionRecord)) : Type 0 where
  pub whole : flat_map (λ part. part) found ≡ records
  pub batches : AllByRecursion (AreABatch dim policy) found

-- the policy in force has the attributes
abbrev pub IsInForce : List Accepted → Policy → Type 0
IsInForce commands policy = policy_after None commands ≡ Some policy

-- What is carried of a dimension stands in batches without a fault: the first records, and the dated ones.
abbrev pub CarriedRecordsAreBatches : Type 0
CarriedRecordsAreBatches = (limits : Limits) (commands : List Accepted) (dim : Dim) (policy : Policy) → AreAdmitted limits commands → IsInForce commands policy
    → AreParts dim policy (firsts_of dim commands) (parts (policy_attributes policy dim) (firsts_of dim commands))
    × AreParts dim policy (records_of dim commands) (parts (policy_attributes policy dim) (records_of dim commands))

-- So does what is carried of a range of its members.
abbrev pub RangesAreBatches : Type 0
RangesAreBatches = (limits : Limits) (commands : List Accepted) (dim : Dim) (policy : Policy) (after last : ℕ) → AreAdmitted limits commands → IsInForce commands policy
    → AreParts dim policy (firsts_between dim commands after last) (parts (policy_attributes policy dim) (firsts_between dim commands after last))
    × AreParts dim policy (records_between dim commands after last) (parts (policy_attributes policy dim) (records_between dim commands after last))

-- Asked for one after the other, each from where the one before ended, the parts of a dimension are just its batches.
abbrev pub PartsInTurnAreAll : Type 0
PartsInTurnAreAll = (limits : Limits) (commands : List Accepted) (dim : Dim) (policy : Policy) → AreAdmitted limits commands → IsInForce commands policy
    → (n : ℕ) → length (carried dim commands) ≤ n → parts_in_turn n (policy_attributes policy dim) (firsts_of dim commands) (records_of dim commands) 0 ≡ batches_of policy commands dim

-- ---- the next file

-- a change without the surrogate key that was drawn for it
abbrev pub unnumbered : Change → Change
unnumbered c = record { day = c.day; anchor = 0; values = c.values }

-- what is known of a member is the same, but for its numbers: the dated list, and so the value at each day, the latest and the prior one; and the original of each attribute outside the profile
pub record SaysTheSame (kinds : List AttributeType) (changes others : List Change) : Type 0 where
  pub by_day : map unnumbered (dated changes) ≡ map unnumbered (dated others)
  pub at_day : (day place : ℕ) → value_at day place changes ≡ value_at day place others
  pub newest : (place : ℕ) → latest place changes ≡ latest place others
  pub before : (place : ℕ) → prior place changes ≡ prior place others
  pub first : (place : ℕ) (kind : AttributeType) → slice_get kinds place ≡ Some kind → is_profile kind ≡ false → original place changes ≡ original place others

-- The next commands are under the same policy, and have the records that are carried and no others.
pub record Carries (commands next : List Accepted) : Type 0 where
  pub policy : policy_after None next ≡ policy_after None commands
  pub records : (dim : Dim) → described dim next ≡ carried dim commands

-- Then each dimension says of each natural key what it said before; of one without a record nothing, in both.
abbrev pub MembersAreCarried : Type 0
MembersAreCarried = (limits : Limits) (commands next : List Accepted) → AreAdmitted limits commands → Carries commands next
    → (dim : Dim) (natural : List ℕ) → SaysTheSame (types_in dim commands) (changes_of dim next natural) (changes_of dim commands natural)

-- So it stays, whatever the next file accepts further: it says what the older one would say if that had gone on with the same.
abbrev pub MembersGoOn : Type 0
MembersGoOn = (limits others : Limits) (commands next more : List Accepted) → AreAdmitted limits commands → Carries commands next → AreAdmitted others (next ++ more)
    → (dim : Dim) (natural : List ℕ) → SaysTheSame (types_in dim commands) (changes_of dim (next ++ more) natural) (changes_of dim (commands ++ more) natural)

-- a row without its numbers
abbrev pub without_numbers : DimRow → DimRow
without_numbers r = record r { surrogate = 0; durable = 0; profile_now = 0 }

-- So the member has the same rows, but for their numbers: as many, of the same days, with the same texts in each column.
abbrev pub RowsAreCarried : Type 0
RowsAreCarried = (limits : Limits) (commands next : List Accepted) → AreAdmitted limits commands → Carries commands next
    → (dim : Dim) (natural : List ℕ) → map without_numbers (member_rows next dim natural) ≡ map without_numbers (member_rows commands dim natural)

-- And the carried records bring no combination of profile values that wasn't accepted before.
abbrev pub NoCombinationComesAbout : Type 0
NoCombinationComesAbout = (limits : Limits) (commands next : List Accepted) → AreAdmitted limits commands → Carries commands next
    → AllByRecursion (λ texts. list_any (λ other. are_same other texts) (profiles_of commands) ≡ true) (profiles_of next)

-- So it is of a making under the policy in force and the batches of the parts, under any ids.
abbrev pub CarryingCarries : Type 0
CarryingCarries = (limits : Limits) (commands next : List Accepted) (policy : Policy) → AreAdmitted limits commands → IsInForce commands policy
    → map (λ c. c.content) next ≡ carrying policy commands → Carries commands next

-- a command that holds no record and gives no policy
pub record IsNoNews (c : Accepted) : Type 0 where
  pub no_policy : governs c.content ≡ false
  pub no_record : (dim : Dim) → described dim (c ∷ []) ≡ []

-- Sales, voids and an upgrade after them leave it so.
abbrev pub SalesLeaveItSo : Type 0
SalesLeaveItSo = (commands next : List Accepted) (c : Accepted) → Carries commands next → IsNoNews c → Carries commands (next ++ c ∷ [])
