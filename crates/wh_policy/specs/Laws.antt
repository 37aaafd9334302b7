-- The laws of policy files.
use Rattle.std.specs.Prelude.{◌≡◌, ◌≢◌, ℕ, ◌+◌, ◌<◌, ◌≤◌, true, ℤ, pos, ◌↔◌, IsTrue, List, ◌++◌, map, Some, None, Ok, Err, IsOk, All, slice_get}
use Rattle.toml.specs.Data.{Members}
use Rattle.wh_day.specs.Day.{is_day}
use Rattle.wh_policy.specs.declared.attribute.Attribute.{Attribute}
use Rattle.wh_policy.specs.declared.attribute.AttributeType.{AttributeType}
use Rattle.wh_policy.specs.declared.attribute.Dim.{Dim}
use Rattle.wh_policy.specs.declared.fault.PolicyFault.{PolicyFault}
use Rattle.wh_policy.specs.declared.fault.PolicyFault.TheVariants.{NotToml}
use Rattle.wh_policy.specs.declared.policy.Policy.{Policy}
use Rattle.wh_policy.specs.declared.policy.Years.{Years}
use Rattle.wh_policy.specs.Names.{slot_from, fits}
use Rattle.wh_policy.specs.Policy.{policy_attributes, read_policy}
use Rattle.wh_policy.specs.Types.{attribute_type_number, attribute_type_of_number}
use Rattle.wh_policy.specs.Years.{is_within, first_key, end_key}
use Rattle.wh_policy.specs.Written.{IsDocument, IsFreeOf, Writes, IsSound}

-- a file is accepted exactly where it is a TOML table that is free of every fault
abbrev pub IsAcceptedExactly : Type 0
IsAcceptedExactly = (bytes : List ℕ) → IsOk (read_policy bytes) ↔ ((members : Members) × IsDocument bytes members × ((fault : PolicyFault) → IsFreeOf fault members))

-- the fault that is answered is in the file
abbrev pub FaultsAreThere : Type 0
FaultsAreThere = (bytes : List ℕ) (members : Members) (fault : PolicyFault) → IsDocument bytes members → read_policy bytes ≡ Err fault → ¬ IsFreeOf fault members

-- a file is no TOML table exactly where that is the answer
abbrev pub IsNotTomlExactly : Type 0
IsNotTomlExactly = (bytes : List ℕ) → (read_policy bytes ≡ Err NotToml) ↔ ((members : Members) → ¬ IsDocument bytes members)

-- and it is read as exactly the policy that it writes
abbrev pub IsReadAsWritten : Type 0
IsReadAsWritten = (bytes : List ℕ) (policy : Policy)
    → (read_policy bytes ≡ Ok policy) ↔ ((members : Members) × IsDocument bytes members × ((fault : PolicyFault) → IsFreeOf fault members) × Writes members policy)

-- every policy that is read has one to six attributes a dimension with names of their own, up to 30 years, and its holidays within them
abbrev pub PoliciesAreSound : Type 0
PoliciesAreSound = (bytes : List ℕ) (policy : Policy) → read_policy bytes ≡ Ok policy → IsSound policy

-- a type is found by its number, and by no other
abbrev pub TypesHaveNumbers : Type 0
TypesHaveNumbers = (number : ℤ) (kind : AttributeType) → (attribute_type_of_number number ≡ Some kind) ↔ (number ≡ pos (attribute_type_number kind))

-- the attribute at this place, from 0, has the name and the type of this number
pub record StandsAt (attributes : List Attribute) (place : ℕ) (name : List ℕ) (number : ℕ) : Type 0 where
  pub attribute : Attribute
  pub there : slice_get attributes place ≡ Some attribute
  pub same_name : attribute.name ≡ name
  pub same_type : attribute_type_number attribute.kind ≡ number

-- in a sound policy a name is found with a slot and a type exactly where it stands there with it; slots go from 1
abbrev pub NamesAreFound : Type 0
NamesAreFound = (policy : Policy) (dim : Dim) (name : List ℕ) (place number : ℕ) → IsSound policy
    → (slot_from 1 name (policy_attributes policy dim) ≡ Some (1 + place, number)) ↔ StandsAt (policy_attributes policy dim) place name number

-- and no other name is found, whatever the policy
abbrev pub NoOthersAreFound : Type 0
NoOthersAreFound = (policy : Policy) (dim : Dim) (name : List ℕ) → (slot_from 1 name (policy_attributes policy dim) ≡ None) ↔ All (λ a. a.name ≢ name) (policy_attributes policy dim)

-- the names of a dimension, by slot
abbrev pub names_of : Policy → Dim → List (List ℕ)
names_of policy dim = map (λ a. a.name) (policy_attributes policy dim)

-- the newer policy has the old names in their slots and may have more after them, and has the old years
pub record IsFit (old new : Policy) : Type 0 where
  pub names : (dim : Dim) → (more : List (List ℕ)) × (names_of new dim ≡ names_of old dim ++ more)
  pub from : new.years.first ≤ old.years.first
  pub to : old.years.last ≤ new.years.last

-- that is what fits
abbrev pub FitsExactly : Type 0
FitsExactly = (old new : Policy) → IsTrue (fits old new) ↔ IsFit old new

-- a day lies in some years exactly where it is between their two keys: from the first, and before the second
abbrev pub DaysLieBetweenTheKeys : Type 0
DaysLieBetweenTheKeys = (years : Years) (day : ℕ) → is_day day ≡ true → (is_within years day ≡ true) ↔ ((first_key years ≤ day) × (day < end_key years))
