-- Records in parts that are batches: each of at most 5,000 records and 1,000,000 bytes.
use Rattle.std.specs.Prelude.{◌≡◌, ℕ, zero, suc, ◌+◌, ◌-◌, nat_le, if◌then◌else◌, List, [], ◌∷◌, ◌++◌, length, map, flat_map, drop, take}
use Rattle.wh_policy.specs.Policy.{policy_attributes}
use Rattle.wh_policy.specs.Words.{every_dim}
use Rattle.wh_policy.specs.declared.attribute.Attribute.{Attribute}
use Rattle.wh_policy.specs.declared.attribute.Dim.{Dim}
use Rattle.wh_policy.specs.declared.policy.Policy.{Policy}
use Rattle.wh_policy.specs.declared.record.DimensionRecord.{DimensionRecord}
use Rattle.wh_history.specs.Accepted.{Accepted, Content, Governs, Describes}
use Rattle.wh_records.specs.Carried.{firsts_of, records_of}
use Rattle.wh_records.specs.Texts.{record_line, header_line, records_text}
use Rattle.wh_records.specs.declared.part.Part.{Part}

-- how many of the first records fit: at most this many, whose lines have room together
abbrev pub fitting : (most room : ℕ) → List DimensionRecord → ℕ
fitting zero room records = 0
fitting (suc n) room [] = 0
fitting (suc n) room (r ∷ rs) = if nat_le (length (record_line r)) room then suc (fitting n (room - length (record_line r)) rs) else 0

-- the records of the first part
unfoldable pub part_length : List Attribute → List DimensionRecord → ℕ
part_length attributes records = fitting 5000 (1000000 - length (header_line attributes)) records

abbrev pub part_of : List Attribute → List DimensionRecord → List DimensionRecord
part_of attributes records = take (part_length attributes records) records

-- the part that begins with the record at this place, counted from 0
abbrev pub part_from : List Attribute → List DimensionRecord → ℕ → List DimensionRecord
part_from attributes records k = part_of attributes (drop k records)

-- all parts, one after the other; there are no more than records
abbrev pub parts_within : ℕ → List Attribute → List DimensionRecord → List (List DimensionRecord)
parts_within zero attributes records = []
parts_within (suc n) attributes [] = []
parts_within (suc n) attributes (r ∷ rs) = part_of attributes (r ∷ rs) ∷ parts_within n attributes (drop (part_length attributes (r ∷ rs)) (r ∷ rs))

abbrev pub parts : List Attribute → List DimensionRecord → List (List DimensionRecord)
parts attributes records = parts_within (length records) attributes records

-- ---- a part of all that is carried of a dimension

-- The place is counted through the first records and then the dated ones. No part holds both.
abbrev pub carried_part : List Attribute → (firsts dated : List DimensionRecord) → ℕ → List DimensionRecord
carried_part attributes firsts dated place = if nat_le (suc place) (length firsts) then part_from attributes firsts place else part_from attributes dated (place - length firsts)

-- the part, of all that is carried of a dimension, that begins at this place
abbrev pub part_at : Policy → List Accepted → Dim → ℕ → List DimensionRecord
part_at policy commands dim place = carried_part (policy_attributes policy dim) (firsts_of dim commands) (records_of dim commands) place

-- this is that part, as a batch
pub record IsPartAt (policy : Policy) (commands : List Accepted) (dim : Dim) (place : ℕ) (part : Part) : Type 0 where
  pub text : part.text.items ≡ records_text (policy_attributes policy dim) (part_at policy commands dim place)
  pub records : part.records ≡ length (part_at policy commands dim place)

-- the parts from a place on, at most so many, each from where the one before ended, until one is empty
abbrev pub parts_in_turn : ℕ → List Attribute → (firsts dated : List DimensionRecord) → ℕ → List (List DimensionRecord)
parts_in_turn zero attributes firsts dated place = []
parts_in_turn (suc n) attributes firsts dated place =
    let part = carried_part attributes firsts dated place in
    if nat_le 1 (length part) then part ∷ parts_in_turn n attributes firsts dated (place + length part) else []

-- ---- the commands that carry members

-- the batches of a dimension: first records stand in batches of their own, since a batch has a member's day only once
abbrev pub batches_of : Policy → List Accepted → Dim → List (List DimensionRecord)
batches_of policy commands dim = parts (policy_attributes policy dim) (firsts_of dim commands) ++ parts (policy_attributes policy dim) (records_of dim commands)

-- what the first commands of the next file hold: a making under the policy in force, and the batches of each dimension
abbrev pub carrying : Policy → List Accepted → List Content
carrying policy commands = Governs policy ∷ flat_map (λ dim. map (Describes dim) (batches_of policy commands dim)) every_dim
