-- The slots of a dimension's attributes, and the values that stand in them.
use Rattle.std.specs.Prelude.{ℕ, ◌-◌, suc, Bool, if◌then◌else◌, List, [], ◌∷◌, ◌++◌, length, replicate, slice_index_or}
use Rattle.wh_day.specs.Value.{none_text}
pub use Rattle.wh_day.specs.Value.{are_same}
use Rattle.wh_policy.specs.declared.attribute.AttributeType.{AttributeType}

-- the value in a slot; a record that was accepted before the slot was there has none
abbrev pub slot : List (List ℕ) → ℕ → List ℕ
slot values place = slice_index_or values place none_text

-- a text for each slot from that place on
abbrev pub columns_from : (ℕ → AttributeType → List ℕ) → ℕ → List AttributeType → List (List ℕ)
columns_from column place [] = []
columns_from column place (kind ∷ kinds) = column place kind ∷ columns_from column (suc place) kinds

-- the value in a slot that counts, and no text in another
abbrev pub picked : (AttributeType → Bool) → List (List ℕ) → ℕ → AttributeType → List ℕ
picked counts values place kind = if counts kind then slot values place else []

-- the values in the slots that count
abbrev pub picks : (AttributeType → Bool) → List AttributeType → List (List ℕ) → List (List ℕ)
picks counts kinds values = columns_from (picked counts values) 0 kinds

-- texts for six slots, with a text for those that are not there
abbrev pub padded : List ℕ → List (List ℕ) → List (List ℕ)
padded text texts = texts ++ replicate (6 - length texts) text

-- the texts of a table's six columns
abbrev pub six : List (List ℕ) → List (List ℕ)
six texts = padded [] texts
