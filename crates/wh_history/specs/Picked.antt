-- The rows of members in order of surrogate key, by the members that own the keys.
use Rattle.std.specs.Prelude.{ℕ, suc, List, [], ◌∷◌, Option}
use Rattle.std.specs.Option.{option_and_then}
use Rattle.std.specs.List.{cons_option}
use Rattle.wh_policy.specs.declared.attribute.Dim.{Dim}
use Rattle.wh_policy.specs.declared.attribute.Dim.TheVariants.{Product, Store, Customer}
use Rattle.wh_policy.specs.declared.attribute.AttributeType.{AttributeType}
use Rattle.wh_policy.specs.declared.record.DimensionRecord.{DimensionRecord}
use Rattle.wh_history.specs.Keys.{at_place}
use Rattle.wh_history.specs.Profiles.{combinations_of}
use Rattle.wh_history.specs.Tables.{no_card_row}
use Rattle.wh_history.specs.Plan.{row_of}
use Rattle.wh_history.specs.declared.rows.DimRow.{DimRow}

-- the rows before the first key
abbrev pub first_rows : Dim → List AttributeType → List DimRow
first_rows Product kinds = []
first_rows Store kinds = []
first_rows Customer kinds = no_card_row kinds ∷ []

-- the profiles that a batch of a dimension brings
abbrev pub profiles_in : Dim → List AttributeType → List DimensionRecord → List (List (List ℕ))
profiles_in Product kinds records = []
profiles_in Store kinds records = []
profiles_in Customer kinds records = combinations_of kinds records

-- the row under a key among those of the member with a durable key, if that member has one there
abbrev pub owned_row : List (List DimRow) → ℕ → ℕ → Option DimRow
owned_row rows key owner = option_and_then (row_of key) (at_place owner rows)

-- the rows of the keys from one on, whose owners are these
abbrev pub picked_from : List (List DimRow) → ℕ → List ℕ → List DimRow
picked_from rows key [] = []
picked_from rows key (owner ∷ owners) = cons_option (owned_row rows key owner) (picked_from rows (suc key) owners)
