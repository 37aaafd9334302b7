-- Which values are of the types of the columns. A key has up to 20 bytes as a ticket, 32 as a natural key and 40 as the id of a command.
use Rattle.std.specs.Prelude.{ℕ, ℤ, Bool, ◌&&◌, ◌||◌, ◌==◌, nat_le, codes, List, [], ◌∷◌, length, map, bytes_eq, unsigned_abs}
use Rattle.std.specs.List.{list_all, list_any}
pub use Rattle.wh_day.specs.NaturalKey.{is_key}
pub use Rattle.wh_day.specs.Value.{is_given}
use Rattle.wh_day.specs.Value.{none_text, unknown_text, no_card_text}
use Rattle.wh_policy.specs.declared.attribute.Dim.{Dim}
use Rattle.wh_policy.specs.declared.attribute.Dim.TheVariants.{Product, Store, Customer}
use Rattle.wh_policy.specs.Words.{dim_word, every_dim}
use Rattle.wh_history.specs.Keys.{greatest_number}

-- a key, a number or a count
abbrev pub is_number : ℕ → Bool
is_number n = nat_le n greatest_number

-- the number of a line on its ticket
abbrev pub is_line : ℕ → Bool
is_line n = nat_le 1 n && nat_le n 9999

-- a quantity, or an amount in hundredths, up to the most and down to it below 0
abbrev pub is_measure : ℕ → ℤ → Bool
is_measure most n = nat_le (unsigned_abs n) most

-- a discount in hundredths
abbrev pub is_discount : ℕ → Bool
is_discount n = nat_le n 999999999

-- what a command can be: the making of the warehouse, a new policy, an upgrade, or a batch of sales, of voids or for a dimension
abbrev pub kinds : List (List ℕ)
kinds = codes "init" ∷ codes "migrate" ∷ codes "upgrade" ∷ codes "sales" ∷ codes "void" ∷ map dim_word every_dim

abbrev pub is_kind : List ℕ → Bool
is_kind text = list_any (bytes_eq text) kinds

-- no text, or one of those that stand where a source gave none
unfoldable pub is_special : List ℕ → Bool
is_special text = bytes_eq text [] || bytes_eq text none_text || bytes_eq text unknown_text || bytes_eq text no_card_text

-- the text of a slot
unfoldable pub is_slot : List ℕ → Bool
is_slot text = is_special text || is_given text

-- the texts of the six slots of a row
abbrev pub are_slots : List (List ℕ) → Bool
are_slots texts = (length texts == 6) && list_all is_slot texts

-- the number of a dimension
abbrev pub dim_number : Dim → ℕ
dim_number Product = 1
dim_number Store = 2
dim_number Customer = 3
