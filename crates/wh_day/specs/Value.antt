-- The text of an attribute.
use Rattle.std.specs.Prelude.{ℕ, Bool, false, ◌&&◌, not, ◌==◌, nat_le, if◌then◌else◌, codes, List, [], ◌∷◌, length, Option, Some, None, bytes_eq}
use Rattle.std.specs.Cmp.Lexicographic.{pointwise}
use Rattle.std.specs.List.{list_all}
use Rattle.std.specs.Str.{is_utf8}

-- neither below a space nor delete
abbrev pub is_printed : ℕ → Bool
is_printed byte = nat_le 32 byte && not (byte == 127)

-- up to 60 bytes of text without control characters
unfoldable pub is_plain : List ℕ → Bool
is_plain text = nat_le (length text) 60 && list_all is_printed text && is_utf8 text

-- what stands where a value is missing
unfoldable pub none_text : List ℕ
none_text = codes "(none)"

-- a value of a member that no record has described
unfoldable pub unknown_text : List ℕ
unknown_text = codes "(unknown)"

-- a value of a sale without a card
unfoldable pub no_card_text : List ℕ
no_card_text = codes "(no card)"

-- a value that a source can give: not empty, and not with a parenthesis first, with which the special values begin
abbrev pub is_given : List ℕ → Bool
is_given [] = false
is_given (first ∷ rest) = not (first == 40) && is_plain (first ∷ rest)

-- the value that a field writes: itself, and none where it is empty
unfoldable pub read_value : List ℕ → Option (List ℕ)
read_value [] = Some none_text
read_value (first ∷ rest) = if is_given (first ∷ rest) then Some (first ∷ rest) else None

-- the texts are the same, one by one
abbrev pub are_same : List (List ℕ) → List (List ℕ) → Bool
are_same = pointwise bytes_eq
