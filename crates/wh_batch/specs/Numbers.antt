-- The fields of a record that are numbers.
use Rattle.std.specs.Prelude.{ℕ, ◌+◌, ◌*◌, ℤ, pos, neg_ℤ, ◌&&◌, ◌==◌, Bool, nat_le, if◌then◌else◌, List, [], ◌∷◌, length, take, drop, Option, Some, None, option_map, option_and_then, position, Result, ok_or}
use Rattle.std.specs.Char.{is_ascii_digit}
use Rattle.std.specs.List.{list_all}
use Rattle.std.specs.Str.Parse.{digits_value}
use Rattle.wh_batch.specs.declared.fault.FaultKind.{FaultKind}
use Rattle.wh_batch.specs.declared.fault.FaultKind.TheVariants.{BadNumber}

-- the number that one up to `most` digits write
unfoldable pub read_digits : ℕ → List ℕ → Option ℕ
read_digits most text = if nat_le 1 (length text) && nat_le (length text) most && list_all is_ascii_digit text then Some (digits_value 10 text) else None

-- the hundredths after a point: one or two digits
unfoldable pub read_fraction : List ℕ → Option ℕ
read_fraction text = if length text == 1 then option_map (λ n. 10 * n) (read_digits 1 text) else read_digits 2 text

-- a point
abbrev pub is_point : ℕ → Bool
is_point byte = byte == 46

-- the hundredths of a text with a point at this place, or with none
abbrev pub hundredths_at : List ℕ → Option ℕ → Option ℕ
hundredths_at text None = option_map (λ n. 100 * n) (read_digits 7 text)
hundredths_at text (Some i) = option_and_then (λ whole. option_map (λ part. 100 * whole + part) (read_fraction (drop (i + 1) text))) (read_digits 7 (take i text))

-- the hundredths that one up to seven digits write, with nothing after them or a point and one or two digits
unfoldable pub read_hundredths : List ℕ → Option ℕ
read_hundredths text = hundredths_at text (position is_point text)

-- the number that a text writes with a minus in front or without
abbrev pub signed : (List ℕ → Option ℕ) → List ℕ → Option ℤ
signed read [] = None
signed read (first ∷ rest) = if first == 45 then option_map (λ n. neg_ℤ (pos n)) (read rest) else option_map pos (read (first ∷ rest))

-- a line: one up to four digits, and not 0
unfoldable pub read_line : List ℕ → Option ℕ
read_line text = option_and_then (λ n. if n == 0 then None else Some n) (read_digits 4 text)

-- a quantity: one up to four digits
unfoldable pub read_quantity : List ℕ → Option ℤ
read_quantity text = signed (read_digits 4) text

-- an amount of money, in hundredths
unfoldable pub read_amount : List ℕ → Option ℤ
read_amount text = signed read_hundredths text

-- the line that a field writes
abbrev pub line_of : List ℕ → Result ℕ FaultKind
line_of field = ok_or (read_line field) BadNumber

-- the quantity that a field writes
abbrev pub quantity_of : List ℕ → Result ℤ FaultKind
quantity_of field = ok_or (read_quantity field) BadNumber

-- the discount that a field writes, without a sign
abbrev pub discount_of : List ℕ → Result ℕ FaultKind
discount_of field = ok_or (read_hundredths field) BadNumber

-- the amount that a field writes
abbrev pub amount_of : List ℕ → Result ℤ FaultKind
amount_of field = ok_or (read_amount field) BadNumber
