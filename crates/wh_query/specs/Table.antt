-- An answer as a table for people: lines as a report has them, and in place of a label those of the columns, side by side.
use Rattle.std.specs.Prelude.{ℕ, ◌-◌, ◌&&◌, Bool, not, nat_le, nat_lt, List, [], ◌∷◌, ◌++◌, codes, filter, length, map, replicate}
use Rattle.wh_report.specs.Lines.{added}
use Rattle.wh_report.specs.Sums.{Figures}
use Rattle.wh_report.specs.Text.{summary_text, titles}
use Rattle.wh_query.specs.Asked.{ColumnAsked, column_name}

-- a byte that continues a character
abbrev pub continues : ℕ → Bool
continues byte = nat_le 128 byte && nat_lt byte 192

-- how many characters a text has
unfoldable pub characters : List ℕ → ℕ
characters text = length (filter (λ byte. not (continues byte)) text)

-- a text at the left of 24 places, or of as many as it needs, and a space
unfoldable pub in_column : List ℕ → List ℕ
in_column text = text ++ (replicate (24 - characters text) 32 ++ codes " ")

-- texts side by side, each but the last in a column
abbrev pub in_columns : List (List ℕ) → List ℕ
in_columns [] = []
in_columns (text ∷ []) = text
in_columns (text ∷ next ∷ texts) = in_column text ++ in_columns (next ∷ texts)

-- the lines, each with its labels side by side
abbrev pub side_by_side : List (List (List ℕ) × Figures) → List (List ℕ × Figures)
side_by_side ls = map (λ l. (in_columns l.0, l.1)) ls

-- The titles, a line for each tuple, and one for what all come to.
unfoldable pub table_text : List ColumnAsked → List (List (List ℕ) × Figures) → List ℕ
table_text columns ls = titles (in_columns (map column_name columns)) ++ summary_text (record { lines = side_by_side ls; total = added ls })
