-- The text of a report.
use Rattle.std.specs.Prelude.{ℕ, ◌-◌, ◌/◌, ◌%◌, suc, ℤ, pos, negsuc, codes, List, ◌++◌, length, replicate, flat_map}
use Rattle.std.specs.Fmt.{decimal, signed_decimal}
use Rattle.wh_report.specs.Sums.{Figures, margin}
use Rattle.wh_report.specs.Summary.{Summed, Sold, summed}

-- a text at the right end of so many places, or of as many as it needs
unfoldable pub aligned : ℕ → List ℕ → List ℕ
aligned width text = replicate (width - length text) 32 ++ text

-- so many hundredths, with two decimals
unfoldable pub hundredths : ℕ → List ℕ
hundredths n = decimal (n / 100) ++ (codes "." ++ (decimal (n / 10 % 10) ++ decimal (n % 10)))

-- an amount of money in hundredths
unfoldable pub money : ℤ → List ℕ
money (pos n) = hundredths n
money (negsuc n) = codes "-" ++ hundredths (suc n)

-- a text, and then a space and the rest of the line
infixr 4 ◌then◌
abbrev pub ◌then◌ : List ℕ → List ℕ → List ℕ
text then rest = text ++ (codes " " ++ rest)

unfoldable pub line_text : List ℕ → Figures → List ℕ
line_text label t =
    aligned 8 (decimal t.lines)
    then aligned 10 (signed_decimal t.quantity)
    then aligned 14 (money t.amount)
    then aligned 14 (money t.cost)
    then aligned 14 (money (margin t))
    then codes " " ++ (label ++ codes "\n")

-- a line for each label
abbrev pub lines_text : List (List ℕ × Figures) → List ℕ
lines_text = flat_map (λ l. line_text l.0 l.1)

-- and one for the total
unfoldable pub summary_text : Summed → List ℕ
summary_text s = lines_text s.lines ++ line_text (codes "total") s.total

-- the titles of the columns, and what stands over the labels
unfoldable pub titles : List ℕ → List ℕ
titles label = codes "   lines   quantity         amount           cost         margin  " ++ (label ++ codes "\n")

-- the request in the words that it was made with, and the titles
unfoldable pub heading : List ℕ → List ℕ → List ℕ → List ℕ → List ℕ
heading attribute mode from to =
    codes "report" then attribute then mode then from
    then to ++ (codes "\n" ++ titles (codes "label"))

-- what the sales of the range come to
unfoldable pub report_text : List ℕ → List ℕ → List ℕ → List ℕ → List Sold → List ℕ
report_text attribute mode from to sales = heading attribute mode from to ++ summary_text (summed sales)
