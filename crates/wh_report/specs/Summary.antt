-- What the sales of a report come to by their labels.
use Rattle.std.specs.Prelude.{◌≡◌, ◌<◌, ℕ, List, map, length}
use Rattle.std.specs.List.{AllByRecursion}
use Rattle.std.specs.Ordering.{nat_cmp}
use Rattle.std.specs.declared.cmp.Ordering.{Ordering}
use Rattle.std.specs.Cmp.Lexicographic.{slice_cmp}
use Rattle.wh_report.specs.Lines.{Labelled, figures, lines}
use Rattle.wh_report.specs.Sums.{Figures}

-- a sale of the range, with the label that it has
abbrev pub Sold : Type 0
Sold = Labelled (List ℕ)

-- what there is to a label, and to all
pub record Summed : Type 0 where
  pub lines : List (List ℕ × Figures)
  pub total : Figures

-- texts in order of their bytes
abbrev pub by_bytes : List ℕ → List ℕ → Ordering
by_bytes = slice_cmp nat_cmp

-- a line for each label that a sale has, and one for all sales
unfoldable pub summed : List Sold → Summed
summed sales = record { lines = lines by_bytes sales; total = figures (map (λ s. s.measures) sales) }

-- some sales of one label, which come to this sum
pub record AreSoldAs (label : List ℕ) (sum : Figures) (sales : List Sold) : Type 0 where
  pub some : 0 < length sales
  pub labelled : AllByRecursion (λ s. s.label ≡ label) sales
  pub made : sum ≡ figures (map (λ s. s.measures) sales)
