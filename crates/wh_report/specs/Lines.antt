-- What sales come to by labels of any kind, in an order of these.
use Rattle.std.specs.Prelude.{ℤ, pos, ◌+ℤ◌, List, [], ◌∷◌, map, filter, length}
use Rattle.std.specs.Ordering.{eq_by_cmp}
use Rattle.std.specs.declared.cmp.Ordering.{Ordering}
use Rattle.std.specs.BTreeSet.{insert_key}
use Rattle.wh_report.specs.Sums.{Measured, Figures, nothing, plus}

-- a sale, with the label that it has
pub record Labelled (L : Type 0) : Type 0 where
  pub label : L
  pub measures : Measured

-- the sum of a measure
abbrev pub sum_of : (Measured → ℤ) → List Measured → ℤ
sum_of measure [] = pos 0
sum_of measure (m ∷ ms) = measure m +ℤ sum_of measure ms

-- what measures come to
abbrev pub figures : List Measured → Figures
figures ms = record {
  lines = length ms;
  quantity = sum_of (λ m. m.quantity) ms;
  amount = sum_of (λ m. m.amount) ms;
  cost = sum_of (λ m. m.cost) ms;
}

module _ {L : Type 0} (cmp : L → L → Ordering) where
  -- the measures of the sales of a label
  abbrev pub sold_as : L → List (Labelled L) → List Measured
  sold_as label sales = map (λ s. s.measures) (filter (λ s. eq_by_cmp cmp s.label label) sales)

  -- the labels that sales have, each once, in their order
  abbrev pub labels : List (Labelled L) → List L
  labels [] = []
  labels (s ∷ sales) = insert_key cmp (labels sales) s.label

  -- a line for each label that a sale has
  unfoldable pub lines : List (Labelled L) → List (L × Figures)
  lines sales = map (λ label. (label, figures (sold_as label sales))) (labels sales)

-- what lines come to together
abbrev pub added : {L : Type 0} → List (L × Figures) → Figures
added [] = nothing
added (e ∷ es) = plus e.1 (added es)
