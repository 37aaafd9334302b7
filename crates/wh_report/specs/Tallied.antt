-- What a report counts of sales that come in any order.
use Rattle.std.specs.Prelude.{◌≡◌, ◌≤◌, ℕ, List, Option, None, Some, Result, Ok, Err, length, ⊤}
use Rattle.std.specs.List.{AllByRecursion}
use Rattle.wh_rows.specs.declared.keyed_sale.KeyedSale.{KeyedSale}
use Rattle.wh_report.specs.Asked.{Asked}
use Rattle.wh_report.specs.Counting.{measures_of, sales_asked, HasNoLabel}
use Rattle.wh_report.specs.KeySums.{AreKeySums, IsLabelled}
use Rattle.wh_report.specs.Summary.{Summed}
use Rattle.wh_report.specs.Sums.{Figures, IsMeasured}
use Rattle.wh_report.specs.declared.fact.FactFault.{FactFault}
use Rattle.wh_report.specs.declared.fact.FactFault.TheVariants as uncountable
use Rattle.wh_report.specs.declared.fact_sums.FactSums.{FactSums}
use Rattle.wh_report.specs.declared.summary.AddError.{AddError}
use Rattle.wh_report.specs.declared.summary.AddError.TheVariants.{Memory, Damaged}

-- What the sales of the range come to by their keys; or why one of them can't be counted. Where the measures of all are in range, they are too many.
abbrev pub IsTally : Asked → List KeyedSale → List (ℕ × Figures) → Option AddError → Type 0
IsTally r sales sums None = AreKeySums sums (sales_asked r sales)
IsTally r sales sums (Some Memory) = ⊤
IsTally r sales sums (Some Damaged) = AllByRecursion (λ s. IsMeasured (measures_of s)) sales → 4_294_967_295 ≤ length sales

-- What the sales of the range come to by the labels that their keys lead to, or why they can't be counted.
abbrev pub IsCounted : Asked → (ℕ → Option (List ℕ)) → List KeyedSale → Result Summed FactFault → Type 0
IsCounted r labels sales (Ok sums) = IsLabelled labels (sales_asked r sales) (Ok sums)
IsCounted r labels sales (Err uncountable.Memory) = ⊤
IsCounted r labels sales (Err uncountable.NoLabel) = HasNoLabel labels (sales_asked r sales)
IsCounted r labels sales (Err uncountable.Damaged) = AllByRecursion (λ s. IsMeasured (measures_of s)) sales → 4_294_967_295 ≤ length sales

-- these sales were counted for one report
pub record HasTallied (first : FactSums) (sales : List KeyedSale) (now : FactSums) : Type 0 where
  pub request : now.request ≡ first.request
  pub made : IsTally first.request.now sales now.sums now.fault
