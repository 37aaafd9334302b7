-- What a query counts of sales that come in any order.
use Rattle.std.specs.Prelude.{◌≡◌, ◌≤◌, ℕ, List, Option, None, Some, Result, Ok, Err, length, map, ⊤}
use Rattle.std.specs.List.{AllByRecursion}
use Rattle.wh_rows.specs.declared.linked_sale.LinkedSale.{LinkedSale}
use Rattle.wh_report.specs.Sums.{Figures, IsMeasured}
use Rattle.wh_report.specs.Lines.{lines}
use Rattle.wh_query.specs.Asked.{QueryAsked}
use Rattle.wh_query.specs.Led.{lead_of}
use Rattle.wh_query.specs.Words.{by_texts}
use Rattle.wh_query.specs.Slice.{Lead, measures_of, sold_sales, AreLed, LacksLabel}
use Rattle.wh_query.specs.declared.fault.SaleFault.{SaleFault}
use Rattle.wh_query.specs.declared.fault.SaleFault.TheVariants.{Memory, NoLabel, Damaged}
use Rattle.wh_query.specs.declared.sums.QuerySums.{QuerySums}

-- What the sales of the slice come to, none of the range lacking a label; or why one of them can't be counted. Where the measures of all are in range, they are too many.
abbrev pub IsTally : QueryAsked → List Lead → List Lead → List LinkedSale → List (List (List ℕ) × Figures) → Option SaleFault → Type 0
IsTally q filters columns sales ls None = (ls ≡ lines by_texts (sold_sales q filters columns sales)) × AreLed q filters columns sales
IsTally q filters columns sales ls (Some Memory) = ⊤
IsTally q filters columns sales ls (Some (NoLabel column)) = LacksLabel q filters columns column sales
IsTally q filters columns sales ls (Some Damaged) = AllByRecursion (λ s. IsMeasured (measures_of s)) sales → 4_294_967_295 ≤ length sales

-- the lines, or the fault
abbrev pub tallied : List (List (List ℕ) × Figures) → Option SaleFault → Result (List (List (List ℕ) × Figures)) SaleFault
tallied ls None = Ok ls
tallied ls (Some fault) = Err fault

-- these sales were counted for one query
pub record HasTallied (first : QuerySums) (sales : List LinkedSale) (now : QuerySums) : Type 0 where
  pub query : now.query ≡ first.query
  pub filters : now.filters ≡ first.filters
  pub columns : now.columns ≡ first.columns
  pub made : IsTally now.query.now (map lead_of now.filters.now) (map lead_of now.columns.now) sales now.lines now.fault
