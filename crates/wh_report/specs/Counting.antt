-- What a report counts of a sale, and of a fact.
use Rattle.std.specs.Prelude.{◌≡◌, ℕ, if◌then◌else◌, List, Option, None, option_map, filter, map, Contains, IsSome}
use Rattle.std.specs.List.{AllByRecursion}
use Rattle.wh_history.specs.declared.facts.Fact.{Fact}
use Rattle.wh_rows.specs.KeyedSales.{keyed}
use Rattle.wh_rows.specs.declared.keyed_sale.KeyedSale.{KeyedSale}
use Rattle.wh_report.specs.Asked.{Asked}
use Rattle.wh_report.specs.Joined.{label_column_fact_key}
use Rattle.wh_report.specs.Request.{is_asked_of}
use Rattle.wh_report.specs.Summary.{Sold}
use Rattle.wh_report.specs.Sums.{Measured}
use Rattle.wh_report.specs.declared.column.LabelColumn.{LabelColumn}
use Rattle.wh_report.specs.declared.fact.FactFault.{FactFault}
use Rattle.wh_report.specs.declared.fact.FactFault.TheVariants as fault
use Rattle.wh_report.specs.declared.summary.AddError.{AddError}
use Rattle.wh_report.specs.declared.summary.AddError.TheVariants.{Memory, Damaged}

abbrev pub measures_of : KeyedSale → Measured
measures_of s = record { quantity = s.quantity; amount = s.amount; cost = s.cost }

-- a sale with the label that its key leads to, where a function gives labels by keys
abbrev pub with_label : (ℕ → Option (List ℕ)) → KeyedSale → Option Sold
with_label labels s = option_map (λ label. record { label = label; measures = measures_of s }) (labels s.key)

-- each key leads to one
abbrev pub AreLabelled : (ℕ → Option (List ℕ)) → List KeyedSale → Type 0
AreLabelled labels = AllByRecursion (λ s. IsSome (labels s.key))

-- one key leads to none
pub record HasNoLabel (labels : ℕ → Option (List ℕ)) (sales : List KeyedSale) : Type 0 where
  pub sale : KeyedSale
  pub there : Contains sales sale
  pub none : labels sale.key ≡ None

-- a sale of the range with its label
abbrev pub counted_sale : Asked → (ℕ → Option (List ℕ)) → KeyedSale → Option Sold
counted_sale r labels s = if is_asked_of r s.day then with_label labels s else None

-- the same of a fact, by the key that leads to a column
abbrev pub counted : Asked → LabelColumn → (ℕ → Option (List ℕ)) → Fact → Option Sold
counted r column labels f = counted_sale r labels (keyed (label_column_fact_key column) f)

-- the sales of the range
abbrev pub sales_asked : Asked → List KeyedSale → List KeyedSale
sales_asked r = filter (λ s. is_asked_of r s.day)

-- those that facts are, by the key that leads to a column
abbrev pub sales_of : Asked → LabelColumn → List Fact → List KeyedSale
sales_of r column facts = sales_asked r (map (keyed (label_column_fact_key column)) facts)

-- a sale that can't be counted is a fact that no warehouse keeps
abbrev pub fault_of : AddError → FactFault
fault_of Memory = fault.Memory
fault_of Damaged = fault.Damaged
