-- What a query counts of facts, by the labels that their keys lead to.
use Rattle.std.specs.Prelude.{◌≡◌, ℕ, true, if◌then◌else◌, List, [], ◌∷◌, Option, Some, None, Result, Ok, Err, IsOk, filter_map, Contains}
use Rattle.std.specs.List.{AllByRecursion}
use Rattle.wh_rows.specs.LinkedSales.{link_of}
use Rattle.wh_rows.specs.declared.linked_sale.LinkedSale.{LinkedSale}
use Rattle.wh_report.specs.Joined.{label_column_fact_key}
use Rattle.wh_report.specs.Sums.{Measured}
use Rattle.wh_report.specs.declared.column.LabelColumn.{LabelColumn}
use Rattle.wh_report.specs.Lines.{Labelled}
use Rattle.wh_query.specs.Asked.{ConditionAsked, QueryAsked, is_between, holds}

-- a column, and the labels to which the keys of facts lead there
pub record Lead : Type 0 where
  pub column : LabelColumn
  pub labels : ℕ → Option (List ℕ)

-- the label of a sale there
abbrev pub lead_label : Lead → LinkedSale → Option (List ℕ)
lead_label c s = c.labels (link_of (label_column_fact_key c.column) s)

-- a label before others; or the column that lacks it
abbrev pub with_label : LabelColumn → Option (List ℕ) → Result (List (List ℕ)) LabelColumn → Result (List (List ℕ)) LabelColumn
with_label column None others = Err column
with_label column (Some label) (Ok labels) = Ok (label ∷ labels)
with_label column (Some label) (Err other) = Err other

-- the labels of a sale in several columns, or the first of these that lacks one
abbrev pub lead_labels : List Lead → LinkedSale → Result (List (List ℕ)) LabelColumn
lead_labels [] s = Ok []
lead_labels (c ∷ cs) s = with_label c.column (lead_label c s) (lead_labels cs s)

abbrev pub as_some : Result (List (List ℕ)) LabelColumn → Result (Option (List (List ℕ))) LabelColumn
as_some (Ok labels) = Ok (Some labels)
as_some (Err column) = Err column

-- labels where the conditions hold for others
abbrev pub where_holds : List ConditionAsked → Result (List (List ℕ)) LabelColumn → Result (List (List ℕ)) LabelColumn → Result (Option (List (List ℕ))) LabelColumn
where_holds conditions (Ok own) labels = if holds conditions own then as_some labels else Ok None
where_holds conditions (Err column) labels = Err column

-- The labels of a sale where it is as the conditions want it. A column lacks a label: of the conditions', and then of a sale that is so, of the query's.
abbrev pub slice_label : List ConditionAsked → List Lead → List Lead → LinkedSale → Result (Option (List (List ℕ))) LabelColumn
slice_label conditions filters columns s = where_holds conditions (lead_labels filters s) (lead_labels columns s)

abbrev pub measures_of : LinkedSale → Measured
measures_of s = record { quantity = s.quantity; amount = s.amount; cost = s.cost }

abbrev pub sold_with : Measured → Result (Option (List (List ℕ))) LabelColumn → Option (Labelled (List (List ℕ)))
sold_with m (Ok (Some labels)) = Some (record { label = labels; measures = m })
sold_with m (Ok None) = None
sold_with m (Err column) = None

module _ (q : QueryAsked) (filters columns : List Lead) where
  -- a sale of the slice with its labels
  abbrev pub sold_sale : LinkedSale → Option (Labelled (List (List ℕ)))
  sold_sale s = if is_between q s.day then sold_with (measures_of s) (slice_label q.conditions filters columns s) else None

  abbrev pub sold_sales : List LinkedSale → List (Labelled (List (List ℕ)))
  sold_sales sales = filter_map sold_sale sales

  -- each sale of the range has the labels that are asked of it
  abbrev pub IsLed : LinkedSale → Type 0
  IsLed s = is_between q s.day ≡ true → IsOk (slice_label q.conditions filters columns s)

  abbrev pub AreLed : List LinkedSale → Type 0
  AreLed sales = AllByRecursion IsLed sales

  -- one lacks a label in a column
  pub record LacksLabel (column : LabelColumn) (sales : List LinkedSale) : Type 0 where
    pub sale : LinkedSale
    pub there : Contains sales sale
    pub asked : is_between q sale.day ≡ true
    pub lacks : slice_label q.conditions filters columns sale ≡ Err column
