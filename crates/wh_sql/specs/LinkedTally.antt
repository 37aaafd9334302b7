-- What is counted of all facts by all of their keys, in whatever order they are stored.
use Rattle.std.specs.Prelude.{◌≢◌, ℕ, List, [], ◌∷◌, ◌++◌, map, IsTrue}
use Rattle.std.specs.List.Sorted.{IsPermutation}
use Rattle.sqlite.specs.Order.{Row}
use Rattle.wh_history.specs.declared.facts.Fact.{Fact}
use Rattle.wh_policy.specs.declared.format.Format.{Format}
use Rattle.wh_policy.specs.declared.format.Format.TheVariants.{One, Two}
use Rattle.wh_rows.specs.Rows.{has_good_columns}
use Rattle.wh_rows.specs.LinkedSales.{linked, read_linked_sale, links_of, linked_sales, linked_sales2}
use Rattle.wh_rows.specs.declared.linked_sale.LinkedSale.{LinkedSale}

-- the text that shows all facts of a format
abbrev pub linked_by : Format → List ℕ
linked_by One = linked_sales
linked_by Two = linked_sales2

-- The sales of these facts were counted, each once, in some order. `Counts` says what a tally comes to by sales.
abbrev pub HasCountedLinks : {C : Type 0} → (C → List LinkedSale → C → Type 0) → C → C → List Fact → Type 0
HasCountedLinks Counts old new facts = (ordered : List Fact) × IsPermutation ordered facts × Counts old (map linked ordered) new

-- the same of stored rows
abbrev pub HasCountedStoredLinks : {C : Type 0} → (C → List LinkedSale → C → Type 0) → C → C → List Row → Type 0
HasCountedStoredLinks Counts old new stored = (sales : List LinkedSale) × IsPermutation (map read_linked_sale sales) (map links_of stored) × Counts old sales new

-- one more sale was counted
abbrev pub CountsLinked : {C : Type 0} → (C → List LinkedSale → C → Type 0) → C → C → LinkedSale → Type 0
CountsLinked {C} Counts old new sale = (first : C) (sales : List LinkedSale) → Counts first sales old → Counts first (sales ++ sale ∷ []) new

-- no fact is shown so
abbrev pub ShowsNoLinks : Row → Type 0
ShowsNoLinks row = (fact : Fact) → IsTrue (has_good_columns fact) → row ≢ read_linked_sale (linked fact)
