-- What is counted of all facts, in whatever order they are stored.
use Rattle.std.specs.Prelude.{◌≢◌, List, [], ◌∷◌, ◌++◌, map, IsTrue}
use Rattle.std.specs.List.Sorted.{IsPermutation}
use Rattle.sqlite.specs.Order.{Row}
use Rattle.wh_history.specs.declared.facts.Fact.{Fact}
use Rattle.wh_rows.specs.Rows.{has_good_columns}
use Rattle.wh_rows.specs.KeyedSales.{keyed, read_keyed_sale, shown_of}
use Rattle.wh_rows.specs.declared.keyed_sale.FactColumn.{FactColumn}
use Rattle.wh_rows.specs.declared.keyed_sale.KeyedSale.{KeyedSale}

-- The sales of these facts were counted, each once, in some order. `Counts` says what a tally comes to by sales.
abbrev pub HasCounted : {C : Type 0} → (C → List KeyedSale → C → Type 0) → FactColumn → C → C → List Fact → Type 0
HasCounted Counts which old new facts = (ordered : List Fact) × IsPermutation ordered facts × Counts old (map (keyed which) ordered) new

-- the same of stored rows
abbrev pub HasCountedStored : {C : Type 0} → (C → List KeyedSale → C → Type 0) → FactColumn → C → C → List Row → Type 0
HasCountedStored Counts which old new stored = (sales : List KeyedSale) × IsPermutation (map read_keyed_sale sales) (map (shown_of which) stored) × Counts old sales new

-- one more sale was counted
abbrev pub CountsOne : {C : Type 0} → (C → List KeyedSale → C → Type 0) → C → C → KeyedSale → Type 0
CountsOne {C} Counts old new sale = (first : C) (sales : List KeyedSale) → Counts first sales old → Counts first (sales ++ sale ∷ []) new

-- no fact is shown so, by any of its keys
abbrev pub ShowsNoFact : Row → Type 0
ShowsNoFact row = (which : FactColumn) (fact : Fact) → IsTrue (has_good_columns fact) → row ≢ read_keyed_sale (keyed which fact)
