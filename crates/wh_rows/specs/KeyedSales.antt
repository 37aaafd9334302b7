-- What is shown of facts where sales are summed by one of their keys.
use Rattle.std.specs.Prelude.{◌≡◌, ℕ, pos, false, ◌==◌, if◌then◌else◌, List, [], ◌∷◌, length, codes, Result, Ok}
use Rattle.sqlite_value.specs.declared.value.Value.{Value}
use Rattle.sqlite_value.specs.declared.value.Value.TheVariants.{Int}
use Rattle.sqlite.specs.Order.{Row, column}
use Rattle.sqlite.specs.Query.{output}
use Rattle.sqlite.specs.Term.{Term}
use Rattle.sqlite.specs.Command.TheVariants.{Select}
use Rattle.sqlite.specs.Given.{IsPlain}
use Rattle.sqlite.specs.Listing.{understood, reads_listing}
use Rattle.wh_day.specs.Reading.{◌>>=◌}
use Rattle.wh_policy.specs.declared.attribute.Dim.{Dim}
use Rattle.wh_policy.specs.declared.attribute.Dim.TheVariants.{Product, Store, Customer}
use Rattle.wh_history.specs.declared.facts.Fact.{Fact}
use Rattle.sqlite.specs.Schema.{Schema}
use Rattle.sqlite.specs.Table.{Table}
use Rattle.wh_rows.specs.Holds.{values_of}
use Rattle.wh_rows.specs.Meaning.{command_of}
use Rattle.wh_rows.specs.Statements.{reading}
use Rattle.wh_rows.specs.Columns.{damaged, day_of, measure_of}
use Rattle.wh_rows.specs.declared.columns.Damaged.{Damaged}
use Rattle.wh_rows.specs.declared.keyed_sale.FactColumn.{FactColumn}
use Rattle.wh_rows.specs.declared.keyed_sale.FactColumn.TheVariants.{Surrogate, Durable, Profile, Day}
use Rattle.wh_rows.specs.declared.keyed_sale.KeyedSale.{KeyedSale}

-- a fact's surrogate key and durable key in a dimension
abbrev pub surrogate_in : Dim → Fact → ℕ
surrogate_in Product f = f.keys.product_key
surrogate_in Store f = f.keys.store_key
surrogate_in Customer f = f.keys.customer_key

abbrev pub durable_in : Dim → Fact → ℕ
durable_in Product f = f.product_durable
durable_in Store f = f.store_durable
durable_in Customer f = f.customer_durable

abbrev pub key_of : FactColumn → Fact → ℕ
key_of (Surrogate dim) f = surrogate_in dim f
key_of (Durable dim) f = durable_in dim f
key_of Profile f = f.keys.profile
key_of Day f = f.day

-- the sale of a fact, by one of its keys
abbrev pub keyed : FactColumn → Fact → KeyedSale
keyed which f = record { day = f.day; key = key_of which f; quantity = f.quantity; amount = f.amount; cost = f.cost }

-- how it is shown
abbrev pub read_keyed_sale : KeyedSale → Row
read_keyed_sale s = Int (pos s.day) ∷ Int (pos s.key) ∷ Int s.quantity ∷ Int s.amount ∷ Int s.cost ∷ []

-- a key in a column: a number or a day
unfoldable pub key_in : Value → Result ℕ Damaged
key_in (Int (pos n)) = Ok n
key_in _ = damaged

abbrev pub keyed_columns : Row → Result KeyedSale Damaged
keyed_columns row = do
  day ← day_of (column row 0)
  key ← key_in (column row 1)
  quantity ← measure_of 9999 (column row 2)
  amount ← measure_of 999999999 (column row 3)
  cost ← measure_of 999999999 (column row 4)
  Ok (record { day = day; key = key; quantity = quantity; amount = amount; cost = cost })

-- what columns that are shown are read as
unfoldable pub keyed_of : Row → Result KeyedSale Damaged
keyed_of row = if length row == 5 then keyed_columns row else damaged

-- the column of the table in which a key stands, from 0
abbrev pub place_of : FactColumn → ℕ
place_of (Surrogate Store) = 3
place_of (Surrogate Product) = 4
place_of (Surrogate Customer) = 5
place_of (Durable Store) = 6
place_of (Durable Product) = 7
place_of (Durable Customer) = 8
place_of Profile = 9
place_of Day = 2

-- what is shown of a stored row of the facts
abbrev pub shown_of : FactColumn → Row → Row
shown_of which r = column r 2 ∷ column r (place_of which) ∷ column r 10 ∷ column r 11 ∷ column r 12 ∷ []

-- the text that shows all facts so, in no order
abbrev pub keyed_sales : FactColumn → List ℕ
keyed_sales (Surrogate Product) = codes "SELECT day, product_key, quantity, amount, cost FROM fact"
keyed_sales (Surrogate Store) = codes "SELECT day, store_key, quantity, amount, cost FROM fact"
keyed_sales (Surrogate Customer) = codes "SELECT day, customer_key, quantity, amount, cost FROM fact"
keyed_sales (Durable Product) = codes "SELECT day, product_durable, quantity, amount, cost FROM fact"
keyed_sales (Durable Store) = codes "SELECT day, store_durable, quantity, amount, cost FROM fact"
keyed_sales (Durable Customer) = codes "SELECT day, customer_durable, quantity, amount, cost FROM fact"
keyed_sales Profile = codes "SELECT day, profile, quantity, amount, cost FROM fact"
keyed_sales Day = codes "SELECT day, day, quantity, amount, cost FROM fact"

-- the same of the second format
abbrev pub keyed_sales2 : FactColumn → List ℕ
keyed_sales2 (Surrogate Product) = codes "SELECT day, product_key, quantity, amount, cost FROM fact2"
keyed_sales2 (Surrogate Store) = codes "SELECT day, store_key, quantity, amount, cost FROM fact2"
keyed_sales2 (Surrogate Customer) = codes "SELECT day, customer_key, quantity, amount, cost FROM fact2"
keyed_sales2 (Durable Product) = codes "SELECT day, product_durable, quantity, amount, cost FROM fact2"
keyed_sales2 (Durable Store) = codes "SELECT day, store_durable, quantity, amount, cost FROM fact2"
keyed_sales2 (Durable Customer) = codes "SELECT day, customer_durable, quantity, amount, cost FROM fact2"
keyed_sales2 Profile = codes "SELECT day, profile, quantity, amount, cost FROM fact2"
keyed_sales2 Day = codes "SELECT day, day, quantity, amount, cost FROM fact2"

-- what the text has to mean
pub record ShowsSales (under : Schema) (table : Table) (which : FactColumn) (text : List ℕ) : Type 0 where
  pub project : List Term
  pub names : List (List ℕ)
  pub command : command_of (understood under text) ≡ Select (record { lets = []; body = reading table.tree [] project [] }) names
  pub plain : IsPlain (understood under text)
  pub unlisted : reads_listing under text ≡ false
  pub shows : (r : Row) → (output (reading table.tree [] project []) ([] ∷ r ∷ [])).1 ≡ shown_of which (values_of table r)
