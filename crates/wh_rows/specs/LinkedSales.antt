-- What is shown of facts where sales are summed by several of their keys.
use Rattle.std.specs.Prelude.{◌≡◌, ℕ, pos, false, ◌==◌, if◌then◌else◌, List, [], ◌∷◌, length, codes, Result, Ok}
use Rattle.sqlite_value.specs.declared.value.Value.TheVariants.{Int}
use Rattle.sqlite.specs.Order.{Row, column}
use Rattle.sqlite.specs.Query.{output}
use Rattle.sqlite.specs.Term.{Term}
use Rattle.sqlite.specs.Command.TheVariants.{Select}
use Rattle.sqlite.specs.Given.{IsPlain}
use Rattle.sqlite.specs.Listing.{understood, reads_listing}
use Rattle.wh_day.specs.Reading.{◌>>=◌}
use Rattle.wh_policy.specs.declared.attribute.Dim.TheVariants.{Product, Store, Customer}
use Rattle.wh_history.specs.declared.facts.Fact.{Fact}
use Rattle.sqlite.specs.Schema.{Schema}
use Rattle.sqlite.specs.Table.{Table}
use Rattle.wh_rows.specs.Holds.{values_of}
use Rattle.wh_rows.specs.Meaning.{command_of}
use Rattle.wh_rows.specs.Statements.{reading}
use Rattle.wh_rows.specs.Columns.{damaged, day_of, number_of, measure_of}
use Rattle.wh_rows.specs.declared.columns.Damaged.{Damaged}
use Rattle.wh_rows.specs.declared.keyed_sale.FactColumn.{FactColumn}
use Rattle.wh_rows.specs.declared.keyed_sale.FactColumn.TheVariants.{Surrogate, Durable, Profile, Day}
use Rattle.wh_rows.specs.declared.linked_sale.LinkedSale.{LinkedSale}

-- one of a sale's keys
abbrev pub link_of : FactColumn → LinkedSale → ℕ
link_of (Surrogate Product) s = s.product_key
link_of (Surrogate Store) s = s.store_key
link_of (Surrogate Customer) s = s.customer_key
link_of (Durable Product) s = s.product_durable
link_of (Durable Store) s = s.store_durable
link_of (Durable Customer) s = s.customer_durable
link_of Profile s = s.profile
link_of Day s = s.day

-- the sale of a fact, by all of its keys
abbrev pub linked : Fact → LinkedSale
linked f = record {
  day = f.day;
  store_key = f.keys.store_key;
  product_key = f.keys.product_key;
  customer_key = f.keys.customer_key;
  store_durable = f.store_durable;
  product_durable = f.product_durable;
  customer_durable = f.customer_durable;
  profile = f.keys.profile;
  quantity = f.quantity;
  amount = f.amount;
  cost = f.cost;
}

-- how it is shown
abbrev pub read_linked_sale : LinkedSale → Row
read_linked_sale s =
    Int (pos s.day) ∷ Int (pos s.store_key) ∷ Int (pos s.product_key) ∷ Int (pos s.customer_key) ∷ Int (pos s.store_durable) ∷ Int (pos s.product_durable) ∷ Int (pos s.customer_durable)
    ∷ Int (pos s.profile) ∷ Int s.quantity ∷ Int s.amount ∷ Int s.cost ∷ []

abbrev pub linked_columns : Row → Result LinkedSale Damaged
linked_columns row = do
  day ← day_of (column row 0)
  store_key ← number_of (column row 1)
  product_key ← number_of (column row 2)
  customer_key ← number_of (column row 3)
  store_durable ← number_of (column row 4)
  product_durable ← number_of (column row 5)
  customer_durable ← number_of (column row 6)
  profile ← number_of (column row 7)
  quantity ← measure_of 9999 (column row 8)
  amount ← measure_of 999999999 (column row 9)
  cost ← measure_of 999999999 (column row 10)
  Ok (record {
    day = day;
    store_key = store_key;
    product_key = product_key;
    customer_key = customer_key;
    store_durable = store_durable;
    product_durable = product_durable;
    customer_durable = customer_durable;
    profile = profile;
    quantity = quantity;
    amount = amount;
    cost = cost;
  })

-- what columns that are shown are read as
unfoldable pub linked_of : Row → Result LinkedSale Damaged
linked_of row = if length row == 11 then linked_columns row else damaged

-- what is shown of a stored row of the facts
abbrev pub links_of : Row → Row
links_of r =
    column r 2 ∷ column r 3 ∷ column r 4 ∷ column r 5 ∷ column r 6 ∷ column r 7 ∷ column r 8 ∷ column r 9 ∷ column r 10 ∷ column r 11 ∷ column r 12 ∷ []

-- the text that shows all facts so, in no order
abbrev pub linked_sales : List ℕ
linked_sales = codes "SELECT day, store_key, product_key, customer_key, store_durable, product_durable, customer_durable, profile, quantity, amount, cost FROM fact"

-- the same of the second format
abbrev pub linked_sales2 : List ℕ
linked_sales2 = codes "SELECT day, store_key, product_key, customer_key, store_durable, product_durable, customer_durable, profile, quantity, amount, cost FROM fact2"

-- what the text has to mean
pub record ShowsLinked (under : Schema) (table : Table) (text : List ℕ) : Type 0 where
  pub project : List Term
  pub names : List (List ℕ)
  pub command : command_of (understood under text) ≡ Select (record { lets = []; body = reading table.tree [] project [] }) names
  pub plain : IsPlain (understood under text)
  pub unlisted : reads_listing under text ≡ false
  pub shows : (r : Row) → (output (reading table.tree [] project []) ([] ∷ r ∷ [])).1 ≡ links_of (values_of table r)
