-- The kinds of records, as they are laid out in each format.
use Rattle.std.specs.Prelude.{ℕ, ◌==◌, not, true, if◌then◌else◌, codes, List, [], ◌∷◌, ◌++◌, length, map, take, unwrap_or, Result, Ok, Err}
use Rattle.csv.specs.Records.{field_at}
use Rattle.wh_day.specs.Reading.{◌>>=◌}
use Rattle.wh_policy.specs.Policy.{policy_attributes}
use Rattle.wh_policy.specs.Years.{is_within}
use Rattle.wh_policy.specs.declared.attribute.Attribute.{Attribute}
use Rattle.wh_policy.specs.declared.attribute.Dim.{Dim}
use Rattle.wh_policy.specs.declared.policy.Policy.{Policy}
use Rattle.wh_policy.specs.declared.policy.Years.{Years}
use Rattle.wh_policy.specs.declared.record.DimensionRecord.{DimensionRecord}
use Rattle.wh_policy.specs.declared.record.SaleRecord.{SaleRecord}
use Rattle.wh_policy.specs.declared.record.VoidRecord.{VoidRecord}
use Rattle.wh_batch.specs.declared.fault.FaultKind.{FaultKind}
use Rattle.wh_batch.specs.declared.fault.FaultKind.TheVariants.{WrongLength, NotInFormat}
use Rattle.wh_batch.specs.declared.fault.BatchFault.{BatchFault}
use Rattle.wh_batch.specs.declared.holds.Holds.{Holds}
use Rattle.wh_batch.specs.declared.holds.Holds.TheVariants as holds
use Rattle.wh_batch.specs.declared.kind.BatchKind.{BatchKind}
use Rattle.wh_batch.specs.declared.kind.BatchKind.TheVariants as kinds
use Rattle.wh_policy.specs.declared.format.Format.{Format}
use Rattle.wh_policy.specs.declared.format.Format.TheVariants.{One, Two}
use Rattle.wh_batch.specs.declared.records.Records.{Records}
use Rattle.wh_batch.specs.declared.records.Records.TheVariants as of_kind
use Rattle.wh_batch.specs.Columns.{Column}
use Rattle.wh_batch.specs.Fields.{key_of, customer_of, day_of, effective_day_of, values_of}
use Rattle.wh_batch.specs.Numbers.{line_of, quantity_of, amount_of, discount_of}
use Rattle.wh_batch.specs.Batch.{Key, Layout, at, batch_of}

-- an id, a day, and a value for each attribute
unfoldable pub dimension_record : ℕ → List (List ℕ) → Result DimensionRecord FaultKind
dimension_record attributes [] = Err WrongLength
dimension_record attributes (id ∷ []) = Err WrongLength
dimension_record attributes (id ∷ day ∷ fields) = if not (length fields == attributes) then Err WrongLength else do
  natural ← key_of 32 id
  day ← effective_day_of day
  values ← values_of fields
  Ok (record { natural = natural; day = day; values = values })

-- the member and the day
abbrev pub dimension_key : DimensionRecord → Key
dimension_key r = record { text = r.natural; number = r.day }

-- a column by its name and what it holds
abbrev pub column : List ℕ → Holds → Column
column name holds = record { name = name; holds = holds }

-- `id`, `day` and the attributes
abbrev pub dimension_columns : List Attribute → List Column
dimension_columns attributes = column (codes "id") holds.Key ∷ column (codes "day") holds.EffectiveDay ∷ map (λ a. column a.name holds.Value) attributes

-- the records of a dimension with these attributes, on any day
abbrev pub dimension_layout : List Attribute → Layout DimensionRecord
dimension_layout attributes = record {
  columns = dimension_columns attributes;
  read = dimension_record (length attributes);
  key = dimension_key;
  is_within = λ r. true;
}

-- the records of a batch for a dimension, or its first fault; they are written alike in each format
unfoldable pub dimension_records : Dim → Policy → List ℕ → Result (List DimensionRecord) BatchFault
dimension_records dim policy bytes = batch_of (dimension_layout (policy_attributes policy dim)) bytes

-- how many fields a sale has
abbrev pub fields_of_a_sale : Format → ℕ
fields_of_a_sale One = 9
fields_of_a_sale Two = 10

-- a ticket and a line, a day, a store, a product and perhaps a customer, a quantity, an amount and a cost
unfoldable pub undiscounted : List (List ℕ) → Result SaleRecord FaultKind
undiscounted (ticket ∷ line ∷ day ∷ store ∷ product ∷ customer ∷ quantity ∷ amount ∷ cost ∷ []) = do
  ticket ← key_of 20 ticket
  line ← line_of line
  day ← day_of day
  store ← key_of 32 store
  product ← key_of 32 product
  customer ← customer_of customer
  quantity ← quantity_of quantity
  amount ← amount_of amount
  cost ← amount_of cost
  Ok (record { ticket = ticket; line = line; day = day; store = store; product = product; customer = customer; quantity = quantity; amount = amount; cost = cost; discount = 0 })
undiscounted _ = Err WrongLength

-- the tenth field, where there is one
abbrev pub tenth : List (List ℕ) → List ℕ
tenth fields = unwrap_or (field_at fields 9) []

-- the discount among the fields: none in the first format, and the tenth in the second
unfoldable pub discount_in : Format → List (List ℕ) → Result ℕ FaultKind
discount_in One fields = Ok 0
discount_in Two fields = discount_of (tenth fields)

-- the nine fields, and in the second format a discount behind them
unfoldable pub sale_record : Format → List (List ℕ) → Result SaleRecord FaultKind
sale_record format fields = if not (length fields == fields_of_a_sale format) then Err WrongLength else do
  sale ← undiscounted (take 9 fields)
  discount ← discount_in format fields
  Ok (record sale { discount = discount })

-- the ticket and the line
abbrev pub sale_key : SaleRecord → Key
sale_key r = record { text = r.ticket; number = r.line }

-- the columns of a sale in the first format
abbrev pub undiscounted_columns : List Column
undiscounted_columns =
    column (codes "ticket") holds.Ticket ∷ column (codes "line") holds.Line ∷ column (codes "day") holds.Day
    ∷ column (codes "store") holds.Key ∷ column (codes "product") holds.Key ∷ column (codes "customer") holds.CustomerKey
    ∷ column (codes "quantity") holds.Quantity ∷ column (codes "amount") holds.Amount ∷ column (codes "cost") holds.Amount ∷ []

-- in the second format a discount stands behind them
abbrev pub sales_columns : Format → List Column
sales_columns One = undiscounted_columns
sales_columns Two = undiscounted_columns ++ column (codes "discount") holds.Discount ∷ []

-- sales in these years
abbrev pub sales_layout : Format → Years → Layout SaleRecord
sales_layout format years = record {
  columns = sales_columns format;
  read = sale_record format;
  key = sale_key;
  is_within = λ r. is_within years r.day;
}

-- the records of a batch of sales, or its first fault
unfoldable pub sale_records : Policy → Format → List ℕ → Result (List SaleRecord) BatchFault
sale_records policy format bytes = batch_of (sales_layout format policy.years) bytes

-- a ticket and a line
unfoldable pub void_record : List (List ℕ) → Result VoidRecord FaultKind
void_record (ticket ∷ line ∷ []) = do
  ticket ← key_of 20 ticket
  line ← line_of line
  Ok (record { ticket = ticket; line = line })
void_record _ = Err WrongLength

-- the ticket and the line
abbrev pub void_key : VoidRecord → Key
void_key r = record { text = r.ticket; number = r.line }

-- the columns of a void
abbrev pub void_columns : List Column
void_columns = column (codes "ticket") holds.Ticket ∷ column (codes "line") holds.Line ∷ []

-- voids, which have no day
abbrev pub voids_layout : Layout VoidRecord
voids_layout = record {
  columns = void_columns;
  read = void_record;
  key = void_key;
  is_within = λ r. true;
}

-- the records of a batch of voids, or its first fault: the first format has none
unfoldable pub void_records : Format → List ℕ → Result (List VoidRecord) BatchFault
void_records One bytes = Err (at 0 NotInFormat)
void_records Two bytes = batch_of voids_layout bytes

-- the records of a batch of this kind, or its first fault
unfoldable pub records_of : BatchKind → Policy → Format → List ℕ → Result Records BatchFault
records_of (kinds.Dimension dim) policy format bytes = dimension_records dim policy bytes >>= λ rs. Ok (of_kind.Dimension rs)
records_of kinds.Sales policy format bytes = sale_records policy format bytes >>= λ rs. Ok (of_kind.Sales rs)
records_of kinds.Voids policy format bytes = void_records format bytes >>= λ rs. Ok (of_kind.Voids rs)

-- the columns of a batch of this kind
abbrev pub columns_of : BatchKind → Policy → Format → List Column
columns_of (kinds.Dimension dim) policy format = dimension_columns (policy_attributes policy dim)
columns_of kinds.Sales policy format = sales_columns format
columns_of kinds.Voids policy format = void_columns
