-- The SQL of views over the star, in which attributes have their names.
use Rattle.std.specs.Prelude.{ℕ, ◌+◌, List, [], ◌∷◌, ◌++◌, codes, flat_map, Option, Some, None, option_map}
use Rattle.std.specs.Fmt.{decimal}
use Rattle.std.specs.List.{join_by}
use Rattle.wh_policy.specs.Policy.{policy_attributes}
use Rattle.wh_policy.specs.Types.{rule}
use Rattle.wh_policy.specs.Words.{dim_word}
use Rattle.wh_policy.specs.declared.attribute.Attribute.{Attribute}
use Rattle.wh_policy.specs.declared.attribute.AttributeType.{AttributeType}
use Rattle.wh_policy.specs.declared.type_rule.ValuePlace.{ValuePlace}
use Rattle.wh_policy.specs.declared.type_rule.ValuePlace.TheVariants as at
use Rattle.wh_policy.specs.declared.attribute.Dim.{Dim}
use Rattle.wh_policy.specs.declared.attribute.Dim.TheVariants.{Product, Store, Customer}
use Rattle.wh_policy.specs.declared.format.Format.{Format}
use Rattle.wh_policy.specs.declared.format.Format.TheVariants.{One, Two}
use Rattle.wh_policy.specs.declared.policy.Policy.{Policy}
use Rattle.wh_batch.specs.declared.mode.Mode.{Mode}
use Rattle.wh_batch.specs.declared.mode.Mode.TheVariants.{Was, Is, Prior}
use Rattle.wh_explain.specs.declared.views.SalesView.{SalesView}
use Rattle.wh_explain.specs.declared.views.SalesView.TheVariants.{AsWas, AsIs}
use Rattle.wh_explain.specs.declared.views.ValueColumn.{ValueColumn}
use Rattle.wh_explain.specs.declared.views.ValueColumn.TheVariants.{Main, Second, Profile}

-- a column of a view: what it shows, and its name
pub record ViewColumn : Type 0 where
  pub shows : List ℕ
  pub name : List ℕ

-- ---- which column of a sale's rows has the value of an attribute

-- by the place where a sale finds it
abbrev pub place_value : ValuePlace → ValueColumn
place_value at.Main = Main
place_value at.Second = Second
place_value at.CurrentMain = Main
place_value at.SaleProfile = Profile
place_value at.NewestProfile = Profile

-- As it was: the sale is joined with the rows and the profile of its day. Type 3 keeps no value of that day.
abbrev pub value_was : AttributeType → Option ValueColumn
value_was kind = option_map place_value (rule kind).was

-- As it is: the sale is joined with the current rows of its members, and with the profile that the customer's names. Types 2 and 4 are not asked as they are.
abbrev pub value_is : AttributeType → Option ValueColumn
value_is kind = option_map place_value (rule kind).is_now

-- and as it was before the newest change, beside what is
abbrev pub value_prior : AttributeType → Option ValueColumn
value_prior kind = option_map place_value (rule kind).prior

-- ---- the columns of a view of sales

-- the value of the attribute in this slot
abbrev pub value_text : Dim → (slot : ℕ) → ValueColumn → List ℕ
value_text dim slot Main = dim_word dim ++ codes ".a" ++ decimal slot
value_text dim slot Second = dim_word dim ++ codes ".b" ++ decimal slot
value_text dim slot Profile = codes "profile.v" ++ decimal slot

-- an attribute is called by its dimension and its name, as `product_brand`, with a prefix in front or none
abbrev pub attribute_name : (prefix : List ℕ) → Dim → (name : List ℕ) → List ℕ
attribute_name prefix dim name = prefix ++ dim_word dim ++ codes "_" ++ name

-- its column, where it has a value
abbrev pub shown_value : (prefix : List ℕ) → Dim → (slot : ℕ) → Attribute → Option ValueColumn → List ViewColumn
shown_value prefix dim slot attribute None = []
shown_value prefix dim slot attribute (Some value) = record { shows = value_text dim slot value; name = attribute_name prefix dim attribute.name } ∷ []

-- its column for a mode, where it has one
abbrev pub mode_columns : Mode → Dim → (slot : ℕ) → Attribute → List ViewColumn
mode_columns Was dim slot attribute = shown_value [] dim slot attribute (value_was attribute.kind)
mode_columns Is dim slot attribute = shown_value [] dim slot attribute (value_is attribute.kind)
mode_columns Prior dim slot attribute = shown_value (codes "prior_") dim slot attribute (value_prior attribute.kind)

-- its columns in a view
abbrev pub attribute_columns : SalesView → Dim → (slot : ℕ) → Attribute → List ViewColumn
attribute_columns AsWas dim slot attribute = mode_columns Was dim slot attribute
attribute_columns AsIs dim slot attribute = mode_columns Is dim slot attribute ++ mode_columns Prior dim slot attribute

-- those of attributes, where the first of them has this slot
abbrev pub columns_from : SalesView → Dim → (slot : ℕ) → List Attribute → List ViewColumn
columns_from view dim slot [] = []
columns_from view dim slot (attribute ∷ attributes) = attribute_columns view dim slot attribute ++ columns_from view dim (slot + 1) attributes

-- those of a dimension: the natural key has its name
abbrev pub dimension_columns : SalesView → Policy → Dim → List ViewColumn
dimension_columns view policy dim = record { shows = dim_word dim ++ codes ".natural"; name = dim_word dim } ∷ columns_from view dim 1 (policy_attributes policy dim)

abbrev pub all_dimension_columns : SalesView → Policy → List ViewColumn
all_dimension_columns view policy = dimension_columns view policy Product ++ dimension_columns view policy Store ++ dimension_columns view policy Customer

-- which sale it is, and its day; the ticket comes first
abbrev pub first_column : ViewColumn
first_column = record { shows = codes "fact.ticket"; name = codes "ticket" }

abbrev pub day_columns : List ViewColumn
day_columns =
    record { shows = codes "fact.line"; name = codes "line" }
    ∷ record { shows = codes "fact.day"; name = codes "day" }
    ∷ record { shows = codes "calendar.iso"; name = codes "sale_date" }
    ∷ record { shows = codes "substr(calendar.iso, 1, 7)"; name = codes "month" }
    ∷ record { shows = codes "calendar.weekday_name"; name = codes "weekday" }
    ∷ record { shows = codes "calendar.weekend"; name = codes "is_weekend" }
    ∷ record { shows = codes "calendar.holiday"; name = codes "holiday" }
    ∷ []

-- its figures: money is in hundredths, and format 2 has discounts
abbrev pub figures : List ViewColumn
figures =
    record { shows = codes "fact.quantity"; name = codes "quantity" }
    ∷ record { shows = codes "fact.amount"; name = codes "amount" }
    ∷ record { shows = codes "fact.cost"; name = codes "cost" }
    ∷ record { shows = codes "fact.amount - fact.cost"; name = codes "margin" }
    ∷ []

abbrev pub discounts : Format → List ViewColumn
discounts One = []
discounts Two = record { shows = codes "fact.discount"; name = codes "discount" } ∷ []

-- all behind the first
abbrev pub more_columns : SalesView → Policy → Format → List ViewColumn
more_columns view policy format = day_columns ++ all_dimension_columns view policy ++ figures ++ discounts format

-- ---- texts

abbrev pub column_text : ViewColumn → List ℕ
column_text column = column.shows ++ codes " AS " ++ column.name

-- columns behind others
abbrev pub columns_text : List ViewColumn → List ℕ
columns_text = flat_map (λ column. codes ",\n    " ++ column_text column)

-- a list of columns
abbrev pub list_text : List ViewColumn → List ℕ
list_text = join_by column_text (codes ",\n    ")

-- what comes before the columns of a view, and behind them
unfoldable pub view_head : (name : List ℕ) → List ℕ
view_head name = codes "CREATE TEMP VIEW " ++ name ++ codes " AS\nSELECT\n    "

unfoldable pub view_source : (source : List ℕ) → List ℕ
view_source source = codes "\nFROM " ++ source ++ codes ";\n"

-- a view of these columns
abbrev pub view_text : (name : List ℕ) → List ViewColumn → (source : List ℕ) → List ℕ
view_text name columns source = view_head name ++ list_text columns ++ view_source source

-- the sales of a format, each with its day
abbrev pub sales_table : Format → List ℕ
sales_table One = codes "fact"
sales_table Two = codes "fact2 AS fact"

abbrev pub sales_with_days : Format → List ℕ
sales_with_days format = sales_table format ++ codes "\nJOIN calendar ON calendar.date_key = fact.day"

-- the row of a dimension that a sale is joined with, and then all of them
abbrev pub row_of_the_day : Dim → List ℕ
row_of_the_day dim = codes "\nJOIN " ++ dim_word dim ++ codes " ON " ++ dim_word dim ++ codes ".surrogate = fact." ++ dim_word dim ++ codes "_key"

abbrev pub current_row : Dim → List ℕ
current_row dim = codes "\nJOIN " ++ dim_word dim ++ codes " ON " ++ dim_word dim ++ codes ".durable = fact." ++ dim_word dim ++ codes "_durable AND " ++ dim_word dim ++ codes ".is_current = 1"

abbrev pub joins : SalesView → List ℕ
joins AsWas = row_of_the_day Product ++ row_of_the_day Store ++ row_of_the_day Customer ++ codes "\nJOIN profile ON profile.number = fact.profile"
joins AsIs = current_row Product ++ current_row Store ++ current_row Customer ++ codes "\nJOIN profile ON profile.number = customer.profile_now"

abbrev pub view_name : SalesView → List ℕ
view_name AsWas = codes "sales_as_was"
view_name AsIs = codes "sales_as_is"

-- a row for each sale
unfoldable pub sales_view : SalesView → Policy → Format → List ℕ
sales_view view policy format = view_text (view_name view) (first_column ∷ more_columns view policy format) (sales_with_days format ++ joins view)

-- a row for each month, with what was sold
abbrev pub month_columns : List ViewColumn
month_columns =
    record { shows = codes "substr(calendar.iso, 1, 7)"; name = codes "month" }
    ∷ record { shows = codes "count(*)"; name = codes "lines" }
    ∷ record { shows = codes "sum(fact.quantity)"; name = codes "quantity" }
    ∷ record { shows = codes "sum(fact.amount)"; name = codes "amount" }
    ∷ record { shows = codes "sum(fact.cost)"; name = codes "cost" }
    ∷ record { shows = codes "sum(fact.amount - fact.cost)"; name = codes "margin" }
    ∷ []

unfoldable pub month_view : Format → List ℕ
month_view format = view_text (codes "sales_by_month") month_columns (sales_with_days format ++ codes "\nGROUP BY substr(calendar.iso, 1, 7)")

-- all views, under a policy and in a format
unfoldable pub views_text : Policy → Format → List ℕ
views_text policy format = sales_view AsWas policy format ++ sales_view AsIs policy format ++ month_view format
