-- Where the labels of sales stand in the tables, and the keys of facts that lead there.
use Rattle.std.specs.Prelude.{ℕ, Option, unwrap_or}
use Rattle.wh_policy.specs.Types.{rule}
use Rattle.wh_policy.specs.declared.attribute.AttributeType.{AttributeType}
use Rattle.wh_policy.specs.declared.type_rule.TypeRule.{TypeRule}
use Rattle.wh_policy.specs.declared.type_rule.ValuePlace.{ValuePlace}
use Rattle.wh_policy.specs.declared.type_rule.ValuePlace.TheVariants as at
use Rattle.wh_policy.specs.declared.attribute.Dim.{Dim}
use Rattle.wh_policy.specs.declared.attribute.Dim.TheVariants.{Product, Store, Customer}
use Rattle.wh_history.specs.declared.facts.Fact.{Fact}
use Rattle.wh_rows.specs.KeyedSales.{key_of}
pub use Rattle.wh_rows.specs.KeyedSales.{surrogate_in, durable_in}
use Rattle.wh_rows.specs.declared.keyed_sale.FactColumn.{FactColumn}
use Rattle.wh_rows.specs.declared.keyed_sale.FactColumn.TheVariants.{Surrogate, Durable, Profile, Day}
use Rattle.wh_rows.specs.declared.table.Table.{Table}
use Rattle.wh_rows.specs.declared.table.Table.TheVariants as table
use Rattle.wh_report.specs.declared.column.LabelColumn.{LabelColumn}
use Rattle.wh_report.specs.declared.column.LabelColumn.TheVariants.{Main, Second, CurrentMain, FactProfile, CurrentProfile, CalendarMonth, CalendarHoliday}
use Rattle.wh_report.specs.declared.subject.Reading.{Reading}
use Rattle.wh_report.specs.declared.subject.Reading.TheVariants.{AtSaleDay, Latest, Original, PriorValue}
use Rattle.wh_report.specs.declared.subject.SlotAttribute.{SlotAttribute}
use Rattle.wh_report.specs.declared.subject.Subject.{Subject}
use Rattle.wh_report.specs.declared.subject.Subject.TheVariants.{Attribute, Month, Holiday}

-- where a type keeps what a reading shows: the latest where it looks for what is, the prior where it looks for what was before
abbrev pub reading_place : TypeRule → Reading → Option ValuePlace
reading_place r AtSaleDay = r.was
reading_place r Latest = r.is_now
reading_place r Original = r.was
reading_place r PriorValue = r.prior

-- the column of a slot at a place
abbrev pub place_column : Dim → ℕ → ValuePlace → LabelColumn
place_column dim place at.Main = Main dim place
place_column dim place at.Second = Second dim place
place_column dim place at.CurrentMain = CurrentMain dim place
place_column dim place at.SaleProfile = FactProfile place
place_column dim place at.NewestProfile = CurrentProfile place

-- the column of a slot that has what a reading shows of an attribute of a type
abbrev pub slot_column : Dim → ℕ → AttributeType → Reading → LabelColumn
slot_column dim place kind which = place_column dim place (unwrap_or (reading_place (rule kind) which) at.Main)

abbrev pub attribute_column : SlotAttribute → Reading → LabelColumn
attribute_column a which = slot_column a.dim a.place a.kind which

-- where the labels of a reading of a subject stand
abbrev pub column_of : Subject → Reading → LabelColumn
column_of (Attribute a) which = attribute_column a which
column_of Month which = CalendarMonth
column_of Holiday which = CalendarHoliday

-- the key by which a fact names the row of its label
abbrev pub label_column_fact_key : LabelColumn → FactColumn
label_column_fact_key (Main dim place) = Surrogate dim
label_column_fact_key (Second dim place) = Surrogate dim
label_column_fact_key (CurrentMain dim place) = Durable dim
label_column_fact_key (FactProfile place) = Profile
label_column_fact_key (CurrentProfile place) = Durable Customer
label_column_fact_key CalendarMonth = Day
label_column_fact_key CalendarHoliday = Day

abbrev pub fact_key : LabelColumn → Fact → ℕ
fact_key column f = key_of (label_column_fact_key column) f

-- the table that has the column
abbrev pub table_of_dim : Dim → Table
table_of_dim Product = table.Product
table_of_dim Store = table.Store
table_of_dim Customer = table.Customer

abbrev pub label_column_table : LabelColumn → Table
label_column_table (Main dim place) = table_of_dim dim
label_column_table (Second dim place) = table_of_dim dim
label_column_table (CurrentMain dim place) = table_of_dim dim
label_column_table (FactProfile place) = table.Profile
label_column_table (CurrentProfile place) = table.Customer
label_column_table CalendarMonth = table.Calendar
label_column_table CalendarHoliday = table.Calendar
