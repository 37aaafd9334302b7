-- What a stored row is read as: a row of the table, where it has the columns and each value is of its type.
use Rattle.std.specs.Prelude.{◌==◌, if◌then◌else◌, length, Result, Ok}
use Rattle.sqlite.specs.Order.{Row, column}
use Rattle.wh_day.specs.Reading.{◌>>=◌}
use Rattle.wh_day.specs.declared.calendar.DateRow.{DateRow}
use Rattle.wh_policy.specs.declared.attribute.Dim.{Dim}
use Rattle.wh_history.specs.declared.rows.DimRow.{DimRow}
use Rattle.wh_history.specs.declared.facts.Fact.{Fact}
use Rattle.wh_rows.specs.declared.rows.VoidRow.{VoidRow}
use Rattle.wh_rows.specs.declared.columns.Damaged.{Damaged}
use Rattle.wh_rows.specs.declared.rows.MetaRow.{MetaRow}
use Rattle.wh_rows.specs.declared.rows.CommandRow.{CommandRow}
use Rattle.wh_rows.specs.declared.rows.MemberRow.{MemberRow}
use Rattle.wh_rows.specs.declared.rows.ChangeRow.{ChangeRow}
use Rattle.wh_rows.specs.declared.rows.ProfileRow.{ProfileRow}
use Rattle.wh_rows.specs.Types.{is_key, is_kind}
use Rattle.wh_rows.specs.Rows.{is_natural}
use Rattle.wh_rows.specs.Columns.{damaged, integer_of, number_of, line_of, measure_of, day_of, flag_of, dim_of, blob_of, text_of, tested_of, slots_of, discount_of}

abbrev pub meta_columns : Row → Result MetaRow Damaged
meta_columns row = do
  name ← text_of (column row 0)
  value ← integer_of (column row 1)
  Ok (record { name = name; value = value })

unfoldable pub read_meta : Row → Result MetaRow Damaged
read_meta row = if length row == 2 then meta_columns row else damaged

abbrev pub command_columns : Row → Result CommandRow Damaged
command_columns row = do
  number ← number_of (column row 0)
  id ← tested_of (is_key 40) (column row 1)
  kind ← tested_of is_kind (column row 2)
  bytes ← blob_of (column row 3)
  records ← number_of (column row 4)
  placeholders ← number_of (column row 5)
  Ok (record { number = number; id = id; kind = kind; bytes = bytes; records = records; placeholders = placeholders })

unfoldable pub read_command : Row → Result CommandRow Damaged
read_command row = if length row == 6 then command_columns row else damaged

abbrev pub member_columns : Row → Result MemberRow Damaged
member_columns row = do
  dim ← dim_of (column row 0)
  durable ← number_of (column row 1)
  natural ← tested_of (is_key 32) (column row 2)
  opening ← number_of (column row 3)
  Ok (record { dim = dim; durable = durable; natural = natural; opening = opening })

unfoldable pub read_member : Row → Result MemberRow Damaged
read_member row = if length row == 4 then member_columns row else damaged

abbrev pub change_columns : Row → Result ChangeRow Damaged
change_columns row = do
  command ← number_of (column row 0)
  place ← number_of (column row 1)
  dim ← dim_of (column row 2)
  durable ← number_of (column row 3)
  day ← day_of (column row 4)
  anchor ← number_of (column row 5)
  values ← slots_of row 6
  Ok (record { command = command; place = place; dim = dim; durable = durable; day = day; anchor = anchor; values = values })

unfoldable pub read_change : Row → Result ChangeRow Damaged
read_change row = if length row == 12 then change_columns row else damaged

abbrev pub dimension_columns : Dim → Row → Result DimRow Damaged
dimension_columns dim row = do
  surrogate ← number_of (column row 0)
  durable ← number_of (column row 1)
  natural ← tested_of (is_natural dim surrogate) (column row 2)
  from_day ← day_of (column row 3)
  to_day ← day_of (column row 4)
  is_current ← flag_of (column row 5)
  a ← slots_of row 6
  b ← slots_of row 12
  profile_now ← number_of (column row 18)
  Ok (record { surrogate = surrogate; durable = durable; natural = natural; from_day = from_day; to_day = to_day; is_current = is_current; a = a; b = b; profile_now = profile_now })

unfoldable pub read_dimension : Dim → Row → Result DimRow Damaged
read_dimension dim row = if length row == 19 then dimension_columns dim row else damaged

abbrev pub profile_columns : Row → Result ProfileRow Damaged
profile_columns row = do
  number ← number_of (column row 0)
  values ← slots_of row 1
  Ok (record { number = number; values = values })

unfoldable pub read_profile : Row → Result ProfileRow Damaged
read_profile row = if length row == 7 then profile_columns row else damaged

abbrev pub date_columns : Row → Result DateRow Damaged
date_columns row = do
  date_key ← day_of (column row 0)
  iso ← text_of (column row 1)
  year ← integer_of (column row 2)
  quarter ← integer_of (column row 3)
  month ← integer_of (column row 4)
  day ← integer_of (column row 5)
  day_of_year ← integer_of (column row 6)
  weekday ← integer_of (column row 7)
  weekday_name ← text_of (column row 8)
  weekend ← flag_of (column row 9)
  holiday ← text_of (column row 10)
  Ok (record { date_key = date_key; iso = iso; year = year; quarter = quarter; month = month; day = day; day_of_year = day_of_year; weekday = weekday; weekday_name = weekday_name; weekend = weekend; holiday = holiday })

unfoldable pub read_date : Row → Result DateRow Damaged
read_date row = if length row == 11 then date_columns row else damaged

abbrev pub fact_columns : Row → Result Fact Damaged
fact_columns row = do
  ticket ← tested_of (is_key 20) (column row 0)
  line ← line_of (column row 1)
  day ← day_of (column row 2)
  store_key ← number_of (column row 3)
  product_key ← number_of (column row 4)
  customer_key ← number_of (column row 5)
  store_durable ← number_of (column row 6)
  product_durable ← number_of (column row 7)
  customer_durable ← number_of (column row 8)
  profile ← number_of (column row 9)
  quantity ← measure_of 9999 (column row 10)
  amount ← measure_of 999999999 (column row 11)
  cost ← measure_of 999999999 (column row 12)
  Ok (record { ticket = ticket; line = line; day = day; keys = record { store_key = store_key; product_key = product_key; customer_key = customer_key; profile = profile }; store_durable = store_durable; product_durable = product_durable; customer_durable = customer_durable; quantity = quantity; amount = amount; cost = cost; discount = 0 })

unfoldable pub read_fact : Row → Result Fact Damaged
read_fact row = if length row == 13 then fact_columns row else damaged

abbrev pub fact2_columns : Row → Result Fact Damaged
fact2_columns row = do
  fact ← fact_columns row
  discount ← discount_of (column row 13)
  Ok (record fact { discount = discount })

unfoldable pub read_fact2 : Row → Result Fact Damaged
read_fact2 row = if length row == 14 then fact2_columns row else damaged

abbrev pub void_columns : Row → Result VoidRow Damaged
void_columns row = do
  ticket ← tested_of (is_key 20) (column row 0)
  line ← line_of (column row 1)
  command ← number_of (column row 2)
  Ok (record { ticket = ticket; line = line; command = command })

unfoldable pub read_void : Row → Result VoidRow Damaged
read_void row = if length row == 3 then void_columns row else damaged
