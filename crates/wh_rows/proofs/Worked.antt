-- The definitions on stored rows whose readings are known: each lemma computes.
use Rattle.std.specs.Prelude.{true, false, pos, negsuc, codes, replicate, [], ◌∷◌, Ok, Some, None}
use Rattle.std.proofs.Common.{◌≡◌, inl, inr, refl}
use Rattle.sqlite_value.specs.declared.value.Value.{Value}
use Rattle.sqlite_value.specs.declared.value.Value.TheVariants.{Null, Int, Text, Blob}
use Rattle.sqlite_value.specs.Order.{Row, value_cmp}
use Rattle.wh_policy.specs.declared.attribute.Dim.TheVariants.{Product, Store, Customer}
use Rattle.wh_rows.specs.Names.{table_of_name}
use Rattle.wh_rows.specs.declared.table.Table.TheVariants.{Fact as FactTable}
use Rattle.wh_rows.specs.Limits.{limits_of, greatest_limits}
use Rattle.wh_rows.specs.Types.{is_key, is_kind}
use Rattle.wh_rows.specs.Columns.{damaged, integer_of, number_of, line_of, measure_of, day_of, flag_of, dim_of, blob_of, text_of, slot_of}
use Rattle.wh_rows.specs.Stored.{read_meta, read_command, read_member, read_change, read_dimension, read_profile, read_date, read_fact, read_fact2}
use Rattle.wh_rows.specs.KeyedSales.{shown_of, keyed_of}
use Rattle.wh_rows.specs.declared.keyed_sale.FactColumn.TheVariants.{Surrogate, Durable, Profile, Day}
use Rattle.wh_rows.specs.Questions.{anchor_column}
use Rattle.wh_rows.specs.Raw.{IsGreatestIn, IsGreatestAnchor}
use Rattle.wh_rows.proofs.OnLiterals.{rows_on_literals}

-- ---- names and limits

fact_by_name : table_of_name (codes "fact") ≡ Some FactTable
unfolding rows_on_literals
fact_by_name = refl

no_such_name : table_of_name (codes "facts") ≡ None
unfolding rows_on_literals
no_such_name = refl

greatest_are_limits : limits_of 100000 1000000 1000000 ≡ Some greatest_limits
unfolding rows_on_literals
greatest_are_limits = refl

no_commands : limits_of 0 1 1 ≡ None
unfolding rows_on_literals
no_commands = refl

too_many_commands : limits_of 100001 1 1 ≡ None
unfolding rows_on_literals
too_many_commands = refl

no_changes : limits_of 1 0 1 ≡ None
unfolding rows_on_literals
no_changes = refl

too_many_changes : limits_of 1 1000001 1 ≡ None
unfolding rows_on_literals
too_many_changes = refl

no_facts : limits_of 1 1 0 ≡ None
unfolding rows_on_literals
no_facts = refl

too_many_facts : limits_of 1 1 1000001 ≡ None
unfolding rows_on_literals
too_many_facts = refl

least_are_limits : limits_of 1 1 1 ≡ Some (record { commands = 1; changes = 1; facts = 1 })
unfolding rows_on_literals
least_are_limits = refl

-- ---- columns

greatest_number : number_of (Int (pos 9999999)) ≡ Ok 9999999
unfolding rows_on_literals
greatest_number = refl

past_numbers : number_of (Int (pos 10000000)) ≡ damaged
unfolding rows_on_literals
past_numbers = refl

below_numbers : number_of (Int (negsuc 0)) ≡ damaged
unfolding rows_on_literals
below_numbers = refl

text_for_number : number_of (Text (codes "7")) ≡ damaged
unfolding rows_on_literals
text_for_number = refl

null_for_number : number_of Null ≡ damaged
unfolding rows_on_literals
null_for_number = refl

first_line : line_of (Int (pos 1)) ≡ Ok 1
unfolding rows_on_literals
first_line = refl

no_line : line_of (Int (pos 0)) ≡ damaged
unfolding rows_on_literals
no_line = refl

past_lines : line_of (Int (pos 10000)) ≡ damaged
unfolding rows_on_literals
past_lines = refl

least_quantity : measure_of 9999 (Int (negsuc 9998)) ≡ Ok (negsuc 9998)
unfolding rows_on_literals
least_quantity = refl

below_quantities : measure_of 9999 (Int (negsuc 9999)) ≡ damaged
unfolding rows_on_literals
below_quantities = refl

past_amounts : measure_of 999999999 (Int (pos 1000000000)) ≡ damaged
unfolding rows_on_literals
past_amounts = refl

leap_day : day_of (Int (pos 20240229)) ≡ Ok 20240229
unfolding rows_on_literals
leap_day = refl

no_leap_day : day_of (Int (pos 20230229)) ≡ damaged
unfolding rows_on_literals
no_leap_day = refl

before_the_first : day_of (Int (pos 18991231)) ≡ damaged
unfolding rows_on_literals
before_the_first = refl

text_for_day : day_of (Text (codes "2024-02-29")) ≡ damaged
unfolding rows_on_literals
text_for_day = refl

yes_is_one : flag_of (Int (pos 1)) ≡ Ok true
unfolding rows_on_literals
yes_is_one = refl

no_is_zero : flag_of (Int (pos 0)) ≡ Ok false
unfolding rows_on_literals
no_is_zero = refl

two_is_no_flag : flag_of (Int (pos 2)) ≡ damaged
unfolding rows_on_literals
two_is_no_flag = refl

third_dimension : dim_of (Int (pos 3)) ≡ Ok Customer
unfolding rows_on_literals
third_dimension = refl

no_dimension : dim_of (Int (pos 0)) ≡ damaged
unfolding rows_on_literals
no_dimension = refl

fourth_dimension : dim_of (Int (pos 4)) ≡ damaged
unfolding rows_on_literals
fourth_dimension = refl

any_integer : integer_of (Int (negsuc 4)) ≡ Ok (negsuc 4)
unfolding rows_on_literals
any_integer = refl

bytes : blob_of (Blob (0 ∷ 255 ∷ [])) ≡ Ok (0 ∷ 255 ∷ [])
unfolding rows_on_literals
bytes = refl

text_for_bytes : blob_of (Text (codes "a")) ≡ damaged
unfolding rows_on_literals
text_for_bytes = refl

no_text : text_of (Text (255 ∷ [])) ≡ damaged
unfolding rows_on_literals
no_text = refl

twenty_bytes : is_key 20 (replicate 20 65) ≡ true
unfolding rows_on_literals
twenty_bytes = refl

no_bytes : is_key 20 [] ≡ false
unfolding rows_on_literals
no_bytes = refl

too_many_bytes : is_key 20 (replicate 21 65) ≡ false
unfolding rows_on_literals
too_many_bytes = refl

marks_in_keys : is_key 32 (codes "a-Z_9.") ≡ true
unfolding rows_on_literals
marks_in_keys = refl

space_in_key : is_key 32 (codes "P 1") ≡ false
unfolding rows_on_literals
space_in_key = refl

migration : is_kind (codes "migrate") ≡ true
unfolding rows_on_literals
migration = refl

upgrade : is_kind (codes "upgrade") ≡ true
unfolding rows_on_literals
upgrade = refl

voids : is_kind (codes "void") ≡ true
unfolding rows_on_literals
voids = refl

no_kind : is_kind (codes "fact") ≡ false
unfolding rows_on_literals
no_kind = refl

empty_slot : slot_of (Text []) ≡ Ok []
unfolding rows_on_literals
empty_slot = refl

unknown_slot : slot_of (Text (codes "(unknown)")) ≡ Ok (codes "(unknown)")
unfolding rows_on_literals
unknown_slot = refl

value_in_slot : slot_of (Text (codes "Cola 1l")) ≡ Ok (codes "Cola 1l")
unfolding rows_on_literals
value_in_slot = refl

other_parenthesis : slot_of (Text (codes "(other)")) ≡ damaged
unfolding rows_on_literals
other_parenthesis = refl

control_in_slot : slot_of (Text (9 ∷ [])) ≡ damaged
unfolding rows_on_literals
control_in_slot = refl

long_slot : slot_of (Text (replicate 61 65)) ≡ damaged
unfolding rows_on_literals
long_slot = refl

number_in_slot : slot_of (Int (pos 2)) ≡ damaged
unfolding rows_on_literals
number_in_slot = refl

-- ---- product, store, customer

product_row : read_dimension Product (Int (pos 3) ∷ Int (pos 1) ∷ Text (codes "P1") ∷ Int (pos 20240201) ∷ Int (pos 99991231) ∷ Int (pos 1) ∷ Text (codes "Cola 1l") ∷ Text (codes "Bolt") ∷ Text (codes "Drinks") ∷ Text (codes "Grocery") ∷ Text (codes "2019") ∷ Text (codes "North") ∷ Text [] ∷ Text [] ∷ Text (codes "Drinks") ∷ Text [] ∷ Text [] ∷ Text (codes "(none)") ∷ Int (pos 0) ∷ [])
    ≡ Ok (record { surrogate = 3; durable = 1; natural = codes "P1"; from_day = 20240201; to_day = 99991231; is_current = true; a = codes "Cola 1l" ∷ codes "Bolt" ∷ codes "Drinks" ∷ codes "Grocery" ∷ codes "2019" ∷ codes "North" ∷ []; b = [] ∷ [] ∷ codes "Drinks" ∷ [] ∷ [] ∷ codes "(none)" ∷ []; profile_now = 0 })
unfolding rows_on_literals
product_row = refl

customer_row_0 : read_dimension Customer (Int (pos 0) ∷ Int (pos 0) ∷ Text (codes "(no card)") ∷ Int (pos 19000101) ∷ Int (pos 99991231) ∷ Int (pos 1) ∷ Text (codes "(no card)") ∷ Text [] ∷ Text [] ∷ Text [] ∷ Text [] ∷ Text [] ∷ Text [] ∷ Text [] ∷ Text [] ∷ Text [] ∷ Text [] ∷ Text [] ∷ Int (pos 0) ∷ [])
    ≡ Ok (record { surrogate = 0; durable = 0; natural = codes "(no card)"; from_day = 19000101; to_day = 99991231; is_current = true; a = codes "(no card)" ∷ [] ∷ [] ∷ [] ∷ [] ∷ [] ∷ []; b = [] ∷ [] ∷ [] ∷ [] ∷ [] ∷ [] ∷ []; profile_now = 0 })
unfolding rows_on_literals
customer_row_0 = refl

no_card_in_another_row : read_dimension Customer (Int (pos 1) ∷ Int (pos 0) ∷ Text (codes "(no card)") ∷ Int (pos 19000101) ∷ Int (pos 99991231) ∷ Int (pos 1) ∷ Text (codes "(no card)") ∷ Text [] ∷ Text [] ∷ Text [] ∷ Text [] ∷ Text [] ∷ Text [] ∷ Text [] ∷ Text [] ∷ Text [] ∷ Text [] ∷ Text [] ∷ Int (pos 0) ∷ []) ≡ damaged
unfolding rows_on_literals
no_card_in_another_row = refl

no_card_in_store : read_dimension Store (Int (pos 0) ∷ Int (pos 0) ∷ Text (codes "(no card)") ∷ Int (pos 19000101) ∷ Int (pos 99991231) ∷ Int (pos 1) ∷ Text (codes "(no card)") ∷ Text [] ∷ Text [] ∷ Text [] ∷ Text [] ∷ Text [] ∷ Text [] ∷ Text [] ∷ Text [] ∷ Text [] ∷ Text [] ∷ Text [] ∷ Int (pos 0) ∷ []) ≡ damaged
unfolding rows_on_literals
no_card_in_store = refl

flag_of_two : read_dimension Product (Int (pos 3) ∷ Int (pos 1) ∷ Text (codes "P1") ∷ Int (pos 20240201) ∷ Int (pos 99991231) ∷ Int (pos 2) ∷ Text (codes "Cola 1l") ∷ Text (codes "Bolt") ∷ Text (codes "Drinks") ∷ Text (codes "Grocery") ∷ Text (codes "2019") ∷ Text (codes "North") ∷ Text [] ∷ Text [] ∷ Text (codes "Drinks") ∷ Text [] ∷ Text [] ∷ Text (codes "(none)") ∷ Int (pos 0) ∷ []) ≡ damaged
unfolding rows_on_literals
flag_of_two = refl

no_day_in_product : read_dimension Product (Int (pos 3) ∷ Int (pos 1) ∷ Text (codes "P1") ∷ Int (pos 20240201) ∷ Int (pos 20240230) ∷ Int (pos 1) ∷ Text (codes "Cola 1l") ∷ Text (codes "Bolt") ∷ Text (codes "Drinks") ∷ Text (codes "Grocery") ∷ Text (codes "2019") ∷ Text (codes "North") ∷ Text [] ∷ Text [] ∷ Text (codes "Drinks") ∷ Text [] ∷ Text [] ∷ Text (codes "(none)") ∷ Int (pos 0) ∷ []) ≡ damaged
unfolding rows_on_literals
no_day_in_product = refl

a_column_too_few : read_dimension Product (Int (pos 3) ∷ []) ≡ damaged
unfolding rows_on_literals
a_column_too_few = refl

-- ---- the other tables

meta_row : read_meta (Text (codes "format") ∷ Int (pos 1) ∷ []) ≡ Ok (record { name = codes "format"; value = pos 1 })
unfolding rows_on_literals
meta_row = refl

meta_of_a_text : read_meta (Text (codes "format") ∷ Text (codes "1") ∷ []) ≡ damaged
unfolding rows_on_literals
meta_of_a_text = refl

command_row : read_command (Int (pos 5) ∷ Text (codes "s1") ∷ Text (codes "sales") ∷ Blob (codes "x") ∷ Int (pos 2) ∷ Int (pos 1) ∷ [])
    ≡ Ok (record { number = 5; id = codes "s1"; kind = codes "sales"; bytes = codes "x"; records = 2; placeholders = 1 })
unfolding rows_on_literals
command_row = refl

id_of_forty : read_command (Int (pos 5) ∷ Text (replicate 41 65) ∷ Text (codes "sales") ∷ Blob (codes "x") ∷ Int (pos 2) ∷ Int (pos 1) ∷ []) ≡ damaged
unfolding rows_on_literals
id_of_forty = refl

kind_of_none : read_command (Int (pos 5) ∷ Text (codes "s1") ∷ Text (codes "voids") ∷ Blob (codes "x") ∷ Int (pos 2) ∷ Int (pos 1) ∷ []) ≡ damaged
unfolding rows_on_literals
kind_of_none = refl

member_row : read_member (Int (pos 1) ∷ Int (pos 2) ∷ Text (codes "P9") ∷ Int (pos 9) ∷ []) ≡ Ok (record { dim = Product; durable = 2; natural = codes "P9"; opening = 9 })
unfolding rows_on_literals
member_row = refl

member_of_dimension_4 : read_member (Int (pos 4) ∷ Int (pos 2) ∷ Text (codes "P9") ∷ Int (pos 9) ∷ []) ≡ damaged
unfolding rows_on_literals
member_of_dimension_4 = refl

no_member_without_card : read_member (Int (pos 3) ∷ Int (pos 0) ∷ Text (codes "(no card)") ∷ Int (pos 0) ∷ []) ≡ damaged
unfolding rows_on_literals
no_member_without_card = refl

change_row : read_change (Int (pos 6) ∷ Int (pos 1) ∷ Int (pos 1) ∷ Int (pos 1) ∷ Int (pos 20240120) ∷ Int (pos 4) ∷ Text (codes "Cola 1l") ∷ Text (codes "Bolt") ∷ Text [] ∷ Text [] ∷ Text [] ∷ Text [] ∷ [])
    ≡ Ok (record { command = 6; place = 1; dim = Product; durable = 1; day = 20240120; anchor = 4; values = codes "Cola 1l" ∷ codes "Bolt" ∷ [] ∷ [] ∷ [] ∷ [] ∷ [] })
unfolding rows_on_literals
change_row = refl

change_on_no_day : read_change (Int (pos 6) ∷ Int (pos 1) ∷ Int (pos 1) ∷ Int (pos 1) ∷ Int (pos 20240132) ∷ Int (pos 4) ∷ Text (codes "Cola 1l") ∷ Text (codes "Bolt") ∷ Text [] ∷ Text [] ∷ Text [] ∷ Text [] ∷ []) ≡ damaged
unfolding rows_on_literals
change_on_no_day = refl

profile_row : read_profile (Int (pos 2) ∷ Text [] ∷ Text (codes "30-39") ∷ Text (codes "high") ∷ Text [] ∷ Text [] ∷ Text [] ∷ []) ≡ Ok (record { number = 2; values = [] ∷ codes "30-39" ∷ codes "high" ∷ [] ∷ [] ∷ [] ∷ [] })
unfolding rows_on_literals
profile_row = refl

profile_below_0 : read_profile (Int (negsuc 0) ∷ Text [] ∷ Text (codes "30-39") ∷ Text (codes "high") ∷ Text [] ∷ Text [] ∷ Text [] ∷ []) ≡ damaged
unfolding rows_on_literals
profile_below_0 = refl

date_row : read_date (Int (pos 20241225) ∷ Text (codes "2024-12-25") ∷ Int (pos 2024) ∷ Int (pos 4) ∷ Int (pos 12) ∷ Int (pos 25) ∷ Int (pos 360) ∷ Int (pos 3) ∷ Text (codes "Wednesday") ∷ Int (pos 0) ∷ Text (codes "Christmas Day") ∷ [])
    ≡ Ok (record { date_key = 20241225; iso = codes "2024-12-25"; year = pos 2024; quarter = pos 4; month = pos 12; day = pos 25; day_of_year = pos 360; weekday = pos 3; weekday_name = codes "Wednesday"; weekend = false; holiday = codes "Christmas Day" })
unfolding rows_on_literals
date_row = refl

date_of_no_day : read_date (Int (pos 20241232) ∷ Text (codes "2024-12-25") ∷ Int (pos 2024) ∷ Int (pos 4) ∷ Int (pos 12) ∷ Int (pos 25) ∷ Int (pos 360) ∷ Int (pos 3) ∷ Text (codes "Wednesday") ∷ Int (pos 0) ∷ Text (codes "Christmas Day") ∷ []) ≡ damaged
unfolding rows_on_literals
date_of_no_day = refl

weekend_of_two : read_date (Int (pos 20241225) ∷ Text (codes "2024-12-25") ∷ Int (pos 2024) ∷ Int (pos 4) ∷ Int (pos 12) ∷ Int (pos 25) ∷ Int (pos 360) ∷ Int (pos 3) ∷ Text (codes "Wednesday") ∷ Int (pos 2) ∷ Text (codes "Christmas Day") ∷ []) ≡ damaged
unfolding rows_on_literals
weekend_of_two = refl

fact_row : read_fact (Text (codes "T2") ∷ Int (pos 1) ∷ Int (pos 20240610) ∷ Int (pos 1) ∷ Int (pos 9) ∷ Int (pos 1) ∷ Int (pos 1) ∷ Int (pos 2) ∷ Int (pos 1) ∷ Int (pos 1) ∷ Int (pos 1) ∷ Int (pos 1000) ∷ Int (pos 700) ∷ [])
    ≡ Ok (record { ticket = codes "T2"; line = 1; day = 20240610; keys = record { store_key = 1; product_key = 9; customer_key = 1; profile = 1 }; store_durable = 1; product_durable = 2; customer_durable = 1; quantity = pos 1; amount = pos 1000; cost = pos 700; discount = 0 })
unfolding rows_on_literals
fact_row = refl

fact_with_discount : read_fact2 (Text (codes "T5") ∷ Int (pos 1) ∷ Int (pos 20240705) ∷ Int (pos 1) ∷ Int (pos 6) ∷ Int (pos 1) ∷ Int (pos 1) ∷ Int (pos 1) ∷ Int (pos 1) ∷ Int (pos 3) ∷ Int (pos 2) ∷ Int (pos 500) ∷ Int (pos 320) ∷ Int (pos 50) ∷ [])
    ≡ Ok (record { ticket = codes "T5"; line = 1; day = 20240705; keys = record { store_key = 1; product_key = 6; customer_key = 1; profile = 3 }; store_durable = 1; product_durable = 1; customer_durable = 1; quantity = pos 2; amount = pos 500; cost = pos 320; discount = 50 })
unfolding rows_on_literals
fact_with_discount = refl

ticket_with_space : read_fact (Text (codes "T 2") ∷ Int (pos 1) ∷ Int (pos 20240610) ∷ Int (pos 1) ∷ Int (pos 9) ∷ Int (pos 1) ∷ Int (pos 1) ∷ Int (pos 2) ∷ Int (pos 1) ∷ Int (pos 1) ∷ Int (pos 1) ∷ Int (pos 1000) ∷ Int (pos 700) ∷ []) ≡ damaged
unfolding rows_on_literals
ticket_with_space = refl

line_10000 : read_fact (Text (codes "T2") ∷ Int (pos 10000) ∷ Int (pos 20240610) ∷ Int (pos 1) ∷ Int (pos 9) ∷ Int (pos 1) ∷ Int (pos 1) ∷ Int (pos 2) ∷ Int (pos 1) ∷ Int (pos 1) ∷ Int (pos 1) ∷ Int (pos 1000) ∷ Int (pos 700) ∷ []) ≡ damaged
unfolding rows_on_literals
line_10000 = refl

quantity_10000 : read_fact (Text (codes "T2") ∷ Int (pos 1) ∷ Int (pos 20240610) ∷ Int (pos 1) ∷ Int (pos 9) ∷ Int (pos 1) ∷ Int (pos 1) ∷ Int (pos 2) ∷ Int (pos 1) ∷ Int (pos 1) ∷ Int (pos 10000) ∷ Int (pos 1000) ∷ Int (pos 700) ∷ []) ≡ damaged
unfolding rows_on_literals
quantity_10000 = refl

-- ---- a sale by a key of its fact

sold : Row
sold = Text (codes "T2") ∷ Int (pos 1) ∷ Int (pos 20240610) ∷ Int (pos 3) ∷ Int (pos 9) ∷ Int (pos 0) ∷ Int (pos 1) ∷ Int (pos 2) ∷ Int (pos 0) ∷ Int (pos 4) ∷ Int (negsuc 0) ∷ Int (negsuc 999) ∷ Int (negsuc 699) ∷ []

by_product_row : keyed_of (shown_of (Surrogate Product) sold) ≡ Ok (record { day = 20240610; key = 9; quantity = negsuc 0; amount = negsuc 999; cost = negsuc 699 })
unfolding rows_on_literals sold
by_product_row = refl

by_product : keyed_of (shown_of (Durable Product) sold) ≡ Ok (record { day = 20240610; key = 2; quantity = negsuc 0; amount = negsuc 999; cost = negsuc 699 })
unfolding rows_on_literals sold
by_product = refl

by_no_card : keyed_of (shown_of (Surrogate Customer) sold) ≡ Ok (record { day = 20240610; key = 0; quantity = negsuc 0; amount = negsuc 999; cost = negsuc 699 })
unfolding rows_on_literals sold
by_no_card = refl

by_profile : keyed_of (shown_of Profile sold) ≡ Ok (record { day = 20240610; key = 4; quantity = negsuc 0; amount = negsuc 999; cost = negsuc 699 })
unfolding rows_on_literals sold
by_profile = refl

-- a day is a key too
by_its_day : keyed_of (shown_of Day sold) ≡ Ok (record { day = 20240610; key = 20240610; quantity = negsuc 0; amount = negsuc 999; cost = negsuc 699 })
unfolding rows_on_literals sold
by_its_day = refl

by_a_text : keyed_of (Int (pos 20240610) ∷ Text (codes "9") ∷ Int (pos 1) ∷ Int (pos 1000) ∷ Int (pos 700) ∷ []) ≡ damaged
unfolding rows_on_literals
by_a_text = refl

by_a_key_below_0 : keyed_of (Int (pos 20240610) ∷ Int (negsuc 0) ∷ Int (pos 1) ∷ Int (pos 1000) ∷ Int (pos 700) ∷ []) ≡ damaged
unfolding rows_on_literals
by_a_key_below_0 = refl

a_sale_without_cost : keyed_of (Int (pos 20240610) ∷ Int (pos 9) ∷ Int (pos 1) ∷ Int (pos 1000) ∷ []) ≡ damaged
unfolding rows_on_literals
a_sale_without_cost = refl

-- ---- the greatest anchor of stored records

recorded : Value → Row
recorded anchor = Int (pos 6) ∷ Int (pos 1) ∷ Int (pos 1) ∷ Int (pos 1) ∷ Int (pos 20240120) ∷ anchor ∷ Text (codes "Cola 1l") ∷ Text (codes "Bolt") ∷ Text [] ∷ Text [] ∷ Text [] ∷ Text [] ∷ []

greatest_of_two_numbers : IsGreatestIn anchor_column (recorded (Int (pos 4)) ∷ recorded (Int (pos 9)) ∷ []) (recorded (Int (pos 9)))
unfolding recorded value_cmp lib.Ieee.is_nan lib.Ieee.lt
greatest_of_two_numbers = record { among = inr (inl refl); none_greater = (refl, (refl, tt)) }

not_the_lesser : ¬ IsGreatestIn anchor_column (recorded (Int (pos 4)) ∷ recorded (Int (pos 9)) ∷ []) (recorded (Int (pos 4)))
unfolding recorded value_cmp lib.Ieee.is_nan lib.Ieee.lt
not_the_lesser is = let never : true ≡ false = is.none_greater.1.0 in cc

-- any text is greater than a number, and any number than NULL
a_text_is_greatest : IsGreatestIn anchor_column (recorded (Text (codes "4")) ∷ recorded (Int (pos 9)) ∷ recorded Null ∷ []) (recorded (Text (codes "4")))
unfolding recorded value_cmp lib.Ieee.is_nan lib.Ieee.lt
a_text_is_greatest = record { among = inl refl; none_greater = (refl, (refl, (refl, tt))) }

beside_a_null : IsGreatestAnchor (recorded Null ∷ recorded (Int (pos 9)) ∷ []) 9
unfolding recorded value_cmp lib.Ieee.is_nan lib.Ieee.lt rows_on_literals
beside_a_null = inr (record { command = 6; place = 1; dim = Product; durable = 1; day = 20240120; anchor = 9; values = codes "Cola 1l" ∷ codes "Bolt" ∷ [] ∷ [] ∷ [] ∷ [] ∷ [] }, refl, record { among = inr (inl refl); none_greater = (refl, (refl, tt)) }, refl)

none_stored : IsGreatestAnchor [] 0
none_stored = inl (refl, refl)
