-- The definitions on literals whose answers are known from elsewhere: each lemma computes.
use Rattle.std.specs.Prelude.{ℕ, true, false, pos, negsuc, codes, replicate, List, [], ◌∷◌, map, Some, None, Ok, Err}
use Rattle.std.proofs.Common.{◌≡◌, refl}
use Rattle.toml.specs.Data.{Data, string, integer, array, table, item, no_items, Members, member, no_members}
use Rattle.toml.specs.View.{items_of}
use Rattle.wh_policy.specs.declared.attribute.Attribute.{Attribute}
use Rattle.wh_policy.specs.declared.attribute.AttributeType.TheVariants.{RetainOriginal, Overwrite, NewRow, NewAttribute, MiniDimension, MiniDimensionOutrigger, NewRowAndOverwrite, DualKeys}
use Rattle.wh_policy.specs.declared.attribute.Dim.TheVariants.{Product, Store, Customer}
use Rattle.wh_policy.specs.declared.fault.PolicyFault.TheVariants.{Missing, UnknownKey, BadName, BadType, TooMany, NamedTwice, ProfileOutside, ProfileMixed, BadYears, BadHoliday}
use Rattle.wh_policy.specs.declared.policy.Years.{Years}
use Rattle.wh_policy.specs.Attributes.{is_name, name_of, kind_of, attributes_of}
use Rattle.wh_policy.specs.Holidays.{day_of, title_of, holidays_of}
use Rattle.wh_policy.specs.Names.{slot_from, fits}
use Rattle.wh_policy.specs.Policy.{described, trial_policy, policy_of_table}
use Rattle.wh_policy.specs.Years.{is_within, first_key, end_key, years_of}
use Rattle.wh_policy.proofs.OnLiterals.{policy_on_literals}

-- an array of tables, and what stands in one

abbrev list : List Members → Data
list tables = array (items_of (map table tables))

abbrev attribute : List ℕ → ℕ → Members
attribute name kind = member (codes "name") (string name) (member (codes "type") (integer (pos kind)) no_members)

abbrev holiday : List ℕ → List ℕ → Members
holiday day name = member (codes "day") (string day) (member (codes "name") (string name) no_members)

abbrev four_years : Years
four_years = record { first = 2023; last = 2026 }

abbrev six_names : List (List ℕ)
six_names = codes "a" ∷ codes "b" ∷ codes "c" ∷ codes "d" ∷ codes "e" ∷ codes "f" ∷ []

abbrev tables : List (List ℕ) → List Members
tables names = map (λ name. attribute name 7) names

abbrev described_all : List (List ℕ) → List Attribute
described_all names = map (λ name. described name DualKeys) names

-- the file of the trial's policy, with a holiday. A value that is put in front of a table takes the place of that at its key

abbrev dimensions : Members
dimensions =
    member (codes "customer") (list (attribute (codes "tier") 2 ∷ [])) (
    member (codes "holiday") (list (holiday (codes "2024-12-25") (codes "Christmas Day") ∷ [])) (
    member (codes "product") (list (attribute (codes "description") 1 ∷ attribute (codes "brand") 2 ∷ [])) (
    member (codes "store") (list (attribute (codes "city") 2 ∷ [])) no_members)))

abbrev small : Members
small = member (codes "first_year") (integer (pos 2023)) (member (codes "last_year") (integer (pos 2026)) dimensions)

-- names of attributes

a_name : is_name (codes "age_band") ≡ true
unfolding policy_on_literals
a_name = refl

one_letter : is_name (codes "a") ≡ true
unfolding policy_on_literals
one_letter = refl

with_digits : is_name (codes "x2_y") ≡ true
unfolding policy_on_literals
with_digits = refl

longest_name : is_name (replicate 24 97) ≡ true
unfolding policy_on_literals
longest_name = refl

too_long_a_name : is_name (replicate 25 97) ≡ false
unfolding policy_on_literals
too_long_a_name = refl

no_name : is_name ([]) ≡ false
unfolding policy_on_literals
no_name = refl

id_is_no_name : is_name (codes "id") ≡ false
unfolding policy_on_literals
id_is_no_name = refl

day_is_no_name : is_name (codes "day") ≡ false
unfolding policy_on_literals
day_is_no_name = refl

ids_is_one : is_name (codes "ids") ≡ true
unfolding policy_on_literals
ids_is_one = refl

capital_first : is_name (codes "Brand") ≡ false
unfolding policy_on_literals
capital_first = refl

capital_later : is_name (codes "bRand") ≡ false
unfolding policy_on_literals
capital_later = refl

digit_first : is_name (codes "2nd") ≡ false
unfolding policy_on_literals
digit_first = refl

underscore_first : is_name (codes "_x") ≡ false
unfolding policy_on_literals
underscore_first = refl

a_hyphen : is_name (codes "a-b") ≡ false
unfolding policy_on_literals
a_hyphen = refl

a_space : is_name (codes "a b") ≡ false
unfolding policy_on_literals
a_space = refl

name_of_a_string : name_of (string (codes "brand")) ≡ Ok (codes "brand")
unfolding policy_on_literals
name_of_a_string = refl

name_of_a_number : name_of (integer (pos 1)) ≡ Err BadName
unfolding policy_on_literals
name_of_a_number = refl

-- types

type_0 : kind_of (integer (pos 0)) ≡ Ok RetainOriginal
unfolding policy_on_literals
type_0 = refl

type_1 : kind_of (integer (pos 1)) ≡ Ok Overwrite
unfolding policy_on_literals
type_1 = refl

type_2 : kind_of (integer (pos 2)) ≡ Ok NewRow
unfolding policy_on_literals
type_2 = refl

type_3 : kind_of (integer (pos 3)) ≡ Ok NewAttribute
unfolding policy_on_literals
type_3 = refl

type_4 : kind_of (integer (pos 4)) ≡ Ok MiniDimension
unfolding policy_on_literals
type_4 = refl

type_5 : kind_of (integer (pos 5)) ≡ Ok MiniDimensionOutrigger
unfolding policy_on_literals
type_5 = refl

type_6 : kind_of (integer (pos 6)) ≡ Ok NewRowAndOverwrite
unfolding policy_on_literals
type_6 = refl

type_7 : kind_of (integer (pos 7)) ≡ Ok DualKeys
unfolding policy_on_literals
type_7 = refl

type_8 : kind_of (integer (pos 8)) ≡ Err BadType
unfolding policy_on_literals
type_8 = refl

type_below_0 : kind_of (integer (negsuc 0)) ≡ Err BadType
unfolding policy_on_literals
type_below_0 = refl

type_as_text : kind_of (string (codes "1")) ≡ Err BadType
unfolding policy_on_literals
type_as_text = refl

-- years

years_of_the_trial : years_of (integer (pos 2023)) (integer (pos 2026)) ≡ Ok (record { first = 2023; last = 2026 })
unfolding policy_on_literals
years_of_the_trial = refl

last_day_within : is_within four_years 20261231 ≡ true
last_day_within = refl

next_day_outside : is_within four_years 20270101 ≡ false
next_day_outside = refl

first_of_years : first_key four_years ≡ 20230101
first_of_years = refl

past_years : end_key four_years ≡ 20261232
past_years = refl

thirty_years : years_of (integer (pos 2023)) (integer (pos 2052)) ≡ Ok (record { first = 2023; last = 2052 })
unfolding policy_on_literals
thirty_years = refl

thirty_one_years : years_of (integer (pos 2023)) (integer (pos 2053)) ≡ Err BadYears
unfolding policy_on_literals
thirty_one_years = refl

one_year : years_of (integer (pos 2024)) (integer (pos 2024)) ≡ Ok (record { first = 2024; last = 2024 })
unfolding policy_on_literals
one_year = refl

backwards : years_of (integer (pos 2024)) (integer (pos 2023)) ≡ Err BadYears
unfolding policy_on_literals
backwards = refl

first_years : years_of (integer (pos 1900)) (integer (pos 1929)) ≡ Ok (record { first = 1900; last = 1929 })
unfolding policy_on_literals
first_years = refl

too_early : years_of (integer (pos 1899)) (integer (pos 1900)) ≡ Err BadYears
unfolding policy_on_literals
too_early = refl

last_years : years_of (integer (pos 2170)) (integer (pos 2199)) ≡ Ok (record { first = 2170; last = 2199 })
unfolding policy_on_literals
last_years = refl

too_late : years_of (integer (pos 2199)) (integer (pos 2200)) ≡ Err BadYears
unfolding policy_on_literals
too_late = refl

below_zero : years_of (integer (negsuc 0)) (integer (pos 2024)) ≡ Err BadYears
unfolding policy_on_literals
below_zero = refl

first_as_text : years_of (string (codes "2023")) (integer (pos 2026)) ≡ Err BadYears
unfolding policy_on_literals
first_as_text = refl

last_as_text : years_of (integer (pos 2023)) (string (codes "2026")) ≡ Err BadYears
unfolding policy_on_literals
last_as_text = refl

-- holidays

christmas : day_of four_years (string (codes "2024-12-25")) ≡ Ok 20241225
unfolding policy_on_literals
christmas = refl

leap_day : day_of four_years (string (codes "2024-02-29")) ≡ Ok 20240229
unfolding policy_on_literals
leap_day = refl

no_leap_day : day_of four_years (string (codes "2023-02-29")) ≡ Err BadHoliday
unfolding policy_on_literals
no_leap_day = refl

one_digit : day_of four_years (string (codes "2024-2-1")) ≡ Err BadHoliday
unfolding policy_on_literals
one_digit = refl

first_of_the_years : day_of four_years (string (codes "2023-01-01")) ≡ Ok 20230101
unfolding policy_on_literals
first_of_the_years = refl

before_the_years : day_of four_years (string (codes "2022-12-31")) ≡ Err BadHoliday
unfolding policy_on_literals
before_the_years = refl

last_of_the_years : day_of four_years (string (codes "2026-12-31")) ≡ Ok 20261231
unfolding policy_on_literals
last_of_the_years = refl

after_the_years : day_of four_years (string (codes "2027-01-01")) ≡ Err BadHoliday
unfolding policy_on_literals
after_the_years = refl

day_as_number : day_of four_years (integer (pos 20241225)) ≡ Err BadHoliday
unfolding policy_on_literals
day_as_number = refl

title : title_of (string (codes "Christmas Day")) ≡ Ok (codes "Christmas Day")
unfolding policy_on_literals
title = refl

empty_title : title_of (string []) ≡ Err BadHoliday
unfolding policy_on_literals
empty_title = refl

title_in_parentheses : title_of (string (codes "(none)")) ≡ Err BadHoliday
unfolding policy_on_literals
title_in_parentheses = refl

longest_title : title_of (string (replicate 60 120)) ≡ Ok (replicate 60 120)
unfolding policy_on_literals
longest_title = refl

too_long_a_title : title_of (string (replicate 61 120)) ≡ Err BadHoliday
unfolding policy_on_literals
too_long_a_title = refl

title_as_number : title_of (integer (pos 1)) ≡ Err BadHoliday
unfolding policy_on_literals
title_as_number = refl

two_holidays : holidays_of four_years (Some (list (holiday (codes "2024-12-25") (codes "Christmas Day") ∷ holiday (codes "2024-01-01") (codes "New Year") ∷ []))) ≡ Ok (record { day = 20241225; name = codes "Christmas Day" } ∷ record { day = 20240101; name = codes "New Year" } ∷ [])
unfolding policy_on_literals
two_holidays = refl

one_day_twice : holidays_of four_years (Some (list (holiday (codes "2024-12-25") (codes "Christmas Day") ∷ holiday (codes "2024-12-25") (codes "Xmas") ∷ []))) ≡ Err BadHoliday
unfolding policy_on_literals
one_day_twice = refl

empty_array : holidays_of four_years (Some (list [])) ≡ Ok []
unfolding policy_on_literals
empty_array = refl

no_holidays : holidays_of four_years None ≡ Ok []
unfolding policy_on_literals
no_holidays = refl

holidays_as_text : holidays_of four_years (Some (string (codes "none"))) ≡ Err BadHoliday
unfolding policy_on_literals
holidays_as_text = refl

holiday_as_text : holidays_of four_years (Some (array (item (string (codes "2024-12-25")) no_items))) ≡ Err BadHoliday
unfolding policy_on_literals
holiday_as_text = refl

-- an unknown key is told before a bad day
holiday_with_more : holidays_of four_years (Some (list (member (codes "kind") (integer (pos 1)) (holiday (codes "2024-2-1") []) ∷ []))) ≡ Err UnknownKey
unfolding policy_on_literals
holiday_with_more = refl

-- a missing key before a bad day
holiday_without_a_name : holidays_of four_years (Some (list (member (codes "day") (string (codes "2024-2-1")) no_members ∷ []))) ≡ Err Missing
unfolding policy_on_literals
holiday_without_a_name = refl

holiday_without_a_day : holidays_of four_years (Some (list (member (codes "name") (string (codes "Christmas Day")) no_members ∷ []))) ≡ Err Missing
unfolding policy_on_literals
holiday_without_a_day = refl

-- attributes

one_attribute : attributes_of Product (list (attribute (codes "brand") 2 ∷ [])) ≡ Ok (record { name = codes "brand"; kind = NewRow } ∷ [])
unfolding policy_on_literals
one_attribute = refl

two_attributes : attributes_of Store (list (attribute (codes "city") 2 ∷ attribute (codes "size") 0 ∷ [])) ≡ Ok (record { name = codes "city"; kind = NewRow } ∷ record { name = codes "size"; kind = RetainOriginal } ∷ [])
unfolding policy_on_literals
two_attributes = refl

type_4_in_product : attributes_of Product (list (attribute (codes "brand") 4 ∷ [])) ≡ Err ProfileOutside
unfolding policy_on_literals
type_4_in_product = refl

type_5_in_product : attributes_of Product (list (attribute (codes "brand") 5 ∷ [])) ≡ Err ProfileOutside
unfolding policy_on_literals
type_5_in_product = refl

type_4_in_store : attributes_of Store (list (attribute (codes "brand") 4 ∷ [])) ≡ Err ProfileOutside
unfolding policy_on_literals
type_4_in_store = refl

type_5_in_store : attributes_of Store (list (attribute (codes "brand") 5 ∷ [])) ≡ Err ProfileOutside
unfolding policy_on_literals
type_5_in_store = refl

type_4_in_customer : attributes_of Customer (list (attribute (codes "brand") 4 ∷ [])) ≡ Ok (record { name = codes "brand"; kind = MiniDimension } ∷ [])
unfolding policy_on_literals
type_4_in_customer = refl

type_5_in_customer : attributes_of Customer (list (attribute (codes "brand") 5 ∷ [])) ≡ Ok (record { name = codes "brand"; kind = MiniDimensionOutrigger } ∷ [])
unfolding policy_on_literals
type_5_in_customer = refl

named_twice : attributes_of Product (list (attribute (codes "brand") 2 ∷ attribute (codes "brand") 1 ∷ [])) ≡ Err NamedTwice
unfolding policy_on_literals
named_twice = refl

no_attribute : attributes_of Product (list []) ≡ Err Missing
unfolding policy_on_literals
no_attribute = refl

six_attributes : attributes_of Product (list (tables six_names)) ≡ Ok (described_all six_names)
unfolding policy_on_literals
six_attributes = refl

-- too many are told before a bad type
seven_attributes : attributes_of Product (list (attribute (codes "g") 9 ∷ tables six_names)) ≡ Err TooMany
unfolding policy_on_literals
seven_attributes = refl

no_array : attributes_of Product (integer (pos 1)) ≡ Err Missing
unfolding policy_on_literals
no_array = refl

a_table_for_an_array : attributes_of Product (table (attribute (codes "brand") 2)) ≡ Err Missing
unfolding policy_on_literals
a_table_for_an_array = refl

-- and is told before the faults of the tables
an_element_that_is_no_table : attributes_of Product (array (item (table (attribute (codes "Brand") 9)) (item (integer (pos 1)) no_items))) ≡ Err Missing
unfolding policy_on_literals
an_element_that_is_no_table = refl

-- an unknown key before a missing one
a_key_more : attributes_of Product (list (member (codes "note") (integer (pos 1)) (member (codes "type") (integer (pos 9)) no_members) ∷ [])) ≡ Err UnknownKey
unfolding policy_on_literals
a_key_more = refl

-- a missing key before a bad type
without_a_name : attributes_of Product (list (member (codes "type") (integer (pos 9)) no_members ∷ [])) ≡ Err Missing
unfolding policy_on_literals
without_a_name = refl

-- and before a bad name
without_a_type : attributes_of Product (list (member (codes "name") (string (codes "Brand")) no_members ∷ [])) ≡ Err Missing
unfolding policy_on_literals
without_a_type = refl

-- a bad name before a bad type
bad_name_and_type : attributes_of Product (list (attribute (codes "Brand") 9 ∷ [])) ≡ Err BadName
unfolding policy_on_literals
bad_name_and_type = refl

-- a bad type before a name that was there
bad_type : attributes_of Product (list (attribute (codes "brand") 2 ∷ attribute (codes "brand") 9 ∷ [])) ≡ Err BadType
unfolding policy_on_literals
bad_type = refl

-- and so is type 4
profile_and_named_twice : attributes_of Product (list (attribute (codes "brand") 2 ∷ attribute (codes "brand") 4 ∷ [])) ≡ Err ProfileOutside
unfolding policy_on_literals
profile_and_named_twice = refl

-- the tables go one after the other
first_table_first : attributes_of Product (list (attribute (codes "brand") 8 ∷ attribute (codes "Brand") 1 ∷ [])) ≡ Err BadType
unfolding policy_on_literals
first_table_first = refl

-- slots

slot_1 : slot_from 1 (codes "description") trial_policy.product ≡ Some (1, 1)
unfolding policy_on_literals
slot_1 = refl

slot_2 : slot_from 1 (codes "brand") trial_policy.product ≡ Some (2, 2)
unfolding policy_on_literals
slot_2 = refl

slot_of_no_name : slot_from 1 (codes "id") trial_policy.product ≡ None
unfolding policy_on_literals
slot_of_no_name = refl

slot_in_another_dimension : slot_from 1 (codes "city") trial_policy.product ≡ None
unfolding policy_on_literals
slot_in_another_dimension = refl

-- fits

fits_itself : fits trial_policy trial_policy ≡ true
unfolding policy_on_literals
fits_itself = refl

types_may_change : fits trial_policy (record trial_policy { store = described (codes "city") Overwrite ∷ [] }) ≡ true
unfolding policy_on_literals
types_may_change = refl

one_more : fits trial_policy (record trial_policy { store = described (codes "city") NewRow ∷ described (codes "size") NewRow ∷ [] }) ≡ true
unfolding policy_on_literals
one_more = refl

one_less : fits trial_policy (record trial_policy { product = described (codes "description") Overwrite ∷ [] }) ≡ false
unfolding policy_on_literals
one_less = refl

exchanged : fits trial_policy (record trial_policy { product = described (codes "brand") NewRow ∷ described (codes "description") Overwrite ∷ [] }) ≡ false
unfolding policy_on_literals
exchanged = refl

renamed : fits trial_policy (record trial_policy { customer = described (codes "grade") NewRow ∷ [] }) ≡ false
unfolding policy_on_literals
renamed = refl

more_years : fits trial_policy (record trial_policy { years = record { first = 2022; last = 2027 } }) ≡ true
unfolding policy_on_literals
more_years = refl

a_year_lost_in_front : fits trial_policy (record trial_policy { years = record { first = 2024; last = 2026 } }) ≡ false
unfolding policy_on_literals
a_year_lost_in_front = refl

a_year_lost_behind : fits trial_policy (record trial_policy { years = record { first = 2023; last = 2025 } }) ≡ false
unfolding policy_on_literals
a_year_lost_behind = refl

holidays_may_change : fits trial_policy (record trial_policy { holidays = record { day = 20241225; name = codes "Christmas Day" } ∷ [] }) ≡ true
unfolding policy_on_literals
holidays_may_change = refl

-- whole files, as tables

a_file : policy_of_table small ≡ Ok (record trial_policy { holidays = record { day = 20241225; name = codes "Christmas Day" } ∷ [] })
unfolding policy_on_literals
a_file = refl

-- an unknown key before the missing ones
a_key_more_at_the_top : policy_of_table (member (codes "a") (integer (pos 1)) no_members) ≡ Err UnknownKey
unfolding policy_on_literals
a_key_more_at_the_top = refl

an_empty_file : policy_of_table no_members ≡ Err Missing
unfolding policy_on_literals
an_empty_file = refl

-- a missing key before a bad dimension
a_year_missing : policy_of_table (member (codes "product") (integer (pos 8)) (member (codes "last_year") (integer (pos 2026)) dimensions)) ≡ Err Missing
unfolding policy_on_literals
a_year_missing = refl

-- the product's faults before the store's
product_before_store : policy_of_table (member (codes "store") (integer (pos 1)) (member (codes "product") (list (attribute (codes "Brand") 1 ∷ [])) small)) ≡ Err BadName
unfolding policy_on_literals
product_before_store = refl

-- the store's before the customer's
store_before_customer : policy_of_table (member (codes "customer") (integer (pos 1)) (member (codes "store") (list (attribute (codes "city") 8 ∷ [])) small)) ≡ Err BadType
unfolding policy_on_literals
store_before_customer = refl

-- the customer's before bad years
customer_before_years : policy_of_table (member (codes "customer") (list (attribute (codes "tier") 8 ∷ [])) (member (codes "last_year") (integer (pos 2053)) small)) ≡ Err BadType
unfolding policy_on_literals
customer_before_years = refl

-- types 4 and 5 side by side before bad years, but after a name twice
mixed_before_years : policy_of_table (member (codes "customer") (list (attribute (codes "age_band") 4 ∷ attribute (codes "spend_band") 5 ∷ [])) (member (codes "last_year") (integer (pos 2053)) small)) ≡ Err ProfileMixed
unfolding policy_on_literals
mixed_before_years = refl

named_twice_before_mixed : policy_of_table (member (codes "customer") (list (attribute (codes "age_band") 5 ∷ attribute (codes "age_band") 4 ∷ [])) small) ≡ Err NamedTwice
unfolding policy_on_literals
named_twice_before_mixed = refl

-- bad years before bad holidays
years_before_holidays : policy_of_table (member (codes "holiday") (integer (pos 1)) (member (codes "last_year") (integer (pos 2053)) small)) ≡ Err BadYears
unfolding policy_on_literals
years_before_holidays = refl

bad_holidays : policy_of_table (member (codes "holiday") (integer (pos 1)) small) ≡ Err BadHoliday
unfolding policy_on_literals
bad_holidays = refl
