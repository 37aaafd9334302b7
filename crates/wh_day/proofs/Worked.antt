-- The definitions on days and texts whose answers are known from elsewhere: each lemma computes.
use Rattle.std.specs.Prelude.{ℕ, Bool, true, false, pos, negsuc, codes, replicate, List, [], ◌∷◌, Some, None}
use Rattle.std.specs.List.{list_any}
use Rattle.std.proofs.Common.{◌≡◌, refl}
use Rattle.wh_day.proofs.OnLiterals.{day_on_literals}
use Rattle.wh_day.specs.Calendar.{date_row}
use Rattle.wh_day.specs.Day.{read_day, day_text, day_before, checked_day_before, day_of_key}
use Rattle.wh_day.specs.Holidays.{is_on}
use Rattle.wh_day.specs.Value.{read_value, unknown_text, no_card_text}
use Rattle.wh_day.specs.declared.calendar.DateRow.{DateRow}
use Rattle.wh_day.specs.declared.holiday.Holiday.{Holiday}

-- days and their texts

leap_day_is_read : read_day (codes "2024-02-29") ≡ Some 20240229
unfolding day_on_literals
leap_day_is_read = refl

first_is_read : read_day (codes "1900-01-01") ≡ Some 19000101
unfolding day_on_literals
first_is_read = refl

last_is_read : read_day (codes "9999-12-31") ≡ Some 99991231
unfolding day_on_literals
last_is_read = refl

fourth_century_is_leap : read_day (codes "2000-02-29") ≡ Some 20000229
unfolding day_on_literals
fourth_century_is_leap = refl

other_century_is_not : read_day (codes "2100-02-29") ≡ None
unfolding day_on_literals
other_century_is_not = refl

common_year_is_not : read_day (codes "2023-02-29") ≡ None
unfolding day_on_literals
common_year_is_not = refl

before_the_first : read_day (codes "1899-12-31") ≡ None
unfolding day_on_literals
before_the_first = refl

month_13 : read_day (codes "2024-13-01") ≡ None
unfolding day_on_literals
month_13 = refl

month_0 : read_day (codes "2024-00-10") ≡ None
unfolding day_on_literals
month_0 = refl

day_0 : read_day (codes "2024-01-00") ≡ None
unfolding day_on_literals
day_0 = refl

april_31 : read_day (codes "2024-04-31") ≡ None
unfolding day_on_literals
april_31 = refl

one_digit : read_day (codes "2024-2-01") ≡ None
unfolding day_on_literals
one_digit = refl

slashes : read_day (codes "2024/02/29") ≡ None
unfolding day_on_literals
slashes = refl

a_sign : read_day (codes "+024-02-29") ≡ None
unfolding day_on_literals
a_sign = refl

a_letter : read_day (codes "2024-02-2x") ≡ None
unfolding day_on_literals
a_letter = refl

eleven_bytes : read_day (codes "2024-02-29 ") ≡ None
unfolding day_on_literals
eleven_bytes = refl

no_bytes : read_day [] ≡ None
unfolding day_on_literals
no_bytes = refl

text_of_a_day : day_text 19000101 ≡ codes "1900-01-01"
text_of_a_day = refl

key_of_a_day : day_of_key (pos 20240229) ≡ Some 20240229
unfolding day_on_literals
key_of_a_day = refl

key_of_no_day : day_of_key (pos 20230229) ≡ None
unfolding day_on_literals
key_of_no_day = refl

negative_key : day_of_key (negsuc 20240228) ≡ None
negative_key = refl

-- the day before

before_in_a_month : day_before 99991231 ≡ 99991230
unfolding day_on_literals
before_in_a_month = refl

before_march_of_a_leap_year : day_before 20240301 ≡ 20240229
unfolding day_on_literals
before_march_of_a_leap_year = refl

before_march_of_2000 : day_before 20000301 ≡ 20000229
unfolding day_on_literals
before_march_of_2000 = refl

before_march_of_2100 : day_before 21000301 ≡ 21000228
unfolding day_on_literals
before_march_of_2100 = refl

before_may : day_before 20240501 ≡ 20240430
unfolding day_on_literals
before_may = refl

before_new_year : day_before 20240101 ≡ 20231231
unfolding day_on_literals
before_new_year = refl

before_the_second_day : checked_day_before 19000102 ≡ Some 19000101
unfolding day_on_literals
before_the_second_day = refl

before_the_first_day : checked_day_before 19000101 ≡ None
before_the_first_day = refl

-- values

a_value : read_value (codes "Cola 1l") ≡ Some (codes "Cola 1l")
unfolding day_on_literals
a_value = refl

a_space : read_value (codes " ") ≡ Some (codes " ")
unfolding day_on_literals
a_space = refl

empty_field : read_value [] ≡ Some (codes "(none)")
unfolding day_on_literals
empty_field = refl

sixty_bytes : read_value (replicate 60 120) ≡ Some (replicate 60 120)
unfolding day_on_literals
sixty_bytes = refl

sixty_one_bytes : read_value (replicate 61 120) ≡ None
unfolding day_on_literals
sixty_one_bytes = refl

parenthesis_first : read_value (codes "(none)") ≡ None
unfolding day_on_literals
parenthesis_first = refl

parenthesis_later : read_value (codes "Cola (1l)") ≡ Some (codes "Cola (1l)")
unfolding day_on_literals
parenthesis_later = refl

a_nul : read_value (67 ∷ 0 ∷ []) ≡ None
unfolding day_on_literals
a_nul = refl

a_line_feed : read_value (67 ∷ 10 ∷ []) ≡ None
unfolding day_on_literals
a_line_feed = refl

a_delete : read_value (67 ∷ 127 ∷ []) ≡ None
unfolding day_on_literals
a_delete = refl

-- é in UTF-8, and in Latin-1
e_acute : read_value (67 ∷ 195 ∷ 169 ∷ []) ≡ Some (67 ∷ 195 ∷ 169 ∷ [])
unfolding day_on_literals
e_acute = refl

not_utf8 : read_value (67 ∷ 233 ∷ []) ≡ None
unfolding day_on_literals
not_utf8 = refl

-- a surrogate
surrogate : read_value (237 ∷ 160 ∷ 128 ∷ []) ≡ None
unfolding day_on_literals
surrogate = refl

unknown_is : unknown_text ≡ codes "(unknown)"
unfolding day_on_literals
unknown_is = refl

no_card_is : no_card_text ≡ codes "(no card)"
unfolding day_on_literals
no_card_is = refl

-- the calendar

abbrev holidays : List Holiday
holidays = record { day = 20240101; name = codes "New Year" } ∷ record { day = 20241225; name = codes "Christmas Day" } ∷ []

-- a day with its text, year, quarter, month, day, number in the year, weekday and its name, weekend, and holiday
abbrev row : ℕ → List ℕ → ℕ → ℕ → ℕ → ℕ → ℕ → ℕ → List ℕ → Bool → List ℕ → DateRow
row key iso year quarter month day number weekday name weekend holiday = record {
  date_key = key;
  iso = iso;
  year = pos year;
  quarter = pos quarter;
  month = pos month;
  day = pos day;
  day_of_year = pos number;
  weekday = pos weekday;
  weekday_name = name;
  weekend = weekend;
  holiday = holiday;
}

leap_day : date_row holidays 20240229 ≡ row 20240229 (codes "2024-02-29") 2024 1 2 29 60 4 (codes "Thursday") false (codes "(none)")
unfolding day_on_literals
leap_day = refl

christmas : date_row holidays 20241225 ≡ row 20241225 (codes "2024-12-25") 2024 4 12 25 360 3 (codes "Wednesday") false (codes "Christmas Day")
unfolding day_on_literals
christmas = refl

saturday : date_row holidays 20240608 ≡ row 20240608 (codes "2024-06-08") 2024 2 6 8 160 6 (codes "Saturday") true (codes "(none)")
unfolding day_on_literals
saturday = refl

sunday : date_row holidays 20240609 ≡ row 20240609 (codes "2024-06-09") 2024 2 6 9 161 7 (codes "Sunday") true (codes "(none)")
unfolding day_on_literals
sunday = refl

first_row : date_row [] 19000101 ≡ row 19000101 (codes "1900-01-01") 1900 1 1 1 1 1 (codes "Monday") false (codes "(none)")
unfolding day_on_literals
first_row = refl

last_row : date_row [] 99991231 ≡ row 99991231 (codes "9999-12-31") 9999 4 12 31 365 5 (codes "Friday") false (codes "(none)")
unfolding day_on_literals
last_row = refl

february_29_of_2000 : date_row [] 20000229 ≡ row 20000229 (codes "2000-02-29") 2000 1 2 29 60 2 (codes "Tuesday") false (codes "(none)")
unfolding day_on_literals
february_29_of_2000 = refl

december_31_of_2000 : date_row [] 20001231 ≡ row 20001231 (codes "2000-12-31") 2000 4 12 31 366 7 (codes "Sunday") true (codes "(none)")
unfolding day_on_literals
december_31_of_2000 = refl

february_28_of_2100 : date_row [] 21000228 ≡ row 21000228 (codes "2100-02-28") 2100 1 2 28 59 7 (codes "Sunday") true (codes "(none)")
unfolding day_on_literals
february_28_of_2100 = refl

march_1_of_2100 : date_row [] 21000301 ≡ row 21000301 (codes "2100-03-01") 2100 1 3 1 60 1 (codes "Monday") false (codes "(none)")
unfolding day_on_literals
march_1_of_2100 = refl

new_year_is_a_holiday : list_any (is_on 20240101) holidays ≡ true
new_year_is_a_holiday = refl

boxing_day_is_none : list_any (is_on 20241226) holidays ≡ false
boxing_day_is_none = refl
