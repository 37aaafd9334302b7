-- The definitions at values that were worked out by hand.
use Rattle.std.proofs.Common.{◌≡◌, ℕ, ◌++◌, pos, negsuc, List, [], ◌∷◌, codes, Some, None, Ok, Err, refl, replicate}
use lib.Utf8.{encode}
use Rattle.std.specs.Str.{is_utf8, chars}
use Rattle.std.proofs.lemmas.Str.{is_utf8-from_IsUtf8}
use Rattle.wh_day.proofs.KeyBytes.{key_is_text}
use Rattle.wh_policy.specs.Policy.{trial_policy}
use Rattle.wh_policy.specs.declared.attribute.Dim.TheVariants.{Product}
use Rattle.wh_policy.specs.declared.record.SaleRecord.{SaleRecord}
use Rattle.wh_batch.specs.declared.fault.FaultKind.TheVariants.{WrongHeader, WrongLength, BadKey, BadDay, BadValue, BadNumber, TwiceInBatch, OutsideCalendar, NotInFormat}
use Rattle.wh_batch.specs.declared.kind.CommandKind.{CommandKind}
use Rattle.wh_batch.specs.declared.kind.CommandKind.TheVariants.{Batch, Migration, Upgrade}
use Rattle.wh_policy.specs.declared.format.Format.TheVariants.{One, Two}
use Rattle.wh_batch.specs.declared.kind.BatchKind.TheVariants.{Dimension, Sales, Voids}
use Rattle.wh_batch.specs.declared.manifest.ManifestEntry.{ManifestEntry}
use Rattle.wh_batch.specs.declared.report_list.ListedReport.{ListedReport}
use Rattle.wh_batch.specs.Batch.{at, records_after}
use Rattle.wh_batch.specs.Fields.{key_of, customer_of, day_of, effective_day_of, value_of}
use Rattle.wh_batch.specs.Numbers.{read_line, read_quantity, read_amount}
use Rattle.wh_batch.specs.Layouts.{dimension_record, dimension_records, sale_record, sale_records, sales_layout, void_record, void_records}
use Rattle.wh_batch.specs.BatchKind.{command_kind_word, command_kind_of_word}
use Rattle.wh_batch.specs.Manifest.{entry_of, manifest_of}
use Rattle.wh_batch.specs.ReportList.{listed_report, reports_of}
use Rattle.wh_batch.proofs.OnLiterals.{batch_on_literals}

-- amounts of money
least_amount : read_amount (codes "-9999999.99") ≡ Some (negsuc 999999998)
unfolding batch_on_literals
least_amount = refl

one_decimal : read_amount (codes "12.5") ≡ Some (pos 1250)
unfolding batch_on_literals
one_decimal = refl

minus_nothing : read_amount (codes "-0") ≡ Some (pos 0)
unfolding batch_on_literals
minus_nothing = refl

eight_digits : read_amount (codes "10000000") ≡ None
unfolding batch_on_literals
eight_digits = refl

three_decimals : read_amount (codes "1.234") ≡ None
unfolding batch_on_literals
three_decimals = refl

plus : read_amount (codes "+1") ≡ None
unfolding batch_on_literals
plus = refl

nothing_before_the_point : read_amount (codes ".5") ≡ None
unfolding batch_on_literals
nothing_before_the_point = refl

nothing_behind_the_point : read_amount (codes "1.") ≡ None
unfolding batch_on_literals
nothing_behind_the_point = refl

no_amount : read_amount [] ≡ None
unfolding batch_on_literals
no_amount = refl

-- lines and quantities
zeros_in_front : (read_line (codes "0001") ≡ Some 1) × (read_quantity (codes "-0099") ≡ Some (negsuc 98))
unfolding batch_on_literals
zeros_in_front = (refl, refl)

no_lines : (read_line (codes "0") ≡ None) × (read_line (codes "10000") ≡ None) × (read_line [] ≡ None)
unfolding batch_on_literals
no_lines = (refl, refl, refl)

-- keys
keys : (key_of 32 (codes "P.1-_x") ≡ Ok (codes "P.1-_x")) × (key_of 32 (codes "S 1") ≡ Err BadKey) × (key_of 32 [] ≡ Err BadKey) × (customer_of [] ≡ Ok None)
unfolding batch_on_literals
keys = (refl, refl, refl, refl)

-- days
days : (day_of (codes "2023-02-29") ≡ Err BadDay) × (day_of (codes "2200-01-01") ≡ Ok 22000101) × (effective_day_of (codes "2199-12-31") ≡ Ok 21991231) × (effective_day_of (codes "2200-01-01") ≡ Err BadDay)
unfolding batch_on_literals
days = (refl, refl, refl, refl)

-- values: sixty letters are one, and sixty-one aren't
sixty_letters : value_of (replicate 60 120) ≡ Ok (replicate 60 120)
unfolding batch_on_literals
sixty_letters = rw (is_utf8-from_IsUtf8 (replicate 60 120) (key_is_text (replicate 60 120) refl)) refl

sixty_one_letters : value_of (replicate 61 120) ≡ Err BadValue
unfolding batch_on_literals
sixty_one_letters = refl

-- a record that was cut off
cut : dimension_record 2 (codes "P1" ∷ codes "2024-08-01" ∷ codes "Cola" ∷ []) ≡ Err WrongLength
unfolding batch_on_literals
cut = refl

-- sales, of a store, a product and a quantity and amounts of 1
abbrev sale : List ℕ → List ℕ → List ℕ → List ℕ → List (List ℕ)
sale ticket line day store = ticket ∷ line ∷ day ∷ store ∷ codes "P1" ∷ [] ∷ codes "1" ∷ codes "1" ∷ codes "1" ∷ []

line_before_day : sale_record One (sale (codes "T1") (codes "0") (codes "2024-13-01") (codes "S1")) ≡ Err BadNumber
unfolding batch_on_literals
line_before_day = refl

day_before_store : sale_record One (sale (codes "T1") (codes "1") (codes "2024-13-01") (codes "S 1")) ≡ Err BadDay
unfolding batch_on_literals
day_before_store = refl

long_line : sale_record One (sale (codes "T1") (codes "10000") (codes "2024-01-05") (codes "S1")) ≡ Err BadNumber
unfolding batch_on_literals
long_line = refl

returned : sale_record One (codes "T1" ∷ codes "0001" ∷ codes "2024-01-05" ∷ codes "S1" ∷ codes "P1" ∷ [] ∷ codes "-0099" ∷ codes "1" ∷ codes "1" ∷ [])
    ≡ Ok (record { ticket = codes "T1"; line = 1; day = 20240105; store = codes "S1"; product = codes "P1"; customer = None; quantity = negsuc 98; amount = pos 100; cost = pos 100; discount = 0 })
unfolding batch_on_literals
returned = refl

-- a line that is there comes before a day outside the calendar
twice : records_after (sales_layout One trial_policy.years) [] 1 (sale (codes "T5") (codes "1") (codes "2024-01-05") (codes "S1") ∷ sale (codes "T5") (codes "0001") (codes "2027-01-01") (codes "S1") ∷ []) ≡ Err (at 2 TwiceInBatch)
unfolding batch_on_literals
twice = refl

outside : records_after (sales_layout One trial_policy.years) [] 1 (sale (codes "T5") (codes "1") (codes "2027-01-01") (codes "S1") ∷ []) ≡ Err (at 1 OutsideCalendar)
unfolding batch_on_literals
outside = refl

-- whole batches, as bytes
no_bytes : dimension_records Product trial_policy [] ≡ Err (at 0 WrongHeader)
unfolding batch_on_literals
no_bytes = refl

header_alone : dimension_records Product trial_policy (codes "id,day,description,brand") ≡ Ok []
unfolding batch_on_literals
header_alone = refl

cut_file : dimension_records Product trial_policy (codes "id,day,description,brand" ++ 10 ∷ codes "P1,2024-08-01,Cola") ≡ Err (at 1 WrongLength)
unfolding batch_on_literals
cut_file = refl

-- sales, with the line end given
abbrev two_sales : List ℕ → List ℕ
two_sales end =
    codes "ticket,line,day,store,product,customer,quantity,amount,cost" ++ end ++ codes "T1,1,2024-02-05,S1,P1,,2,5.00,3.20" ++ end
    ++ codes "T0,1,2023-12-31,S1,P1,C9,1,2.5,\"1.60\"" ++ end

abbrev two_records : List SaleRecord
two_records = record { ticket = codes "T1"; line = 1; day = 20240205; store = codes "S1"; product = codes "P1"; customer = None; quantity = pos 2; amount = pos 500; cost = pos 320; discount = 0 }
    ∷ record { ticket = codes "T0"; line = 1; day = 20231231; store = codes "S1"; product = codes "P1"; customer = Some (codes "C9"); quantity = pos 1; amount = pos 250; cost = pos 160; discount = 0 } ∷ []

line_feeds : sale_records trial_policy One (two_sales (10 ∷ [])) ≡ Ok two_records
unfolding batch_on_literals
line_feeds = refl

carriage_returns : sale_records trial_policy One (two_sales (13 ∷ [])) ≡ Ok two_records
unfolding batch_on_literals
carriage_returns = refl

both_and_a_mark : sale_records trial_policy One (239 ∷ 187 ∷ 191 ∷ two_sales (13 ∷ 10 ∷ [])) ≡ Ok two_records
unfolding batch_on_literals
both_and_a_mark = refl

repeated_line : sale_records trial_policy One (two_sales (10 ∷ []) ++ codes "T1,01,2024-02-06,S1,P1,,2,5,3") ≡ Err (at 3 TwiceInBatch)
unfolding batch_on_literals
repeated_line = refl

-- the second format, with a discount
discounted : sale_record Two (codes "T5" ∷ codes "1" ∷ codes "2024-07-05" ∷ codes "S1" ∷ codes "P1" ∷ codes "C9" ∷ codes "2" ∷ codes "5.00" ∷ codes "3.20" ∷ codes "0.5" ∷ [])
    ≡ Ok (record { ticket = codes "T5"; line = 1; day = 20240705; store = codes "S1"; product = codes "P1"; customer = Some (codes "C9"); quantity = pos 2; amount = pos 500; cost = pos 320; discount = 50 })
unfolding batch_on_literals
discounted = refl

no_sign : sale_record Two (codes "T5" ∷ codes "1" ∷ codes "2024-07-05" ∷ codes "S1" ∷ codes "P1" ∷ codes "C9" ∷ codes "2" ∷ codes "5.00" ∷ codes "3.20" ∷ codes "-0.5" ∷ []) ≡ Err BadNumber
unfolding batch_on_literals
no_sign = refl

-- a batch has the header of its format
header_without_discount : sale_records trial_policy Two (two_sales (10 ∷ [])) ≡ Err (at 0 WrongHeader)
unfolding batch_on_literals
header_without_discount = refl

header_with_discount : sale_records trial_policy One (codes "ticket,line,day,store,product,customer,quantity,amount,cost,discount") ≡ Err (at 0 WrongHeader)
unfolding batch_on_literals
header_with_discount = refl

-- voids
line_of_a_ticket : void_record (codes "T5" ∷ codes "0001" ∷ []) ≡ Ok (record { ticket = codes "T5"; line = 1 })
unfolding batch_on_literals
line_of_a_ticket = refl

bad_voids : (void_record (codes "T 5" ∷ codes "0" ∷ []) ≡ Err BadKey) × (void_record (codes "T5" ∷ codes "0" ∷ []) ≡ Err BadNumber) × (void_record (codes "T5" ∷ codes "1" ∷ [] ∷ []) ≡ Err WrongLength)
unfolding batch_on_literals
bad_voids = (refl, refl, refl)

two_voids : void_records Two (codes "ticket,line" ++ 10 ∷ codes "T5,1" ++ 10 ∷ codes "T5,2") ≡ Ok (record { ticket = codes "T5"; line = 1 } ∷ record { ticket = codes "T5"; line = 2 } ∷ [])
unfolding batch_on_literals
two_voids = refl

voided_twice : void_records Two (codes "ticket,line" ++ 10 ∷ codes "T5,1" ++ 10 ∷ codes "T5,01") ≡ Err (at 2 TwiceInBatch)
unfolding batch_on_literals
voided_twice = refl

header_of_sales : void_records Two (two_sales (10 ∷ [])) ≡ Err (at 0 WrongHeader)
unfolding batch_on_literals
header_of_sales = refl

-- the first format has none, whatever the bytes are
none_in_the_first_format : (bytes : List ℕ) → void_records One bytes ≡ Err (at 0 NotInFormat)
unfolding batch_on_literals
none_in_the_first_format bytes = refl

-- the words of commands
words : (command_kind_of_word (codes "sales") ≡ Some (Batch Sales)) × (command_kind_of_word (codes "void") ≡ Some (Batch Voids)) × (command_kind_of_word (codes "migrate") ≡ Some Migration) × (command_kind_of_word (codes "upgrade") ≡ Some Upgrade) × (command_kind_of_word (codes "init") ≡ None) × (command_kind_word (Batch (Dimension Product)) ≡ codes "product")
words = (refl, refl, refl, refl, refl, refl)

-- manifests, with the line end given
abbrev night : List ℕ → List ℕ
night end = codes "product,p1,p1.csv" ++ end ++ codes "sales,bad id,\"s,1.csv\"" ++ end ++ end ++ codes "migrate,,m1.toml"

abbrev entry : CommandKind → List ℕ → List ℕ → ManifestEntry
entry kind id path = record { kind = kind; id = id; path = path }

abbrev three_commands : List ManifestEntry
three_commands = entry (Batch (Dimension Product)) (codes "p1") (codes "p1.csv") ∷ entry (Batch Sales) (codes "bad id") (codes "s,1.csv") ∷ entry Migration [] (codes "m1.toml") ∷ []

manifest_lines : manifest_of (night (10 ∷ [])) ≡ Ok three_commands
unfolding batch_on_literals is_utf8 chars encode
manifest_lines = refl

manifest_mark : manifest_of (239 ∷ 187 ∷ 191 ∷ night (13 ∷ 10 ∷ [])) ≡ Ok three_commands
unfolding batch_on_literals is_utf8 chars encode
manifest_mark = refl

no_commands : (manifest_of [] ≡ Ok []) × (manifest_of (10 ∷ 13 ∷ 10 ∷ []) ≡ Ok [])
unfolding batch_on_literals
no_commands = (refl, refl)

-- two fields, four, and a word that names no kind
two_fields : manifest_of (codes "product,p1,p1.csv" ++ 10 ∷ codes "product,p2" ++ 10 ∷ codes "produce,p3,p3.csv") ≡ Err (record { number = 2 })
unfolding batch_on_literals is_utf8 chars encode
two_fields = refl

four_fields : manifest_of (codes "product,p1,p1.csv,") ≡ Err (record { number = 1 })
unfolding batch_on_literals
four_fields = refl

no_kind : manifest_of (10 ∷ codes "product,p1,p1.csv" ++ 10 ∷ codes "init,p2,p2.csv") ≡ Err (record { number = 2 })
unfolding batch_on_literals is_utf8 chars encode
no_kind = refl

-- a byte that is no text
no_text : entry_of (codes "sales" ∷ (115 ∷ 195 ∷ []) ∷ codes "s1.csv" ∷ []) ≡ None
unfolding batch_on_literals is_utf8 chars encode
no_text = refl

-- lists of reports, with the line end given; a mode or a day that is none stands in them all the same
abbrev reports : List ℕ → List ℕ
reports end = codes "product.brand,was,2024-01-01,2024-12-31" ++ end ++ end ++ codes "\"date.month\",once,,2024"

abbrev listed : List ℕ → List ℕ → List ℕ → List ℕ → ListedReport
listed attribute mode from to = record { attribute = attribute; mode = mode; from = from; to = to }

abbrev two_reports : List ListedReport
two_reports = listed (codes "product.brand") (codes "was") (codes "2024-01-01") (codes "2024-12-31") ∷ listed (codes "date.month") (codes "once") [] (codes "2024") ∷ []

report_lines : reports_of (reports (10 ∷ [])) ≡ Ok two_reports
unfolding batch_on_literals is_utf8 chars encode
report_lines = refl

report_mark : reports_of (239 ∷ 187 ∷ 191 ∷ reports (13 ∷ 10 ∷ [])) ≡ Ok two_reports
unfolding batch_on_literals is_utf8 chars encode
report_mark = refl

no_reports : (reports_of [] ≡ Ok []) × (reports_of (10 ∷ 13 ∷ 10 ∷ []) ≡ Ok [])
unfolding batch_on_literals
no_reports = (refl, refl)

-- three fields behind a report, and five
three_of_a_report : reports_of (codes "a,was,b,c" ++ 10 ∷ codes "a,was,b" ++ 10 ∷ codes "a") ≡ Err (record { number = 2 })
unfolding batch_on_literals is_utf8 chars encode
three_of_a_report = refl

five_of_a_report : reports_of (codes "a,was,b,c,") ≡ Err (record { number = 1 })
unfolding batch_on_literals
five_of_a_report = refl

-- a byte that is no text
no_text_of_a_report : listed_report (codes "a" ∷ codes "was" ∷ (50 ∷ 195 ∷ []) ∷ codes "c" ∷ []) ≡ None
unfolding batch_on_literals is_utf8 chars encode
no_text_of_a_report = refl
