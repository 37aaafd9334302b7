-- The definitions on literals whose answers are known from elsewhere: each lemma computes.
use Rattle.std.proofs.Common.{◌≡◌, ℕ, ℤ, pos, negsuc, true, false, List, [], ◌∷◌, ◌++◌, length, Some, None, Ok, Err, refl}
use Rattle.std.specs.Prelude.{codes}
use Rattle.std.specs.Fmt.{digits}
use Rattle.wh_policy.specs.declared.attribute.AttributeType.TheVariants.{RetainOriginal, Overwrite, NewRow, NewAttribute, MiniDimensionOutrigger, NewRowAndOverwrite, DualKeys}
use Rattle.wh_policy.specs.declared.attribute.Dim.TheVariants.{Product, Customer}
use Rattle.wh_policy.specs.declared.policy.Policy.{Policy}
use Rattle.wh_policy.specs.Policy.{described}
use Rattle.wh_policy.proofs.OnLiterals.{policy_on_literals}
use Rattle.wh_report.specs.Laws.{over_lines}
use Rattle.wh_report.specs.Request.{read_request, is_asked_of}
use Rattle.wh_report.specs.Subject.{subject_in}
use Rattle.wh_report.specs.Lines.{lines}
use Rattle.wh_report.specs.Summary.{Sold, summed}
use Rattle.wh_report.specs.Sums.{margin}
use Rattle.wh_report.specs.Text.{aligned, hundredths, money, line_text, summary_text, titles, heading, report_text}
use Rattle.wh_batch.specs.Mode.{mode_of_word}
use Rattle.wh_batch.specs.declared.mode.Mode.TheVariants.{Was, Is, Prior}
use Rattle.wh_report.specs.declared.request.RequestFault.TheVariants.{NoAttribute, NoReading, NoDateReading, BadRange}
use Rattle.wh_report.specs.declared.subject.Subject.TheVariants.{Attribute, Month}

-- a policy with an attribute of each type but one
abbrev pub policy : Policy
policy = record {
  product = described (codes "description") Overwrite ∷ described (codes "brand") NewRow ∷ described (codes "category") NewRowAndOverwrite ∷ described (codes "department") DualKeys
      ∷ described (codes "launched") RetainOriginal ∷ described (codes "supplier") NewAttribute ∷ [];
  store = described (codes "city") NewRow ∷ [];
  customer = described (codes "tier") NewRow ∷ described (codes "age_band") MiniDimensionOutrigger ∷ described (codes "spend_band") MiniDimensionOutrigger ∷ [];
  years = record { first = 2023; last = 2026 };
  holidays = [];
}

-- ---- what can be asked

by_brand : subject_in policy (codes "product.brand") ≡ Some (Attribute (record { dim = Product; place = 1; kind = NewRow }))
unfolding subject_in policy_on_literals
by_brand = refl

by_spend_band : subject_in policy (codes "customer.spend_band") ≡ Some (Attribute (record { dim = Customer; place = 2; kind = MiniDimensionOutrigger }))
unfolding subject_in policy_on_literals
by_spend_band = refl

by_month : subject_in policy (codes "date.month") ≡ Some Month
unfolding subject_in policy_on_literals
by_month = refl

-- a name of another dimension, a part of a name, and no name at all

by_brand_of_a_store : subject_in policy (codes "store.brand") ≡ None
unfolding subject_in policy_on_literals
by_brand_of_a_store = refl

by_part_of_a_name : subject_in policy (codes "product.bran") ≡ None
unfolding subject_in policy_on_literals
by_part_of_a_name = refl

by_no_name : subject_in policy (codes "product.") ≡ None
unfolding subject_in policy_on_literals
by_no_name = refl

by_a_name_alone : subject_in policy (codes "brand") ≡ None
unfolding subject_in policy_on_literals
by_a_name_alone = refl

by_year : subject_in policy (codes "date.year") ≡ None
unfolding subject_in policy_on_literals
by_year = refl

-- a request, and the faults: no reading comes before no range, and no attribute before both

asked_for_categories : read_request policy (codes "product.category") Is (codes "2023-01-01") (codes "2026-12-31") ≡ Ok (record { words = codes "product.category"; mode = Is; from = 20230101; to = 20261231 })
unfolding read_request subject_in policy_on_literals
asked_for_categories = refl

one_day : read_request policy (codes "date.holiday") Was (codes "2024-02-29") (codes "2024-02-29") ≡ Ok (record { words = codes "date.holiday"; mode = Was; from = 20240229; to = 20240229 })
unfolding read_request subject_in policy_on_literals
one_day = refl

brands_as_they_are : read_request policy (codes "product.brand") Is (codes "2023-01-01") (codes "2026-12-31") ≡ Err (NoReading NewRow Is)
unfolding read_request subject_in policy_on_literals
brands_as_they_are = refl

suppliers_as_they_were : read_request policy (codes "product.supplier") Was (codes "2023-01-01") (codes "2022-12-31") ≡ Err (NoReading NewAttribute Was)
unfolding read_request subject_in policy_on_literals
suppliers_as_they_were = refl

months_before : read_request policy (codes "date.month") Prior (codes "2023-01-01") (codes "2026-12-31") ≡ Err (NoDateReading Prior)
unfolding read_request subject_in policy_on_literals
months_before = refl

no_attribute : read_request policy (codes "product.city") Prior (codes "2023-01-01") (codes "x") ≡ Err NoAttribute
unfolding read_request subject_in policy_on_literals
no_attribute = refl

last_before_first : read_request policy (codes "date.month") Was (codes "2024-01-02") (codes "2024-01-01") ≡ Err BadRange
unfolding read_request subject_in policy_on_literals
last_before_first = refl

no_such_day : read_request policy (codes "date.month") Was (codes "2023-02-28") (codes "2023-02-29") ≡ Err BadRange
unfolding read_request subject_in policy_on_literals
no_such_day = refl

-- both days are included

on_the_last_day : is_asked_of (record { words = codes "date.month"; mode = Was; from = 20240101; to = 20240131 }) 20240131 ≡ true
on_the_last_day = refl

the_day_after : is_asked_of (record { words = codes "date.month"; mode = Was; from = 20240101; to = 20240131 }) 20240201 ≡ false
the_day_after = refl

-- ---- texts of reports

abbrev sale : List ℕ → ℤ → ℤ → ℤ → Sold
sale label quantity amount cost = record { label = label; measures = record { quantity = quantity; amount = amount; cost = cost } }

abbrev pub title_line : List ℕ
title_line = codes "   lines   quantity         amount           cost         margin  label\n"

by_age_band : report_text (codes "customer.age_band") (codes "was") (codes "2023-01-01") (codes "2026-12-31")
    (sale (codes "(no card)") (pos 1) (pos 250) (pos 160) ∷ sale (codes "30-39") (pos 1) (pos 1000) (pos 700) ∷ sale (codes "(no card)") (pos 2) (pos 500) (pos 320) ∷ [])
    ≡ codes "report customer.age_band was 2023-01-01 2026-12-31\n" ++ title_line
    ++ codes "       2          3           7.50           4.80           2.70  (no card)\n"
    ++ codes "       1          1          10.00           7.00           3.00  30-39\n"
    ++ codes "       3          4          17.50          11.80           5.70  total\n"
unfolding report_text heading titles summed lines summary_text line_text money hundredths aligned digits
by_age_band = refl

-- the two lines of the first report add up to its total

abbrev by_age : List Sold
by_age = sale (codes "(no card)") (pos 1) (pos 250) (pos 160) ∷ sale (codes "30-39") (pos 1) (pos 1000) (pos 700) ∷ sale (codes "(no card)") (pos 2) (pos 500) (pos 320) ∷ []

two_lines : length (summed by_age).lines ≡ 2
unfolding summed lines
two_lines = refl

amounts_together : over_lines (λ t. t.amount) (summed by_age).lines ≡ pos 1750
unfolding summed lines
amounts_together = refl

margins_together : over_lines margin (summed by_age).lines ≡ pos 570
unfolding summed lines
margins_together = refl

by_category_as_it_was : report_text (codes "product.category") (codes "was") (codes "2023-01-01") (codes "2026-12-31")
    (sale (codes "Drinks") (pos 1) (pos 250) (pos 160) ∷ sale (codes "Drinks") (pos 2) (pos 500) (pos 320) ∷ sale (codes "Drinks") (pos 1) (pos 1000) (pos 700) ∷ sale (codes "Drinks") (pos 1) (pos 250) (pos 160) ∷ [])
    ≡ codes "report product.category was 2023-01-01 2026-12-31\n" ++ title_line
    ++ codes "       4          5          20.00          13.40           6.60  Drinks\n"
    ++ codes "       4          5          20.00          13.40           6.60  total\n"
unfolding report_text heading titles summed lines summary_text line_text money hundredths aligned digits
by_category_as_it_was = refl

by_category_as_it_is : report_text (codes "product.category") (codes "is") (codes "2023-01-01") (codes "2026-12-31")
    (sale (codes "Soft drinks") (pos 1) (pos 250) (pos 160) ∷ sale (codes "Soft drinks") (pos 2) (pos 500) (pos 320) ∷ sale (codes "Drinks") (pos 1) (pos 1000) (pos 700) ∷ sale (codes "Soft drinks") (pos 1) (pos 250) (pos 160) ∷ [])
    ≡ codes "report product.category is 2023-01-01 2026-12-31\n" ++ title_line
    ++ codes "       1          1          10.00           7.00           3.00  Drinks\n"
    ++ codes "       3          4          10.00           6.40           3.60  Soft drinks\n"
    ++ codes "       4          5          20.00          13.40           6.60  total\n"
unfolding report_text heading titles summed lines summary_text line_text money hundredths aligned digits
by_category_as_it_is = refl

by_supplier : report_text (codes "product.supplier") (codes "prior") (codes "2023-01-01") (codes "2026-12-31")
    (sale (codes "East") (pos 1) (pos 250) (pos 160) ∷ sale (codes "East") (pos 2) (pos 500) (pos 320) ∷ sale (codes "(none)") (pos 1) (pos 1000) (pos 700) ∷ sale (codes "East") (pos 1) (pos 250) (pos 160) ∷ [])
    ≡ codes "report product.supplier prior 2023-01-01 2026-12-31\n" ++ title_line
    ++ codes "       1          1          10.00           7.00           3.00  (none)\n"
    ++ codes "       3          4          10.00           6.40           3.60  East\n"
    ++ codes "       4          5          20.00          13.40           6.60  total\n"
unfolding report_text heading titles summed lines summary_text line_text money hundredths aligned digits
by_supplier = refl

by_month_as_it_was : report_text (codes "date.month") (codes "was") (codes "2023-01-01") (codes "2026-12-31")
    (sale (codes "2023-12") (pos 1) (pos 250) (pos 160) ∷ sale (codes "2024-02") (pos 2) (pos 500) (pos 320) ∷ sale (codes "2024-06") (pos 1) (pos 1000) (pos 700) ∷ sale (codes "2024-02") (pos 1) (pos 250) (pos 160) ∷ [])
    ≡ codes "report date.month was 2023-01-01 2026-12-31\n" ++ title_line
    ++ codes "       1          1           2.50           1.60           0.90  2023-12\n"
    ++ codes "       2          3           7.50           4.80           2.70  2024-02\n"
    ++ codes "       1          1          10.00           7.00           3.00  2024-06\n"
    ++ codes "       4          5          20.00          13.40           6.60  total\n"
unfolding report_text heading titles summed lines summary_text line_text money hundredths aligned digits
by_month_as_it_was = refl

-- no sale is in the range
of_no_sale : report_text (codes "product.category") (codes "is") (codes "2025-01-01") (codes "2025-12-31") []
    ≡ codes "report product.category is 2025-01-01 2025-12-31\n" ++ title_line
    ++ codes "       0          0           0.00           0.00           0.00  total\n"
unfolding report_text heading titles summed lines summary_text line_text money hundredths aligned digits
of_no_sale = refl

-- goods that were given back
below_nothing : line_text (codes "x") (record { lines = 1; quantity = negsuc 0; amount = negsuc 4; cost = pos 999999999 })
    ≡ codes "       1         -1          -0.05     9999999.99   -10000000.04  x\n"
unfolding line_text money hundredths aligned digits
below_nothing = refl

-- figures that are wider than their columns
wide_figures : line_text (codes "x") (record { lines = 4294967295; quantity = pos 42945377982705; amount = pos 4294967290705032705; cost = negsuc 4294967290705032704 })
    ≡ codes "4294967295 42945377982705 42949672907050327.05 -42949672907050327.05 85899345814100654.10  x\n"
unfolding line_text money hundredths aligned digits
wide_figures = refl

-- ---- words

the_words : mode_of_word (codes "was") ∷ mode_of_word (codes "is") ∷ mode_of_word (codes "prior") ∷ mode_of_word (codes "Was") ∷ mode_of_word [] ∷ [] ≡ Some Was ∷ Some Is ∷ Some Prior ∷ None ∷ None ∷ []
the_words = refl
