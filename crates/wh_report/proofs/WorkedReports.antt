-- Reports of a whole history on literals: what the accepted commands say is all that they are made from.
use Rattle.std.proofs.Common.{◌≡◌, ℕ, ℤ, pos, List, [], ◌∷◌, ◌++◌, Option, Some, None, refl}
use Rattle.std.specs.Prelude.{codes}
use Rattle.std.specs.Fmt.{digits}
use Rattle.wh_policy.specs.declared.attribute.AttributeType.TheVariants.{NewAttribute, MiniDimensionOutrigger, NewRowAndOverwrite, NewRow}
use Rattle.wh_policy.specs.declared.attribute.Dim.{Dim}
use Rattle.wh_policy.specs.declared.attribute.Dim.TheVariants.{Product, Store, Customer}
use Rattle.wh_policy.specs.declared.record.DimensionRecord.{DimensionRecord}
use Rattle.wh_policy.specs.declared.record.SaleRecord.{SaleRecord}
use Rattle.wh_policy.proofs.OnLiterals.{policy_on_literals}
use Rattle.wh_history.specs.Accepted.{Accepted, Content, Governs, Describes, Sells, Withdraws}
use Rattle.wh_report.specs.Asked.{Asked}
use Rattle.wh_report.specs.Label.{report}
use Rattle.wh_report.specs.Lines.{lines}
use Rattle.wh_report.specs.Summary.{summed}
use Rattle.wh_report.specs.Text.{aligned, hundredths, money, line_text, summary_text, titles, heading, report_text}
use Rattle.wh_batch.specs.declared.mode.Mode.{Mode}
use Rattle.wh_batch.specs.declared.mode.Mode.TheVariants.{Was, Is, Prior}
use Rattle.wh_report.specs.declared.subject.Reading.TheVariants.{AtSaleDay, Latest, PriorValue}
use Rattle.wh_report.specs.declared.subject.Subject.{Subject}
use Rattle.wh_report.specs.declared.subject.Subject.TheVariants.{Attribute, Month, Holiday}
use Rattle.wh_report.proofs.Worked.{policy, title_line}

-- ---- what was accepted

abbrev accepted : List ℕ → Content → Accepted
accepted id content = record { id = id; kind = []; bytes = []; content = content }

abbrev product : ℕ → List ℕ → List ℕ → List ℕ → List ℕ → List ℕ → DimensionRecord
product day description brand category launched supplier = record { natural = codes "P1"; day = day; values = description ∷ brand ∷ category ∷ codes "Grocery" ∷ launched ∷ supplier ∷ [] }

abbrev tea : DimensionRecord
tea = record { natural = codes "P9"; day = 20240605; values = codes "Tea 50" ∷ codes "Leaf" ∷ codes "Drinks" ∷ codes "Grocery" ∷ codes "2024" ∷ codes "North" ∷ [] }

abbrev customer : ℕ → List ℕ → DimensionRecord
customer day age_band = record { natural = codes "C9"; day = day; values = codes "Gold" ∷ age_band ∷ codes "high" ∷ [] }

abbrev sale : List ℕ → ℕ → List ℕ → Option (List ℕ) → ℤ → ℤ → ℤ → SaleRecord
sale ticket day what card quantity amount cost = record { ticket = ticket; line = 1; day = day; store = codes "S1"; product = what; customer = card; quantity = quantity; amount = amount; cost = cost; discount = 0 }

abbrev one : Dim → List ℕ → DimensionRecord → Accepted
one dim id r = accepted id (Describes dim (r ∷ []))

-- a product changes, late records among the others, is sold without a card, and a customer moves to the next age band after a purchase
abbrev commands : List Accepted
commands =
    accepted (codes "init") (Governs policy)
    ∷ one Product (codes "p1") (product 20240110 (codes "Cola 1l") (codes "Acme") (codes "Drinks") (codes "2019") (codes "North"))
    ∷ one Product (codes "p2") (product 20240201 (codes "Cola 1l") (codes "Bolt") (codes "Drinks") (codes "2019") (codes "North"))
    ∷ accepted (codes "s1") (Sells (sale (codes "T1") 20240205 (codes "P1") None (pos 2) (pos 500) (pos 320) ∷ sale (codes "T0") 20231231 (codes "P1") None (pos 1) (pos 250) (pos 160) ∷ []))
    ∷ one Product (codes "p3") (product 20240120 (codes "Cola 1l") (codes "Bolt") (codes "Drinks") (codes "2019") (codes "North"))
    ∷ one Product (codes "p4") (product 20240201 (codes "Cola 1l") (codes "Cask") (codes "Drinks") (codes "2019") (codes "North"))
    ∷ one Product (codes "p5") (product 20240301 (codes "Cola 1 l") (codes "Cask") (codes "Drinks") (codes "2019") (codes "North"))
    ∷ one Product (codes "p6") (product 20240401 (codes "Cola 1 l") (codes "Cask") (codes "Soft drinks") (codes "2019") (codes "North"))
    ∷ one Product (codes "p7") (product 20240601 (codes "Cola 1 l") (codes "Cask") (codes "Soft drinks") (codes "2021") (codes "South"))
    ∷ one Product (codes "p8") (product 20240501 (codes "Cola 1 l") (codes "Cask") (codes "Soft drinks") (codes "2019") (codes "East"))
    ∷ accepted (codes "s2") (Sells (sale (codes "T2") 20240610 (codes "P9") (Some (codes "C9")) (pos 1) (pos 1000) (pos 700) ∷ []))
    ∷ one Product (codes "p9") tea
    ∷ one Customer (codes "c1") (customer 20240608 (codes "30-39"))
    ∷ one Customer (codes "c2") (customer 20240701 (codes "40-49")) ∷ []

-- and is sold again, by a batch that comes late
abbrev later : List Accepted
later = commands ++ accepted (codes "s4") (Sells (sale (codes "T4") 20240229 (codes "P1") None (pos 1) (pos 250) (pos 160) ∷ [])) ∷ []

-- the line of a ticket is withdrawn
abbrev withdrawn : List Accepted
withdrawn = later ++ accepted (codes "v1") (Withdraws (record { ticket = codes "T1"; line = 1 } ∷ [])) ∷ []

-- ---- what is asked for

abbrev of_four_years : List ℕ → Mode → Asked
of_four_years words mode = record { words = words; mode = mode; from = 20230101; to = 20261231 }

abbrev age_band : Subject
age_band = Attribute (record { dim = Customer; place = 1; kind = MiniDimensionOutrigger })

abbrev category : Subject
category = Attribute (record { dim = Product; place = 2; kind = NewRowAndOverwrite })

abbrev supplier : Subject
supplier = Attribute (record { dim = Product; place = 5; kind = NewAttribute })

abbrev city : Subject
city = Attribute (record { dim = Store; place = 0; kind = NewRow })

by_age_band_then : report commands age_band AtSaleDay (of_four_years (codes "customer.age_band") Was)
    ≡ codes "report customer.age_band was 2023-01-01 2026-12-31\n" ++ title_line
    ++ codes "       2          3           7.50           4.80           2.70  (no card)\n"
    ++ codes "       1          1          10.00           7.00           3.00  30-39\n"
    ++ codes "       3          4          17.50          11.80           5.70  total\n"
unfolding policy_on_literals report_text heading titles summed lines summary_text line_text money hundredths aligned digits
by_age_band_then = refl

by_age_band_now : report commands age_band Latest (of_four_years (codes "customer.age_band") Is)
    ≡ codes "report customer.age_band is 2023-01-01 2026-12-31\n" ++ title_line
    ++ codes "       2          3           7.50           4.80           2.70  (no card)\n"
    ++ codes "       1          1          10.00           7.00           3.00  40-49\n"
    ++ codes "       3          4          17.50          11.80           5.70  total\n"
unfolding policy_on_literals report_text heading titles summed lines summary_text line_text money hundredths aligned digits
by_age_band_now = refl

by_category_then : report later category AtSaleDay (of_four_years (codes "product.category") Was)
    ≡ codes "report product.category was 2023-01-01 2026-12-31\n" ++ title_line
    ++ codes "       4          5          20.00          13.40           6.60  Drinks\n"
    ++ codes "       4          5          20.00          13.40           6.60  total\n"
unfolding policy_on_literals report_text heading titles summed lines summary_text line_text money hundredths aligned digits
by_category_then = refl

by_month_without_the_line : report withdrawn Month AtSaleDay (of_four_years (codes "date.month") Was)
    ≡ codes "report date.month was 2023-01-01 2026-12-31\n" ++ title_line
    ++ codes "       1          1           2.50           1.60           0.90  2023-12\n"
    ++ codes "       1          1           2.50           1.60           0.90  2024-02\n"
    ++ codes "       1          1          10.00           7.00           3.00  2024-06\n"
    ++ codes "       3          3          15.00          10.20           4.80  total\n"
unfolding policy_on_literals report_text heading titles summed lines summary_text line_text money hundredths aligned digits
by_month_without_the_line = refl

by_category_now : report later category Latest (of_four_years (codes "product.category") Is)
    ≡ codes "report product.category is 2023-01-01 2026-12-31\n" ++ title_line
    ++ codes "       1          1          10.00           7.00           3.00  Drinks\n"
    ++ codes "       3          4          10.00           6.40           3.60  Soft drinks\n"
    ++ codes "       4          5          20.00          13.40           6.60  total\n"
unfolding policy_on_literals report_text heading titles summed lines summary_text line_text money hundredths aligned digits
by_category_now = refl

by_category_in_2025 : report later category Latest (record { words = codes "product.category"; mode = Is; from = 20250101; to = 20251231 })
    ≡ codes "report product.category is 2025-01-01 2025-12-31\n" ++ title_line
    ++ codes "       0          0           0.00           0.00           0.00  total\n"
unfolding policy_on_literals report_text heading titles summed lines summary_text line_text money hundredths aligned digits
by_category_in_2025 = refl

by_supplier_before : report later supplier PriorValue (of_four_years (codes "product.supplier") Prior)
    ≡ codes "report product.supplier prior 2023-01-01 2026-12-31\n" ++ title_line
    ++ codes "       1          1          10.00           7.00           3.00  (none)\n"
    ++ codes "       3          4          10.00           6.40           3.60  East\n"
    ++ codes "       4          5          20.00          13.40           6.60  total\n"
unfolding policy_on_literals report_text heading titles summed lines summary_text line_text money hundredths aligned digits
by_supplier_before = refl

by_month : report later Month AtSaleDay (of_four_years (codes "date.month") Was)
    ≡ codes "report date.month was 2023-01-01 2026-12-31\n" ++ title_line
    ++ codes "       1          1           2.50           1.60           0.90  2023-12\n"
    ++ codes "       2          3           7.50           4.80           2.70  2024-02\n"
    ++ codes "       1          1          10.00           7.00           3.00  2024-06\n"
    ++ codes "       4          5          20.00          13.40           6.60  total\n"
unfolding policy_on_literals report_text heading titles summed lines summary_text line_text money hundredths aligned digits
by_month = refl

-- the last day of February is the last of the range; no record describes the store, and no day is a holiday
by_city_in_february : report later city AtSaleDay (record { words = codes "store.city"; mode = Was; from = 20240201; to = 20240229 })
    ≡ codes "report store.city was 2024-02-01 2024-02-29\n" ++ title_line
    ++ codes "       2          3           7.50           4.80           2.70  (unknown)\n"
    ++ codes "       2          3           7.50           4.80           2.70  total\n"
unfolding policy_on_literals report_text heading titles summed lines summary_text line_text money hundredths aligned digits
by_city_in_february = refl

by_holiday : report later Holiday AtSaleDay (of_four_years (codes "date.holiday") Is)
    ≡ codes "report date.holiday is 2023-01-01 2026-12-31\n" ++ title_line
    ++ codes "       4          5          20.00          13.40           6.60  (none)\n"
    ++ codes "       4          5          20.00          13.40           6.60  total\n"
unfolding policy_on_literals report_text heading titles summed lines summary_text line_text money hundredths aligned digits
by_holiday = refl
