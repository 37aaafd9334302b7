-- Answers to queries over a whole history on literals.
use Rattle.std.proofs.Common.{◌≡◌, ℕ, ℤ, pos, List, [], ◌∷◌, ◌++◌, None, refl}
use Rattle.std.specs.Prelude.{codes}
use Rattle.std.specs.Fmt.{digits}
use Rattle.csv.specs.Writing.{escaped, fields_text, is_blank}
use Rattle.wh_policy.specs.declared.attribute.Dim.TheVariants.{Product, Store}
use Rattle.wh_policy.specs.declared.record.DimensionRecord.{DimensionRecord}
use Rattle.wh_policy.specs.declared.record.SaleRecord.{SaleRecord}
use Rattle.wh_policy.proofs.OnLiterals.{policy_on_literals}
use Rattle.wh_history.specs.Accepted.{Accepted, Content, Governs, Describes, Sells}
use Rattle.wh_report.specs.Text.{aligned, hundredths, line_text, money, summary_text, titles}
use Rattle.wh_report.specs.Subject.{subject_in}
use Rattle.wh_batch.specs.declared.mode.Mode.TheVariants.{Was}
use Rattle.wh_report.proofs.Worked.{policy}
use Rattle.wh_report.specs.Lines.{lines}
use Rattle.wh_query.specs.Answer.{query}
use Rattle.wh_query.specs.Asked.{ColumnAsked, ConditionAsked, QueryAsked, in_form}
use Rattle.wh_query.specs.Table.{characters, in_column, table_text}
use Rattle.wh_query.specs.declared.form.Form.TheVariants.{Csv, Table}

-- ---- what was accepted

abbrev accepted : List ℕ → Content → Accepted
accepted id content = record { id = id; kind = []; bytes = []; content = content }

abbrev product : List ℕ → ℕ → List ℕ → DimensionRecord
product natural day brand = record { natural = natural; day = day; values = codes "Drink" ∷ brand ∷ codes "Drinks" ∷ codes "Grocery" ∷ codes "2019" ∷ codes "North" ∷ [] }

abbrev store : List ℕ → List ℕ → DimensionRecord
store natural city = record { natural = natural; day = 20230101; values = city ∷ [] }

abbrev sale : List ℕ → ℕ → List ℕ → List ℕ → ℤ → ℤ → ℤ → SaleRecord
sale ticket day shop what quantity amount cost = record { ticket = ticket; line = 1; day = day; store = shop; product = what; customer = None; quantity = quantity; amount = amount; cost = cost; discount = 0 }

-- the cola becomes another brand's in February
abbrev commands : List Accepted
commands =
    accepted (codes "init") (Governs policy)
    ∷ accepted (codes "st") (Describes Store (store (codes "S1") (codes "Bern, Gare") ∷ store (codes "S2") (codes "Genf") ∷ []))
    ∷ accepted (codes "p1") (Describes Product (product (codes "P1") 20240110 (codes "Bolt") ∷ product (codes "P9") 20240110 (codes "Leaf") ∷ []))
    ∷ accepted (codes "p2") (Describes Product (product (codes "P1") 20240201 (codes "Acme") ∷ []))
    ∷ accepted (codes "s1") (Sells (
    sale (codes "T1") 20240205 (codes "S1") (codes "P1") (pos 2) (pos 500) (pos 320)
    ∷ sale (codes "T2") 20240115 (codes "S1") (codes "P1") (pos 1) (pos 250) (pos 160)
    ∷ sale (codes "T3") 20240210 (codes "S2") (codes "P1") (pos 3) (pos 750) (pos 480)
    ∷ sale (codes "T4") 20240220 (codes "S1") (codes "P9") (pos 1) (pos 1000) (pos 700)
    ∷ sale (codes "T5") 20240229 (codes "S1") (codes "P1") (pos 4) (pos 1000) (pos 640) ∷ []))
    ∷ []

-- ---- what is asked for

abbrev brand : ColumnAsked
brand = record { words = codes "product.brand"; mode = Was }

abbrev month : ColumnAsked
month = record { words = codes "date.month"; mode = Was }

abbrev city : ColumnAsked
city = record { words = codes "store.city"; mode = Was }

abbrev only : ColumnAsked → List ℕ → ConditionAsked
only column label = record { column = column; label = label }

abbrev in_2024 : List ColumnAsked → List ConditionAsked → QueryAsked
in_2024 columns conditions = record { columns = columns; conditions = conditions; from = 20240101; to = 20241231; form = Csv }

-- brand by month of one shop alone
brand_by_month_in_bern : query commands (in_2024 (brand ∷ month ∷ []) (only city (codes "Bern, Gare") ∷ []))
    ≡ codes "product.brand:was,date.month,lines,quantity,amount,cost,margin\n"
    ++ codes "Acme,2024-02,2,6,15.00,9.60,5.40\n"
    ++ codes "Bolt,2024-01,1,1,2.50,1.60,0.90\n"
    ++ codes "Leaf,2024-02,1,1,10.00,7.00,3.00\n"
unfolding policy_on_literals subject_in lines money hundredths escaped fields_text is_blank digits
brand_by_month_in_bern = refl

-- two labels of one column, and one of another
acme_by_city : query commands (in_2024 (city ∷ []) (only city (codes "Genf") ∷ only brand (codes "Acme") ∷ only city (codes "Bern, Gare") ∷ []))
    ≡ codes "store.city:was,lines,quantity,amount,cost,margin\n"
    ++ codes "\"Bern, Gare\",2,6,15.00,9.60,5.40\n"
    ++ codes "Genf,1,3,7.50,4.80,2.70\n"
unfolding policy_on_literals subject_in lines money hundredths escaped fields_text is_blank digits
acme_by_city = refl

-- no sale is in the slice
leaf_in_genf : query commands (in_2024 (brand ∷ []) (only city (codes "Genf") ∷ only brand (codes "Leaf") ∷ []))
    ≡ codes "product.brand:was,lines,quantity,amount,cost,margin\n"
unfolding policy_on_literals subject_in lines money hundredths escaped fields_text is_blank digits
leaf_in_genf = refl

-- ---- as a table

-- brand by month of one shop alone: a brand of more places than a month, and the total
table_in_bern : query commands (in_form Table (in_2024 (brand ∷ month ∷ []) (only city (codes "Bern, Gare") ∷ [])))
    ≡ codes "   lines   quantity         amount           cost         margin  product.brand:was        date.month\n"
    ++ codes "       2          6          15.00           9.60           5.40  Acme                     2024-02\n"
    ++ codes "       1          1           2.50           1.60           0.90  Bolt                     2024-01\n"
    ++ codes "       1          1          10.00           7.00           3.00  Leaf                     2024-02\n"
    ++ codes "       4          8          27.50          18.20           9.30  total\n"
unfolding policy_on_literals subject_in lines money hundredths digits table_text titles summary_text line_text aligned in_column characters
table_in_bern = refl

-- no label is quoted
table_by_city : query commands (in_form Table (in_2024 (city ∷ []) []))
    ≡ codes "   lines   quantity         amount           cost         margin  store.city:was\n"
    ++ codes "       4          8          27.50          18.20           9.30  Bern, Gare\n"
    ++ codes "       1          3           7.50           4.80           2.70  Genf\n"
    ++ codes "       5         11          35.00          23.00          12.00  total\n"
unfolding policy_on_literals subject_in lines money hundredths digits table_text titles summary_text line_text aligned in_column characters
table_by_city = refl

-- no sale is in the slice
table_of_nothing : query commands (in_form Table (in_2024 (brand ∷ []) (only city (codes "Genf") ∷ only brand (codes "Leaf") ∷ [])))
    ≡ codes "   lines   quantity         amount           cost         margin  product.brand:was\n"
    ++ codes "       0          0           0.00           0.00           0.00  total\n"
unfolding policy_on_literals subject_in lines money hundredths digits table_text titles summary_text line_text aligned in_column characters
table_of_nothing = refl

-- ü is one character of two bytes, and a text of more than 24 characters takes more places
in_its_column : in_column (90 ∷ 195 ∷ 188 ∷ codes "rich") ≡ (90 ∷ 195 ∷ 188 ∷ codes "rich") ++ codes "                   "
unfolding in_column characters
in_its_column = refl

beyond_its_column : in_column (codes "a description without end") ≡ codes "a description without end "
unfolding in_column characters
beyond_its_column = refl
