-- The faults of batches that were worked out by hand.
use Rattle.std.proofs.Common.{◌≡◌, ℕ, ◌++◌, List, [], ◌∷◌, codes, Some, None, refl, replicate}
use Rattle.wh_policy.specs.Policy.{trial_policy}
use Rattle.wh_policy.specs.declared.attribute.Dim.TheVariants.{Product, Customer}
use Rattle.wh_policy.specs.declared.format.Format.{Format}
use Rattle.wh_policy.specs.declared.format.Format.TheVariants.{One, Two}
use Rattle.wh_batch.specs.declared.fault.FaultKind.{FaultKind}
use Rattle.wh_batch.specs.declared.fault.FaultKind.TheVariants.{TooLarge, WrongHeader, WrongLength, BadKey, BadDay, BadValue, BadNumber, TwiceInBatch, OutsideCalendar, NotInFormat}
use Rattle.wh_batch.specs.declared.holds.Holds.TheVariants as holds
use Rattle.wh_batch.specs.declared.kind.BatchKind.{BatchKind}
use Rattle.wh_batch.specs.declared.kind.BatchKind.TheVariants.{Dimension, Sales, Voids}
use Rattle.wh_batch.specs.declared.listed.RecordFault.{RecordFault}
use Rattle.wh_batch.specs.Batch.{at}
use Rattle.wh_batch.specs.Columns.{fault_in}
use Rattle.wh_batch.specs.Layouts.{column, columns_of, voids_layout}
use Rattle.wh_batch.specs.Faults.{whole, faults_after, faults_of_kind}
use Rattle.wh_batch.proofs.OnLiterals.{batch_on_literals}

-- a fault in the field at a place, with this text
abbrev in_field : ℕ → FaultKind → ℕ → List ℕ → RecordFault
in_field number kind place text = record { fault = at number kind; field = Some (record { place = place; text = text }) }

-- the faults of a batch under the policy of a trial
abbrev found : BatchKind → Format → List ℕ → List RecordFault
found kind format bytes = faults_of_kind kind trial_policy format bytes

abbrev sales : List ℕ → List ℕ
sales rows = codes "ticket,line,day,store,product,customer,quantity,amount,cost" ++ 10 ∷ rows

-- what a text is at fault with
days : (fault_in holds.Day (codes "01.02.2024") ≡ Some BadDay) × (fault_in holds.EffectiveDay (codes "2200-01-01") ≡ Some BadDay) × (fault_in holds.Day (codes "2200-01-01") ≡ None)
unfolding batch_on_literals
days = (refl, refl, refl)

amounts : (fault_in holds.Amount (codes "1,50") ≡ Some BadNumber) × (fault_in holds.Amount (codes "-1.50") ≡ None) × (fault_in holds.Discount (codes "-1.50") ≡ Some BadNumber)
unfolding batch_on_literals
amounts = (refl, refl, refl)

keys : (fault_in holds.Ticket (replicate 21 84) ≡ Some BadKey) × (fault_in holds.Key (replicate 21 84) ≡ None) × (fault_in holds.Key [] ≡ Some BadKey) × (fault_in holds.CustomerKey [] ≡ None)
unfolding batch_on_literals
keys = (refl, refl, refl, refl)

sixty_one_bytes : fault_in holds.Value (replicate 61 120) ≡ Some BadValue
unfolding batch_on_literals
sixty_one_bytes = refl

-- three rows with a fault each, and one without: of two fields at fault the first counts
three_rows : found Sales One (sales (codes "T1,1,01.02.2024,S1,P1,,1,\"1,50\",1" ++ 10 ∷ codes "T2,1,2024-01-05,S1,P1,,1,1,1" ++ 10 ∷ codes "T3,1,2024-01-05,S1,P1,,1,\"1,50\",1" ++ 10 ∷ codes "T4;1"))
    ≡ in_field 1 BadDay 2 (codes "01.02.2024") ∷ in_field 3 BadNumber 7 (codes "1,50") ∷ whole 4 WrongLength ∷ []
unfolding batch_on_literals
three_rows = refl

-- the key of a sale outside the calendar counts, and so does that of one that came twice
outside_then_twice : found Sales One (sales (codes "T5,1,2027-01-01,S1,P1,,1,1,1" ++ 10 ∷ codes "T5,01,2024-01-05,S1,P1,,1,1,1" ++ 10 ∷ codes "T5,1,2027-01-01,S1,P1,,1,1,1"))
    ≡ in_field 1 OutsideCalendar 2 (codes "2027-01-01") ∷ whole 2 TwiceInBatch ∷ whole 3 TwiceInBatch ∷ []
unfolding batch_on_literals
outside_then_twice = refl

-- that of a row with a field at fault doesn't
fault_then_new : found Voids Two (codes "ticket,line" ++ 10 ∷ codes "T5,0" ++ 10 ∷ codes "T5,1" ++ 10 ∷ codes "T 5,0") ≡ in_field 1 BadNumber 1 (codes "0") ∷ in_field 3 BadKey 0 (codes "T 5") ∷ []
unfolding batch_on_literals
fault_then_new = refl

none : found Voids Two (codes "ticket,line" ++ 10 ∷ codes "T5,1") ≡ []
unfolding batch_on_literals
none = refl

-- headers: another name, one too few, one too many, semicolons, and no bytes
other_name : found (Dimension Product) One (codes "id,day,text,brand" ++ 10 ∷ codes "P 1") ≡ in_field 0 WrongHeader 2 (codes "text") ∷ []
unfolding batch_on_literals
other_name = refl

one_name_less : found (Dimension Product) One (codes "id,day,description") ≡ in_field 0 WrongHeader 3 [] ∷ []
unfolding batch_on_literals
one_name_less = refl

one_name_more : found (Dimension Customer) Two (codes "id,day,tier,city") ≡ in_field 0 WrongHeader 3 (codes "city") ∷ []
unfolding batch_on_literals
one_name_more = refl

semicolons : found (Dimension Customer) Two (codes "id;day;tier") ≡ in_field 0 WrongHeader 0 (codes "id;day;tier") ∷ []
unfolding batch_on_literals
semicolons = refl

no_bytes : found Sales Two [] ≡ in_field 0 WrongHeader 0 [] ∷ []
unfolding batch_on_literals
no_bytes = refl

-- the first format has no voids, whatever the bytes are
voids_in_the_first_format : (bytes : List ℕ) → found Voids One bytes ≡ whole 0 NotInFormat ∷ []
unfolding batch_on_literals
voids_in_the_first_format bytes = refl

-- the five thousandth row, and two more
abbrev three_bad_voids : List (List (List ℕ))
three_bad_voids = (codes "T5" ∷ codes "0" ∷ []) ∷ (codes "T5" ∷ codes "0" ∷ []) ∷ (codes "T5" ∷ codes "0" ∷ []) ∷ []

last_row : faults_after voids_layout [] 5000 three_bad_voids ≡ in_field 5000 BadNumber 1 (codes "0") ∷ whole 5001 TooLarge ∷ []
unfolding batch_on_literals
last_row = refl

-- columns
columns_of_customers : columns_of (Dimension Customer) trial_policy One ≡ column (codes "id") holds.Key ∷ column (codes "day") holds.EffectiveDay ∷ column (codes "tier") holds.Value ∷ []
columns_of_customers = refl

columns_of_voids : columns_of Voids trial_policy One ≡ column (codes "ticket") holds.Ticket ∷ column (codes "line") holds.Line ∷ []
columns_of_voids = refl
