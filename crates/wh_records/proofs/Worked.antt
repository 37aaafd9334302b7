-- The definitions on a small history: each lemma computes.
use Rattle.std.proofs.Common.{◌≡◌, ℕ, List, [], ◌∷◌, refl}
use Rattle.std.specs.Prelude.{codes, map}
use Rattle.csv.specs.Writing.{fields_text, escaped, is_blank}
use Rattle.wh_day.specs.Value.{none_text}
use Rattle.wh_policy.specs.Policy.{described}
use Rattle.wh_policy.specs.declared.attribute.AttributeType.TheVariants.{RetainOriginal, NewRow, MiniDimension}
use Rattle.wh_policy.specs.declared.attribute.Dim.TheVariants.{Product, Customer}
use Rattle.wh_policy.specs.declared.policy.Policy.{Policy}
use Rattle.wh_policy.specs.declared.record.DimensionRecord.{DimensionRecord}
use Rattle.wh_history.specs.Accepted.{Accepted, Content, Governs, Describes, changes_of}
use Rattle.wh_history.specs.Dated.{original, dated}
use Rattle.wh_records.specs.Carried.{records_of, firsts_of}
use Rattle.wh_records.specs.Texts.{record_line, header_line, records_text}

-- ---- a policy that got an attribute more

abbrev older : Policy
older = record { product = described (codes "color") RetainOriginal ∷ []; store = described (codes "city") NewRow ∷ []; customer = described (codes "tier") RetainOriginal ∷ described (codes "age") MiniDimension ∷ []; years = record { first = 2023; last = 2026 }; holidays = [] }

abbrev newer : Policy
newer = record older { product = described (codes "color") RetainOriginal ∷ described (codes "brand") NewRow ∷ [] }

abbrev entry : List ℕ → ℕ → List (List ℕ) → DimensionRecord
entry natural day values = record { natural = natural; day = day; values = values }

abbrev accepted : Content → Accepted
accepted content = record { id = []; kind = []; bytes = []; content = content }

abbrev commands : List Accepted
commands = map accepted (
    Governs older
    ∷ Describes Product (entry (codes "P1") 20240501 (codes "red" ∷ []) ∷ entry (codes "P2") 20240101 (codes "gray" ∷ []) ∷ [])
    ∷ Describes Customer (entry (codes "C1") 20240101 (codes "gold" ∷ codes "30" ∷ []) ∷ [])
    ∷ Governs newer
    ∷ Describes Product (entry (codes "P1") 20240101 (codes "blue" ∷ codes "Acme" ∷ []) ∷ entry (codes "P2") 20240101 (codes "green" ∷ none_text ∷ []) ∷ [])
    ∷ Describes Customer (entry (codes "C1") 20240101 (codes "plain" ∷ codes "40" ∷ []) ∷ [])
    ∷ [])

-- of a day the last, and of the later attribute none
products : records_of Product commands
    ≡ entry (codes "P1") 20240101 (codes "blue" ∷ codes "Acme" ∷ []) ∷ entry (codes "P1") 20240501 (codes "red" ∷ none_text ∷ []) ∷ entry (codes "P2") 20240101 (codes "green" ∷ none_text ∷ []) ∷ []
unfolding none_text
products = refl

-- P1's first color came late of its days, and P2's was overwritten: the dated records alone give others
p1_was_red : original 0 (changes_of Product commands (codes "P1")) ≡ codes "red"
unfolding none_text
p1_was_red = refl

p1_would_be_blue : original 0 (dated (changes_of Product commands (codes "P1"))) ≡ codes "blue"
unfolding none_text
p1_would_be_blue = refl

-- so they have a first record, once each
product_firsts : firsts_of Product commands ≡ entry (codes "P1") 20240101 (codes "red" ∷ codes "Acme" ∷ []) ∷ entry (codes "P2") 20240101 (codes "gray" ∷ none_text ∷ []) ∷ []
unfolding none_text
product_firsts = refl

-- a customer's profile values there are those of the day, so that no combination comes about that was none
customer_firsts : firsts_of Customer commands ≡ entry (codes "C1") 20240101 (codes "gold" ∷ codes "40" ∷ []) ∷ []
unfolding none_text
customer_firsts = refl

-- the text of a batch
product_text : records_text newer.product (records_of Product commands)
    ≡ codes "id,day,color,brand\nP1,2024-01-01,blue,Acme\nP1,2024-05-01,red,\nP2,2024-01-01,green,\n"
unfolding none_text record_line header_line fields_text escaped is_blank
product_text = refl

quoted_text : records_text newer.product (entry (codes "P1") 20240101 (codes "a \"big\", red one" ∷ none_text ∷ []) ∷ [])
    ≡ codes "id,day,color,brand\nP1,2024-01-01,\"a \"\"big\"\", red one\",\n"
unfolding none_text record_line header_line fields_text escaped is_blank
quoted_text = refl
