-- The definitions on a small history: each lemma computes.
use Rattle.std.proofs.Common.{◌≡◌, ℕ, Bool, true, false, List, [], ◌∷◌, ◌++◌, Option, Some, None, refl}
use Rattle.std.specs.Prelude.{codes, pos, take, length}
use Rattle.wh_day.specs.Day.{day_before}
use Rattle.wh_day.specs.Value.{none_text, unknown_text, no_card_text}
use Rattle.wh_policy.specs.Policy.{described, trial_policy}
use Rattle.wh_policy.specs.declared.policy.Policy.{Policy}
use Rattle.wh_policy.specs.declared.attribute.Dim.TheVariants.{Product, Customer}
use Rattle.wh_policy.specs.declared.attribute.AttributeType.{AttributeType}
use Rattle.wh_policy.specs.declared.attribute.AttributeType.TheVariants.{RetainOriginal, Overwrite, NewRow, NewAttribute, MiniDimension, MiniDimensionOutrigger, NewRowAndOverwrite, DualKeys}
use Rattle.wh_policy.specs.declared.record.DimensionRecord.{DimensionRecord}
use Rattle.wh_policy.specs.declared.record.SaleRecord.{SaleRecord}
use Rattle.wh_history.specs.Accepted.{Accepted, Content, Governs, Describes, Sells, Withdraws, durable_key, members}
use Rattle.wh_history.specs.Keys.{at_place}
use Rattle.wh_history.specs.Tables.{dimension_row, member_row, change_row, profile_row, fact_row, void_row, command_row, member_rows, dimension_table, trial_commands}
use Rattle.wh_history.specs.declared.rows.DimRow.{DimRow}
use Rattle.wh_history.specs.declared.facts.Fact.{Fact}

abbrev policy_with : AttributeType → AttributeType → AttributeType → Policy
policy_with brand age spend = record {
  product = described (codes "description") Overwrite ∷ described (codes "brand") brand ∷ described (codes "category") NewRowAndOverwrite ∷ described (codes "department") DualKeys ∷ described (codes "launched") RetainOriginal ∷ described (codes "supplier") NewAttribute ∷ [];
  store = described (codes "city") NewRow ∷ [];
  customer = described (codes "tier") NewRow ∷ described (codes "age_band") age ∷ described (codes "spend_band") spend ∷ [];
  years = record { first = 2023; last = 2026 };
  holidays = [];
}

-- the policy of most of the rows below
abbrev usual : Policy
usual = policy_with NewRow MiniDimensionOutrigger MiniDimensionOutrigger

abbrev told : List ℕ → ℕ → List (List ℕ) → DimensionRecord
told natural day values = record { natural = natural; day = day; values = values }

abbrev accepted : List ℕ → List ℕ → Content → Accepted
accepted id kind content = record { id = id; kind = kind; bytes = []; content = content }

abbrev sale : List ℕ → ℕ → List ℕ → Option (List ℕ) → ℕ → ℕ → ℕ → SaleRecord
sale ticket day product customer quantity amount cost =
    record { ticket = ticket; line = 1; day = day; store = codes "S1"; product = product; customer = customer; quantity = pos quantity; amount = pos amount; cost = pos cost; discount = 0 }

-- a fact: the ticket, the day, the keys and the durable keys of store, product and customer, the profile and the measures
abbrev fact : List ℕ → ℕ → ℕ × ℕ × ℕ → ℕ × ℕ × ℕ → ℕ → ℕ → ℕ → ℕ → Fact
fact ticket day keys durables profile quantity amount cost = record {
  ticket = ticket;
  line = 1;
  day = day;
  keys = record { store_key = keys.0; product_key = keys.1; customer_key = keys.2; profile = profile };
  store_durable = durables.0;
  product_durable = durables.1;
  customer_durable = durables.2;
  quantity = pos quantity;
  amount = pos amount;
  cost = pos cost;
  discount = 0;
}

-- a row of a dimension, in the order of the table's columns
abbrev dim_row : ℕ → ℕ → List ℕ → ℕ → ℕ → Bool → List (List ℕ) → List (List ℕ) → ℕ → DimRow
dim_row surrogate durable natural from to current a b profile = record {
  surrogate = surrogate;
  durable = durable;
  natural = natural;
  from_day = from;
  to_day = to;
  is_current = current;
  a = a;
  b = b;
  profile_now = profile;
}

abbrev commands : List Accepted
commands =
    accepted (codes "init") (codes "init") (Governs usual)
    ∷ accepted (codes "p0") (codes "product") (Describes Product [])
    ∷ accepted (codes "p1") (codes "product") (Describes Product (told (codes "P1") 20240110 (codes "Cola 1l" ∷ codes "Acme" ∷ codes "Drinks" ∷ codes "Grocery" ∷ codes "2019" ∷ codes "North" ∷ []) ∷ []))
    ∷ accepted (codes "p2") (codes "product") (Describes Product (told (codes "P1") 20240201 (codes "Cola 1l" ∷ codes "Bolt" ∷ codes "Drinks" ∷ codes "Grocery" ∷ codes "2019" ∷ codes "North" ∷ []) ∷ []))
    ∷ accepted (codes "s1") (codes "sales") (Sells (sale (codes "T1") 20240205 (codes "P1") None 2 500 320 ∷ sale (codes "T0") 20231231 (codes "P1") None 1 250 160 ∷ []))
    ∷ accepted (codes "p3") (codes "product") (Describes Product (told (codes "P1") 20240120 (codes "Cola 1l" ∷ codes "Bolt" ∷ codes "Drinks" ∷ codes "Grocery" ∷ codes "2019" ∷ codes "North" ∷ []) ∷ []))
    ∷ accepted (codes "p4") (codes "product") (Describes Product (told (codes "P1") 20240201 (codes "Cola 1l" ∷ codes "Cask" ∷ codes "Drinks" ∷ codes "Grocery" ∷ codes "2019" ∷ codes "North" ∷ []) ∷ []))
    ∷ accepted (codes "p5") (codes "product") (Describes Product (told (codes "P1") 20240301 (codes "Cola 1 l" ∷ codes "Cask" ∷ codes "Drinks" ∷ codes "Grocery" ∷ codes "2019" ∷ codes "North" ∷ []) ∷ []))
    ∷ accepted (codes "p6") (codes "product") (Describes Product (told (codes "P1") 20240401 (codes "Cola 1 l" ∷ codes "Cask" ∷ codes "Soft drinks" ∷ codes "Grocery" ∷ codes "2019" ∷ codes "North" ∷ []) ∷ []))
    ∷ accepted (codes "p7") (codes "product") (Describes Product (told (codes "P1") 20240601 (codes "Cola 1 l" ∷ codes "Cask" ∷ codes "Soft drinks" ∷ codes "Grocery" ∷ codes "2021" ∷ codes "South" ∷ []) ∷ []))
    ∷ accepted (codes "p8") (codes "product") (Describes Product (told (codes "P1") 20240501 (codes "Cola 1 l" ∷ codes "Cask" ∷ codes "Soft drinks" ∷ codes "Grocery" ∷ codes "2019" ∷ codes "East" ∷ []) ∷ []))
    ∷ accepted (codes "s2") (codes "sales") (Sells (sale (codes "T2") 20240610 (codes "P9") (Some (codes "C9")) 1 1000 700 ∷ []))
    ∷ accepted (codes "p9") (codes "product") (Describes Product (told (codes "P9") 20240605 (codes "Tea 50" ∷ codes "Leaf" ∷ codes "Drinks" ∷ codes "Grocery" ∷ codes "2024" ∷ codes "North" ∷ []) ∷ []))
    ∷ accepted (codes "c1") (codes "customer") (Describes Customer (told (codes "C9") 20240608 (codes "Gold" ∷ codes "30-39" ∷ codes "high" ∷ []) ∷ []))
    ∷ accepted (codes "c2") (codes "customer") (Describes Customer (told (codes "C9") 20240701 (codes "Gold" ∷ codes "40-49" ∷ codes "high" ∷ []) ∷ []))
    ∷ accepted (codes "m1") (codes "migrate") (Governs (policy_with Overwrite MiniDimensionOutrigger MiniDimensionOutrigger))
    ∷ accepted (codes "m2") (codes "migrate") (Governs usual)
    ∷ accepted (codes "s4") (codes "sales") (Sells (sale (codes "T4") 20240229 (codes "P1") None 1 250 160 ∷ []))
    ∷ accepted (codes "c3") (codes "customer") (Describes Customer (told (codes "C9") 20240701 (codes "Gold" ∷ codes "40-49" ∷ codes "high" ∷ []) ∷ []))
    ∷ accepted (codes "c4") (codes "customer") (Describes Customer (told (codes "C8") 20240701 (codes "Silver" ∷ none_text ∷ none_text ∷ []) ∷ []))
    ∷ accepted (codes "m4") (codes "migrate") (Governs (policy_with NewRow Overwrite MiniDimensionOutrigger))
    ∷ accepted (codes "m5") (codes "migrate") (Governs (policy_with NewRow MiniDimension MiniDimension))
    ∷ []

-- a second row; the key 2 was drawn by the earliest day and names no row
row-1 : dimension_row (take 4 commands) Product 1 ≡ Some (dim_row 1 1 (codes "P1") 19000101 20240131 false (codes "Cola 1l" ∷ codes "Acme" ∷ codes "Drinks" ∷ codes "Grocery" ∷ codes "2019" ∷ codes "North" ∷ []) ([] ∷ [] ∷ codes "Drinks" ∷ [] ∷ [] ∷ codes "(none)" ∷ []) 0)
unfolding none_text unknown_text no_card_text day_before
row-1 = refl

row-2 : dimension_row (take 4 commands) Product 2 ≡ None
unfolding none_text unknown_text no_card_text day_before
row-2 = refl

row-3 : dimension_row (take 4 commands) Product 3 ≡ Some (dim_row 3 1 (codes "P1") 20240201 99991231 true (codes "Cola 1l" ∷ codes "Bolt" ∷ codes "Drinks" ∷ codes "Grocery" ∷ codes "2019" ∷ codes "North" ∷ []) ([] ∷ [] ∷ codes "Drinks" ∷ [] ∷ [] ∷ codes "(none)" ∷ []) 0)
unfolding none_text unknown_text no_card_text day_before
row-3 = refl

row-4 : fact_row (take 5 commands) (codes "T0") 1 ≡ Some (fact (codes "T0") 20231231 (1, 1, 0) (1, 1, 0) 0 1 250 160)
unfolding none_text unknown_text no_card_text day_before
row-4 = refl

row-5 : fact_row (take 5 commands) (codes "T1") 1 ≡ Some (fact (codes "T1") 20240205 (1, 3, 0) (1, 1, 0) 0 2 500 320)
unfolding none_text unknown_text no_card_text day_before
row-5 = refl

-- a backdated record: row 3 ends to exist, row 4 begins, and the fact follows
row-6 : dimension_row (take 6 commands) Product 1 ≡ Some (dim_row 1 1 (codes "P1") 19000101 20240119 false (codes "Cola 1l" ∷ codes "Acme" ∷ codes "Drinks" ∷ codes "Grocery" ∷ codes "2019" ∷ codes "North" ∷ []) ([] ∷ [] ∷ codes "Drinks" ∷ [] ∷ [] ∷ codes "(none)" ∷ []) 0)
unfolding none_text unknown_text no_card_text day_before
row-6 = refl

row-7 : dimension_row (take 6 commands) Product 3 ≡ None
unfolding none_text unknown_text no_card_text day_before
row-7 = refl

row-8 : dimension_row (take 6 commands) Product 4 ≡ Some (dim_row 4 1 (codes "P1") 20240120 99991231 true (codes "Cola 1l" ∷ codes "Bolt" ∷ codes "Drinks" ∷ codes "Grocery" ∷ codes "2019" ∷ codes "North" ∷ []) ([] ∷ [] ∷ codes "Drinks" ∷ [] ∷ [] ∷ codes "(none)" ∷ []) 0)
unfolding none_text unknown_text no_card_text day_before
row-8 = refl

row-9 : fact_row (take 6 commands) (codes "T1") 1 ≡ Some (fact (codes "T1") 20240205 (1, 4, 0) (1, 1, 0) 0 2 500 320)
unfolding none_text unknown_text no_card_text day_before
row-9 = refl

-- a correction of the same day: row 3 is there again under its number
row-10 : dimension_row (take 7 commands) Product 3 ≡ Some (dim_row 3 1 (codes "P1") 20240201 99991231 true (codes "Cola 1l" ∷ codes "Cask" ∷ codes "Drinks" ∷ codes "Grocery" ∷ codes "2019" ∷ codes "North" ∷ []) ([] ∷ [] ∷ codes "Drinks" ∷ [] ∷ [] ∷ codes "(none)" ∷ []) 0)
unfolding none_text unknown_text no_card_text day_before
row-10 = refl

row-11 : dimension_row (take 7 commands) Product 4 ≡ Some (dim_row 4 1 (codes "P1") 20240120 20240131 false (codes "Cola 1l" ∷ codes "Bolt" ∷ codes "Drinks" ∷ codes "Grocery" ∷ codes "2019" ∷ codes "North" ∷ []) ([] ∷ [] ∷ codes "Drinks" ∷ [] ∷ [] ∷ codes "(none)" ∷ []) 0)
unfolding none_text unknown_text no_card_text day_before
row-11 = refl

row-12 : fact_row (take 7 commands) (codes "T1") 1 ≡ Some (fact (codes "T1") 20240205 (1, 3, 0) (1, 1, 0) 0 2 500 320)
unfolding none_text unknown_text no_card_text day_before
row-12 = refl

-- a change of type 1 alone begins no row, and all rows show it
row-13 : dimension_row (take 8 commands) Product 5 ≡ None
unfolding none_text unknown_text no_card_text day_before
row-13 = refl

row-14 : dimension_row (take 8 commands) Product 1 ≡ Some (dim_row 1 1 (codes "P1") 19000101 20240119 false (codes "Cola 1 l" ∷ codes "Acme" ∷ codes "Drinks" ∷ codes "Grocery" ∷ codes "2019" ∷ codes "North" ∷ []) ([] ∷ [] ∷ codes "Drinks" ∷ [] ∷ [] ∷ codes "(none)" ∷ []) 0)
unfolding none_text unknown_text no_card_text day_before
row-14 = refl

-- a change of type 6: a new row, and the new value in the second column of all
row-15 : dimension_row (take 9 commands) Product 1 ≡ Some (dim_row 1 1 (codes "P1") 19000101 20240119 false (codes "Cola 1 l" ∷ codes "Acme" ∷ codes "Drinks" ∷ codes "Grocery" ∷ codes "2019" ∷ codes "North" ∷ []) ([] ∷ [] ∷ codes "Soft drinks" ∷ [] ∷ [] ∷ codes "(none)" ∷ []) 0)
unfolding none_text unknown_text no_card_text day_before
row-15 = refl

row-16 : dimension_row (take 9 commands) Product 3 ≡ Some (dim_row 3 1 (codes "P1") 20240201 20240331 false (codes "Cola 1 l" ∷ codes "Cask" ∷ codes "Drinks" ∷ codes "Grocery" ∷ codes "2019" ∷ codes "North" ∷ []) ([] ∷ [] ∷ codes "Soft drinks" ∷ [] ∷ [] ∷ codes "(none)" ∷ []) 0)
unfolding none_text unknown_text no_card_text day_before
row-16 = refl

row-17 : dimension_row (take 9 commands) Product 4 ≡ Some (dim_row 4 1 (codes "P1") 20240120 20240131 false (codes "Cola 1 l" ∷ codes "Bolt" ∷ codes "Drinks" ∷ codes "Grocery" ∷ codes "2019" ∷ codes "North" ∷ []) ([] ∷ [] ∷ codes "Soft drinks" ∷ [] ∷ [] ∷ codes "(none)" ∷ []) 0)
unfolding none_text unknown_text no_card_text day_before
row-17 = refl

row-18 : dimension_row (take 9 commands) Product 6 ≡ Some (dim_row 6 1 (codes "P1") 20240401 99991231 true (codes "Cola 1 l" ∷ codes "Cask" ∷ codes "Soft drinks" ∷ codes "Grocery" ∷ codes "2019" ∷ codes "North" ∷ []) ([] ∷ [] ∷ codes "Soft drinks" ∷ [] ∷ [] ∷ codes "(none)" ∷ []) 0)
unfolding none_text unknown_text no_card_text day_before
row-18 = refl

-- the latest and the prior of type 3 go by the effective day, the original by acceptance
row-19 : dimension_row (take 10 commands) Product 6 ≡ Some (dim_row 6 1 (codes "P1") 20240401 99991231 true (codes "Cola 1 l" ∷ codes "Cask" ∷ codes "Soft drinks" ∷ codes "Grocery" ∷ codes "2019" ∷ codes "South" ∷ []) ([] ∷ [] ∷ codes "Soft drinks" ∷ [] ∷ [] ∷ codes "North" ∷ []) 0)
unfolding none_text unknown_text no_card_text day_before
row-19 = refl

row-20 : dimension_row (take 11 commands) Product 6 ≡ Some (dim_row 6 1 (codes "P1") 20240401 99991231 true (codes "Cola 1 l" ∷ codes "Cask" ∷ codes "Soft drinks" ∷ codes "Grocery" ∷ codes "2019" ∷ codes "South" ∷ []) ([] ∷ [] ∷ codes "Soft drinks" ∷ [] ∷ [] ∷ codes "East" ∷ []) 0)
unfolding none_text unknown_text no_card_text day_before
row-20 = refl

-- placeholders that a sale mentions, and the row of sales without a card
row-21 : dimension_row (take 12 commands) Product 9 ≡ Some (dim_row 9 2 (codes "P9") 19000101 99991231 true (codes "(unknown)" ∷ codes "(unknown)" ∷ codes "(unknown)" ∷ codes "(unknown)" ∷ codes "(unknown)" ∷ codes "(unknown)" ∷ []) ([] ∷ [] ∷ codes "(unknown)" ∷ [] ∷ [] ∷ codes "(none)" ∷ []) 0)
unfolding none_text unknown_text no_card_text day_before
row-21 = refl

row-22 : dimension_row (take 12 commands) Customer 1 ≡ Some (dim_row 1 1 (codes "C9") 19000101 99991231 true (codes "(unknown)" ∷ [] ∷ [] ∷ [] ∷ [] ∷ [] ∷ []) ([] ∷ [] ∷ [] ∷ [] ∷ [] ∷ [] ∷ []) 1)
unfolding none_text unknown_text no_card_text day_before
row-22 = refl

row-23 : dimension_row (take 12 commands) Customer 0 ≡ Some (dim_row 0 0 (codes "(no card)") 19000101 99991231 true (codes "(no card)" ∷ [] ∷ [] ∷ [] ∷ [] ∷ [] ∷ []) ([] ∷ [] ∷ [] ∷ [] ∷ [] ∷ [] ∷ []) 0)
unfolding none_text unknown_text no_card_text day_before
row-23 = refl

row-24 : fact_row (take 12 commands) (codes "T2") 1 ≡ Some (fact (codes "T2") 20240610 (1, 9, 1) (1, 2, 1) 1 1 1000 700)
unfolding none_text unknown_text no_card_text day_before
row-24 = refl

row-25 : command_row (take 12 commands) 12 ≡ Some (record { id = codes "s2"; kind = codes "sales"; bytes = []; records = 1; placeholders = 2 })
unfolding none_text unknown_text no_card_text day_before
row-25 = refl

row-26 : command_row (take 12 commands) 5 ≡ Some (record { id = codes "s1"; kind = codes "sales"; bytes = []; records = 2; placeholders = 1 })
unfolding none_text unknown_text no_card_text day_before
row-26 = refl

row-27 : member_row (take 12 commands) Product 2 ≡ Some (record { natural = codes "P9"; opening = 9 })
unfolding none_text unknown_text no_card_text day_before
row-27 = refl

row-28 : change_row (take 12 commands) 6 1 ≡ Some (record { dim = Product; durable = 1; day = 20240120; anchor = 4; texts = codes "Cola 1l" ∷ codes "Bolt" ∷ codes "Drinks" ∷ codes "Grocery" ∷ codes "2019" ∷ codes "North" ∷ [] })
unfolding none_text unknown_text no_card_text day_before
row-28 = refl

-- profiles by their first acceptance
row-29 : dimension_row (take 14 commands) Product 9 ≡ Some (dim_row 9 2 (codes "P9") 19000101 99991231 true (codes "Tea 50" ∷ codes "Leaf" ∷ codes "Drinks" ∷ codes "Grocery" ∷ codes "2024" ∷ codes "North" ∷ []) ([] ∷ [] ∷ codes "Drinks" ∷ [] ∷ [] ∷ codes "(none)" ∷ []) 0)
unfolding none_text unknown_text no_card_text day_before
row-29 = refl

row-30 : dimension_row (take 14 commands) Customer 1 ≡ Some (dim_row 1 1 (codes "C9") 19000101 99991231 true (codes "Gold" ∷ [] ∷ [] ∷ [] ∷ [] ∷ [] ∷ []) ([] ∷ [] ∷ [] ∷ [] ∷ [] ∷ [] ∷ []) 2)
unfolding none_text unknown_text no_card_text day_before
row-30 = refl

row-31 : fact_row (take 14 commands) (codes "T2") 1 ≡ Some (fact (codes "T2") 20240610 (1, 9, 1) (1, 2, 1) 2 1 1000 700)
unfolding none_text unknown_text no_card_text day_before
row-31 = refl

row-32 : profile_row (take 14 commands) 0 ≡ Some ([] ∷ codes "(no card)" ∷ codes "(no card)" ∷ [] ∷ [] ∷ [] ∷ [])
unfolding none_text unknown_text no_card_text day_before
row-32 = refl

row-33 : profile_row (take 14 commands) 1 ≡ Some ([] ∷ codes "(unknown)" ∷ codes "(unknown)" ∷ [] ∷ [] ∷ [] ∷ [])
unfolding none_text unknown_text no_card_text day_before
row-33 = refl

row-34 : profile_row (take 14 commands) 2 ≡ Some ([] ∷ codes "30-39" ∷ codes "high" ∷ [] ∷ [] ∷ [] ∷ [])
unfolding none_text unknown_text no_card_text day_before
row-34 = refl

row-35 : dimension_row (take 15 commands) Customer 1 ≡ Some (dim_row 1 1 (codes "C9") 19000101 99991231 true (codes "Gold" ∷ [] ∷ [] ∷ [] ∷ [] ∷ [] ∷ []) ([] ∷ [] ∷ [] ∷ [] ∷ [] ∷ [] ∷ []) 3)
unfolding none_text unknown_text no_card_text day_before
row-35 = refl

row-36 : fact_row (take 15 commands) (codes "T2") 1 ≡ Some (fact (codes "T2") 20240610 (1, 9, 1) (1, 2, 1) 2 1 1000 700)
unfolding none_text unknown_text no_card_text day_before
row-36 = refl

-- a migration of brand to type 1 and back
row-37 : dimension_row (take 16 commands) Product 1 ≡ Some (dim_row 1 1 (codes "P1") 19000101 20240331 false (codes "Cola 1 l" ∷ codes "Cask" ∷ codes "Drinks" ∷ codes "Grocery" ∷ codes "2019" ∷ codes "South" ∷ []) ([] ∷ [] ∷ codes "Soft drinks" ∷ [] ∷ [] ∷ codes "East" ∷ []) 0)
unfolding none_text unknown_text no_card_text day_before
row-37 = refl

row-38 : dimension_row (take 16 commands) Product 3 ≡ None
unfolding none_text unknown_text no_card_text day_before
row-38 = refl

row-39 : dimension_row (take 16 commands) Product 4 ≡ None
unfolding none_text unknown_text no_card_text day_before
row-39 = refl

row-40 : fact_row (take 16 commands) (codes "T1") 1 ≡ Some (fact (codes "T1") 20240205 (1, 1, 0) (1, 1, 0) 0 2 500 320)
unfolding none_text unknown_text no_card_text day_before
row-40 = refl

row-41 : dimension_row (take 17 commands) Product 3 ≡ Some (dim_row 3 1 (codes "P1") 20240201 20240331 false (codes "Cola 1 l" ∷ codes "Cask" ∷ codes "Drinks" ∷ codes "Grocery" ∷ codes "2019" ∷ codes "South" ∷ []) ([] ∷ [] ∷ codes "Soft drinks" ∷ [] ∷ [] ∷ codes "East" ∷ []) 0)
unfolding none_text unknown_text no_card_text day_before
row-41 = refl

row-42 : fact_row (take 17 commands) (codes "T1") 1 ≡ Some (fact (codes "T1") 20240205 (1, 3, 0) (1, 1, 0) 0 2 500 320)
unfolding none_text unknown_text no_card_text day_before
row-42 = refl

-- a sale on a day long past has the key of that day; a second customer
row-43 : fact_row (take 18 commands) (codes "T4") 1 ≡ Some (fact (codes "T4") 20240229 (1, 3, 0) (1, 1, 0) 0 1 250 160)
unfolding none_text unknown_text no_card_text day_before
row-43 = refl

row-44 : dimension_row (take 20 commands) Customer 4 ≡ Some (dim_row 4 2 (codes "C8") 19000101 99991231 true (codes "Silver" ∷ [] ∷ [] ∷ [] ∷ [] ∷ [] ∷ []) ([] ∷ [] ∷ [] ∷ [] ∷ [] ∷ [] ∷ []) 4)
unfolding none_text unknown_text no_card_text day_before
row-44 = refl

-- a migration of one band to type 1 numbers the profiles anew; with both of type 4 no row names one
row-45 : profile_row (take 21 commands) 2 ≡ Some ([] ∷ [] ∷ codes "high" ∷ [] ∷ [] ∷ [] ∷ [])
unfolding none_text unknown_text no_card_text day_before
row-45 = refl

row-46 : profile_row (take 21 commands) 3 ≡ Some ([] ∷ [] ∷ codes "(none)" ∷ [] ∷ [] ∷ [] ∷ [])
unfolding none_text unknown_text no_card_text day_before
row-46 = refl

row-47 : profile_row (take 21 commands) 4 ≡ None
unfolding none_text unknown_text no_card_text day_before
row-47 = refl

row-48 : dimension_row (take 21 commands) Customer 1 ≡ Some (dim_row 1 1 (codes "C9") 19000101 99991231 true (codes "Gold" ∷ codes "40-49" ∷ [] ∷ [] ∷ [] ∷ [] ∷ []) ([] ∷ [] ∷ [] ∷ [] ∷ [] ∷ [] ∷ []) 2)
unfolding none_text unknown_text no_card_text day_before
row-48 = refl

row-49 : dimension_row (take 21 commands) Customer 4 ≡ Some (dim_row 4 2 (codes "C8") 19000101 99991231 true (codes "Silver" ∷ codes "(none)" ∷ [] ∷ [] ∷ [] ∷ [] ∷ []) ([] ∷ [] ∷ [] ∷ [] ∷ [] ∷ [] ∷ []) 3)
unfolding none_text unknown_text no_card_text day_before
row-49 = refl

row-50 : dimension_row (take 21 commands) Customer 0 ≡ Some (dim_row 0 0 (codes "(no card)") 19000101 99991231 true (codes "(no card)" ∷ codes "(no card)" ∷ [] ∷ [] ∷ [] ∷ [] ∷ []) ([] ∷ [] ∷ [] ∷ [] ∷ [] ∷ [] ∷ []) 0)
unfolding none_text unknown_text no_card_text day_before
row-50 = refl

row-51 : dimension_row (take 22 commands) Customer 1 ≡ Some (dim_row 1 1 (codes "C9") 19000101 99991231 true (codes "Gold" ∷ [] ∷ [] ∷ [] ∷ [] ∷ [] ∷ []) ([] ∷ [] ∷ [] ∷ [] ∷ [] ∷ [] ∷ []) 0)
unfolding none_text unknown_text no_card_text day_before
row-51 = refl

row-52 : fact_row (take 22 commands) (codes "T2") 1 ≡ Some (fact (codes "T2") 20240610 (1, 9, 1) (1, 2, 1) 2 1 1000 700)
unfolding none_text unknown_text no_card_text day_before
row-52 = refl

-- the first row of a member's rows is the one above, with attributes of types 0, 1, 3, 6 and 7 in it; and that of a customer, with those of type 5
row-57 : at_place 1 (member_rows (take 16 commands) Product (codes "P1")) ≡ dimension_row (take 16 commands) Product 1
unfolding none_text unknown_text no_card_text day_before
row-57 = refl

row-58 : at_place 1 (member_rows (take 15 commands) Customer (codes "C9")) ≡ dimension_row (take 15 commands) Customer 1
unfolding none_text unknown_text no_card_text day_before
row-58 = refl

-- a member that a sale is the first to mention gets a greater number than those before it
number-1 : durable_key Product (take 11 commands) (codes "P9") ≡ 0
number-1 = refl

number-2 : length (members Product (take 11 commands)) ≡ 1
number-2 = refl

number-3 : durable_key Product (take 12 commands) (codes "P9") ≡ 2
number-3 = refl

-- a line that is withdrawn has no fact, and the row of the command that withdrew it; the other facts and all members stay
abbrev voided : List Accepted
voided = take 22 commands ++ accepted (codes "v1") (codes "void") (Withdraws (record { ticket = codes "T1"; line = 1 } ∷ [])) ∷ []

void-1 : fact_row voided (codes "T1") 1 ≡ None
unfolding none_text unknown_text no_card_text day_before
void-1 = refl

void-2 : void_row voided (codes "T1") 1 ≡ Some 23
unfolding none_text unknown_text no_card_text day_before
void-2 = refl

void-3 : fact_row voided (codes "T0") 1 ≡ fact_row (take 22 commands) (codes "T0") 1
unfolding none_text unknown_text no_card_text day_before
void-3 = refl

void-4 : void_row voided (codes "T0") 1 ≡ None
unfolding none_text unknown_text no_card_text day_before
void-4 = refl

void-5 : dimension_row voided Product 1 ≡ dimension_row (take 22 commands) Product 1
unfolding none_text unknown_text no_card_text day_before
void-5 = refl

-- trials under the policy of a trial that names none
row-53 : dimension_table (trial_commands trial_policy Product (told (codes "P1") 20240110 (codes "Cola 1l" ∷ codes "Acme" ∷ []) ∷ told (codes "P1") 20240201 (codes "Cola 1.0l" ∷ codes "Bolt" ∷ []) ∷ [])) Product ≡ dim_row 1 1 (codes "P1") 19000101 20240131 false (codes "Cola 1.0l" ∷ codes "Acme" ∷ [] ∷ [] ∷ [] ∷ [] ∷ []) ([] ∷ [] ∷ [] ∷ [] ∷ [] ∷ [] ∷ []) 0 ∷ dim_row 3 1 (codes "P1") 20240201 99991231 true (codes "Cola 1.0l" ∷ codes "Bolt" ∷ [] ∷ [] ∷ [] ∷ [] ∷ []) ([] ∷ [] ∷ [] ∷ [] ∷ [] ∷ [] ∷ []) 0 ∷ []
unfolding none_text unknown_text no_card_text day_before
row-53 = refl

row-54 : dimension_table (trial_commands trial_policy Product (told (codes "P1") 19000101 (codes "Cola 1l" ∷ codes "Acme" ∷ []) ∷ [])) Product ≡ dim_row 1 1 (codes "P1") 19000101 99991231 true (codes "Cola 1l" ∷ codes "Acme" ∷ [] ∷ [] ∷ [] ∷ [] ∷ []) ([] ∷ [] ∷ [] ∷ [] ∷ [] ∷ [] ∷ []) 0 ∷ []
unfolding none_text unknown_text no_card_text day_before
row-54 = refl

-- rows in order of surrogate key, where records come out of the order of their days
row-55 : dimension_table (trial_commands usual Product (told (codes "P1") 20240110 (codes "Cola 1l" ∷ codes "Acme" ∷ codes "Drinks" ∷ codes "Grocery" ∷ none_text ∷ codes "North" ∷ []) ∷ told (codes "P1") 20240401 (codes "Cola 1l" ∷ codes "Acme" ∷ codes "Soft drinks" ∷ codes "Grocery" ∷ codes "2019" ∷ codes "North" ∷ []) ∷ told (codes "P1") 20240201 (codes "Cola 1l" ∷ codes "Acme" ∷ codes "Drinks" ∷ codes "Food" ∷ codes "2020" ∷ codes "South" ∷ []) ∷ [])) Product ≡ dim_row 1 1 (codes "P1") 19000101 20240131 false (codes "Cola 1l" ∷ codes "Acme" ∷ codes "Drinks" ∷ codes "Grocery" ∷ codes "2019" ∷ codes "North" ∷ []) ([] ∷ [] ∷ codes "Soft drinks" ∷ [] ∷ [] ∷ codes "South" ∷ []) 0 ∷ dim_row 3 1 (codes "P1") 20240401 99991231 true (codes "Cola 1l" ∷ codes "Acme" ∷ codes "Soft drinks" ∷ codes "Grocery" ∷ codes "2019" ∷ codes "North" ∷ []) ([] ∷ [] ∷ codes "Soft drinks" ∷ [] ∷ [] ∷ codes "South" ∷ []) 0 ∷ dim_row 4 1 (codes "P1") 20240201 20240331 false (codes "Cola 1l" ∷ codes "Acme" ∷ codes "Drinks" ∷ codes "Food" ∷ codes "2019" ∷ codes "North" ∷ []) ([] ∷ [] ∷ codes "Soft drinks" ∷ [] ∷ [] ∷ codes "South" ∷ []) 0 ∷ []
unfolding none_text unknown_text no_card_text day_before
row-55 = refl

-- a table of customers begins with the row of sales without a card
row-56 : dimension_table (trial_commands usual Customer (told (codes "C9") 20240608 (codes "Gold" ∷ codes "30-39" ∷ codes "high" ∷ []) ∷ [])) Customer ≡ dim_row 0 0 (codes "(no card)") 19000101 99991231 true (codes "(no card)" ∷ [] ∷ [] ∷ [] ∷ [] ∷ [] ∷ []) ([] ∷ [] ∷ [] ∷ [] ∷ [] ∷ [] ∷ []) 0 ∷ dim_row 1 1 (codes "C9") 19000101 99991231 true (codes "Gold" ∷ [] ∷ [] ∷ [] ∷ [] ∷ [] ∷ []) ([] ∷ [] ∷ [] ∷ [] ∷ [] ∷ [] ∷ []) 2 ∷ []
unfolding none_text unknown_text no_card_text day_before
row-56 = refl
