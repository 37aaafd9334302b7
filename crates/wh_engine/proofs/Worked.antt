-- The tables of a small history: each lemma computes.
use Rattle.std.proofs.Common.{◌≡◌, ℕ, Bool, true, false, List, [], ◌∷◌, Some, None, refl, length}
use Rattle.std.specs.Prelude.{codes, pos, take, filter_map}
use Rattle.wh_day.specs.Day.{is_day, day_before}
use Rattle.wh_day.specs.Value.{none_text, unknown_text, no_card_text}
use Rattle.wh_policy.specs.Policy.{described}
use Rattle.wh_policy.specs.declared.format.Format.TheVariants.{One, Two}
use Rattle.wh_policy.specs.declared.policy.Policy.{Policy}
use Rattle.wh_policy.specs.declared.attribute.Dim.TheVariants.{Product, Store, Customer}
use Rattle.wh_policy.specs.declared.attribute.AttributeType.TheVariants.{NewRow, MiniDimensionOutrigger}
use Rattle.wh_policy.specs.declared.record.DimensionRecord.{DimensionRecord}
use Rattle.wh_history.specs.Accepted.{Accepted, Governs, Describes, profiles_of}
use Rattle.wh_history.specs.Tables.{Limits, dimension_row}
use Rattle.wh_history.specs.declared.rows.DimRow.{DimRow}
use Rattle.wh_model.specs.Defined.{meta_at, command_at, member_at, change_at, profile_at, calendar_at, fact_at}
use Rattle.wh_plan.specs.BatchRows.{numbers_after}

-- a policy of one attribute a dimension
abbrev pub policy : Policy
policy = record {
  product = described (codes "brand") NewRow ∷ [];
  store = described (codes "city") NewRow ∷ [];
  customer = described (codes "tier") NewRow ∷ [];
  years = record { first = 2023; last = 2026 };
  holidays = [];
}

abbrev told : List ℕ → ℕ → List ℕ → DimensionRecord
told natural day brand = record { natural = natural; day = day; values = brand ∷ [] }

-- a making, a batch of two days of P1, and one of a new product and a day of P1 between the two
abbrev commands : List Accepted
commands =
    record { id = codes "init"; kind = codes "init"; bytes = codes "policy"; content = Governs policy }
    ∷ record { id = codes "p1"; kind = codes "product"; bytes = codes "first"; content = Describes Product (told (codes "P1") 20240110 (codes "Acme") ∷ told (codes "P1") 20240201 (codes "Bolt") ∷ []) }
    ∷ record { id = codes "p2"; kind = codes "product"; bytes = codes "second"; content = Describes Product (told (codes "P2") 20240301 (codes "Leaf") ∷ told (codes "P1") 20240120 (codes "Bolt") ∷ []) }
    ∷ []

-- limits of small numbers
abbrev pub limits : Limits
limits = record { commands = 10; changes = 20; facts = 30 }

-- texts of one slot
abbrev slots : List ℕ → List (List ℕ)
slots text = text ∷ [] ∷ [] ∷ [] ∷ [] ∷ [] ∷ []

-- a row of a product: its number, the member, the days and whether it is current, and the brand
abbrev product_row : ℕ → ℕ → List ℕ → ℕ → ℕ → Bool → List ℕ → DimRow
product_row surrogate durable natural from to current brand = record {
  surrogate = surrogate;
  durable = durable;
  natural = natural;
  from_day = from;
  to_day = to;
  is_current = current;
  a = slots brand;
  b = slots [];
  profile_now = 0;
}

meta-format : meta_at One limits (codes "format") ≡ Some (record { name = codes "format"; value = pos 1 })
meta-format = refl

meta-format-2 : meta_at Two limits (codes "format") ≡ Some (record { name = codes "format"; value = pos 2 })
meta-format-2 = refl

meta-facts : meta_at One limits (codes "facts_max") ≡ Some (record { name = codes "facts_max"; value = pos 30 })
meta-facts = refl

meta-other : meta_at One limits (codes "facts") ≡ None
meta-other = refl

command-1 : command_at (take 2 commands) 1 ≡ Some (record { number = 1; id = codes "init"; kind = codes "init"; bytes = codes "policy"; records = 0; placeholders = 0 })
command-1 = refl

command-2 : command_at (take 2 commands) 2 ≡ Some (record { number = 2; id = codes "p1"; kind = codes "product"; bytes = codes "first"; records = 2; placeholders = 0 })
command-2 = refl

command-3 : command_at (take 2 commands) 3 ≡ None
command-3 = refl

member-1 : member_at (take 2 commands) (record { dim = Product; durable = 1 }) ≡ Some (record { dim = Product; durable = 1; natural = codes "P1"; opening = 1 })
member-1 = refl

member-2 : member_at (take 2 commands) (record { dim = Product; durable = 2 }) ≡ None
member-2 = refl

member-store : member_at (take 2 commands) (record { dim = Store; durable = 1 }) ≡ None
member-store = refl

change-2-1 : change_at (take 2 commands) (record { command = 2; place = 1 }) ≡ Some (record { command = 2; place = 1; dim = Product; durable = 1; day = 20240110; anchor = 2; values = slots (codes "Acme") })
change-2-1 = refl

change-2-2 : change_at (take 2 commands) (record { command = 2; place = 2 }) ≡ Some (record { command = 2; place = 2; dim = Product; durable = 1; day = 20240201; anchor = 3; values = slots (codes "Bolt") })
change-2-2 = refl

change-2-3 : change_at (take 2 commands) (record { command = 2; place = 3 }) ≡ None
change-2-3 = refl

change-1-1 : change_at (take 2 commands) (record { command = 1; place = 1 }) ≡ None
change-1-1 = refl

-- the number 2 is that of the earliest day, which begins no row
product-1 : dimension_row (take 2 commands) Product 1 ≡ Some (product_row 1 1 (codes "P1") 19000101 20240131 false (codes "Acme"))
unfolding none_text unknown_text no_card_text day_before
product-1 = refl

product-2 : dimension_row (take 2 commands) Product 2 ≡ None
unfolding none_text unknown_text no_card_text day_before
product-2 = refl

product-3 : dimension_row (take 2 commands) Product 3 ≡ Some (product_row 3 1 (codes "P1") 20240201 99991231 true (codes "Bolt"))
unfolding none_text unknown_text no_card_text day_before
product-3 = refl

customer-0 : dimension_row (take 2 commands) Customer 0 ≡ Some (record {
  surrogate = 0;
  durable = 0;
  natural = codes "(no card)";
  from_day = 19000101;
  to_day = 99991231;
  is_current = true;
  a = slots (codes "(no card)");
  b = slots [];
  profile_now = 0;
})
unfolding none_text unknown_text no_card_text day_before
customer-0 = refl

profile-1 : profile_at (take 2 commands) 1 ≡ Some (record { number = 1; values = slots [] })
unfolding unknown_text
profile-1 = refl

profile-2 : profile_at (take 2 commands) 2 ≡ None
profile-2 = refl

fact-none : fact_at (take 2 commands) (record { ticket = codes "T1"; line = 1 }) ≡ None
fact-none = refl

-- the edits of the second batch: what it writes of commands, members, changes and profiles
new-commands : filter_map (command_at commands) (numbers_after 2 3) ≡ record { number = 3; id = codes "p2"; kind = codes "product"; bytes = codes "second"; records = 2; placeholders = 0 } ∷ []
new-commands = refl

new-members : filter_map (λ n. member_at commands (record { dim = Product; durable = n })) (numbers_after 1 2) ≡ record { dim = Product; durable = 2; natural = codes "P2"; opening = 4 } ∷ []
new-members = refl

new-changes : filter_map (λ n. change_at commands (record { command = 3; place = n })) (numbers_after 0 2) ≡
    record { command = 3; place = 1; dim = Product; durable = 2; day = 20240301; anchor = 5; values = slots (codes "Leaf") }
    ∷ record { command = 3; place = 2; dim = Product; durable = 1; day = 20240120; anchor = 6; values = slots (codes "Bolt") }
    ∷ []
new-changes = refl

-- and the rows that it leads to: row 1 ends earlier, row 3 is gone, and rows 4 and 6 are new
later-product-1 : dimension_row commands Product 1 ≡ Some (product_row 1 1 (codes "P1") 19000101 20240119 false (codes "Acme"))
unfolding none_text unknown_text no_card_text day_before
later-product-1 = refl

later-product-3 : dimension_row commands Product 3 ≡ None
unfolding none_text unknown_text no_card_text day_before
later-product-3 = refl

later-product-4 : dimension_row commands Product 4 ≡ Some (product_row 4 2 (codes "P2") 19000101 99991231 true (codes "Leaf"))
unfolding none_text unknown_text no_card_text day_before
later-product-4 = refl

later-product-5 : dimension_row commands Product 5 ≡ None
unfolding none_text unknown_text no_card_text day_before
later-product-5 = refl

later-product-6 : dimension_row commands Product 6 ≡ Some (product_row 6 1 (codes "P1") 20240120 99991231 true (codes "Bolt"))
unfolding none_text unknown_text no_card_text day_before
later-product-6 = refl

-- a batch of customers, where an attribute is of the profile
abbrev profiled : Policy
profiled = record policy { customer = described (codes "tier") NewRow ∷ described (codes "age_band") MiniDimensionOutrigger ∷ [] }

abbrev told_of : List ℕ → ℕ → List ℕ → List ℕ → DimensionRecord
told_of natural day tier age = record { natural = natural; day = day; values = tier ∷ age ∷ [] }

abbrev with_customers : List Accepted
with_customers =
    record { id = codes "init"; kind = codes "init"; bytes = codes "policy"; content = Governs profiled }
    ∷ record {
      id = codes "c1";
      kind = codes "customer";
      bytes = codes "first";
      content = Describes Customer (told_of (codes "C1") 20240110 (codes "Gold") (codes "30-39") ∷ told_of (codes "C2") 20240111 (codes "Gold") (codes "40-49") ∷ told_of (codes "C1") 20240201 (codes "Gold") (codes "40-49") ∷ []);
    }
    ∷ []

-- profiles have numbers from 2 on
new-profiles : filter_map (profile_at with_customers) (numbers_after 1 3) ≡ record { number = 2; values = [] ∷ codes "30-39" ∷ [] ∷ [] ∷ [] ∷ [] ∷ [] } ∷ record { number = 3; values = [] ∷ codes "40-49" ∷ [] ∷ [] ∷ [] ∷ [] ∷ [] } ∷ []
unfolding none_text
new-profiles = refl

combinations : length (profiles_of with_customers) ≡ 2
unfolding none_text
combinations = refl

profile-0 : profile_at with_customers 0 ≡ Some (record { number = 0; values = [] ∷ codes "(no card)" ∷ [] ∷ [] ∷ [] ∷ [] ∷ [] })
unfolding no_card_text
profile-0 = refl

customer-1 : dimension_row with_customers Customer 1 ≡ Some (record {
  surrogate = 1;
  durable = 1;
  natural = codes "C1";
  from_day = 19000101;
  to_day = 99991231;
  is_current = true;
  a = slots (codes "Gold");
  b = slots [];
  profile_now = 3;
})
unfolding none_text unknown_text no_card_text day_before
customer-1 = refl

member-customer : member_at with_customers (record { dim = Customer; durable = 2 }) ≡ Some (record { dim = Customer; durable = 2; natural = codes "C2"; opening = 3 })
member-customer = refl

-- no day of the calendar is outside the policy's years, and without a policy there is none
calendar-outside : calendar_at (take 2 commands) 20270101 ≡ None
unfolding is_day
calendar-outside = refl

calendar-none : calendar_at [] 20240101 ≡ None
calendar-none = refl
