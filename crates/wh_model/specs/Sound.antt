-- What holds of every list of accepted commands, as far as batches go.
use Rattle.std.specs.Prelude.{◌≡◌, ◌≢◌, ℕ, ◌+◌, ◌*◌, ◌≤◌, ◌==◌, ◌&&◌, Bool, true, false, Some, None, Ok, List, [], ◌∷◌, length, map, IsSome, bytes_eq, codes}
use Rattle.std.specs.List.{AllByRecursion, IsDistinct, list_any}
use Rattle.wh_day.specs.Day.{is_day}
use Rattle.wh_policy.specs.declared.attribute.Dim.{Dim}
use Rattle.wh_policy.specs.declared.attribute.Dim.TheVariants.{Product, Store, Customer}
use Rattle.wh_policy.specs.declared.format.Format.TheVariants.{One}
use Rattle.wh_policy.specs.declared.policy.Policy.{Policy}
use Rattle.wh_policy.specs.declared.record.DimensionRecord.{DimensionRecord}
use Rattle.wh_policy.specs.declared.record.SaleRecord.{SaleRecord}
use Rattle.wh_policy.specs.declared.record.VoidRecord.{VoidRecord}
use Rattle.wh_policy.specs.Policy.{read_policy, policy_types}
use Rattle.wh_policy.specs.Written.{IsSound}
use Rattle.wh_policy.specs.declared.attribute.AttributeType.{AttributeType}
use Rattle.wh_history.specs.Accepted.{Accepted, Content, Governs, Describes, Sells, Upgrades, Withdraws, policy_after, format_of, types_in, described, member_of_sale, sold, withdrawn}
use Rattle.wh_history.specs.Tables.{Limits}
use Rattle.wh_rows.specs.Limits.{are_limits}
use Rattle.wh_rows.specs.Questions.{gives_policy}
use Rattle.wh_rows.specs.Types.{is_key, is_kind, is_discount, is_line, is_measure, is_slot}

-- these are the types of a dimension's slots under the policy in force, which is sound
pub record AreTypes (commands : List Accepted) (dim : Dim) (kinds : List AttributeType) : Type 0 where
  pub policy : Policy
  pub governed : policy_after None commands ≡ Some policy
  pub sound : IsSound policy
  pub are : kinds ≡ policy_types policy dim

-- a value that a record gives: a text that a slot can hold, and not the empty one
abbrev pub IsGivenValue : List ℕ → Type 0
IsGivenValue text = (is_slot text ≡ true) × (text ≢ [])

-- a record that a batch can hold
pub record IsGoodRecord (r : DimensionRecord) : Type 0 where
  pub natural : is_key 32 r.natural ≡ true
  pub day : is_day r.day ≡ true
  pub few : length r.values ≤ 6
  pub values : AllByRecursion IsGivenValue r.values

-- a sale that a batch can hold
pub record IsGoodSale (s : SaleRecord) : Type 0 where
  pub ticket : is_key 20 s.ticket ≡ true
  pub line : is_line s.line ≡ true
  pub day : is_day s.day ≡ true
  pub members : (dim : Dim) (natural : List ℕ) → member_of_sale dim s ≡ Some natural → is_key 32 natural ≡ true
  pub quantity : is_measure 9999 s.quantity ≡ true
  pub amount : is_measure 999999999 s.amount ≡ true
  pub cost : is_measure 999999999 s.cost ≡ true
  pub discount : is_discount s.discount ≡ true

-- two sales have one line of one ticket
abbrev pub same_line : SaleRecord → SaleRecord → Bool
same_line a b = bytes_eq b.ticket a.ticket && (b.line == a.line)

-- two voids name one line of one ticket
abbrev pub same_void : VoidRecord → VoidRecord → Bool
same_void a b = bytes_eq b.ticket a.ticket && (b.line == a.line)

-- one of the sales has the line that a void names
abbrev pub is_sold_line : List SaleRecord → VoidRecord → Bool
is_sold_line sales v = list_any (λ s. bytes_eq s.ticket v.ticket && (s.line == v.line)) sales

-- how many dimension records were accepted
abbrev pub changes_kept : List Accepted → ℕ
changes_kept commands = length (described Product commands) + length (described Store commands) + length (described Customer commands)

-- the command that a making is
abbrev pub init_of : Policy → List ℕ → Accepted
init_of policy bytes = record { id = codes "init"; kind = codes "init"; bytes = bytes; content = Governs policy }

-- It begins with a making under the policy of its bytes.
pub record IsBegun (commands : List Accepted) : Type 0 where
  pub policy : Policy
  pub bytes : List ℕ
  pub rest : List Accepted
  pub making : commands ≡ init_of policy bytes ∷ rest
  pub written : read_policy bytes ≡ Ok policy

-- a making or a migration gives the policy of its bytes, and no other command gives one
abbrev pub GivesPolicy : (kind bytes : List ℕ) → Content → Type 0
GivesPolicy kind bytes (Governs policy) = (gives_policy kind ≡ true) × (read_policy bytes ≡ Ok policy)
GivesPolicy kind bytes (Describes dim records) = gives_policy kind ≡ false
GivesPolicy kind bytes (Sells sales) = gives_policy kind ≡ false
GivesPolicy kind bytes Upgrades = gives_policy kind ≡ false
GivesPolicy kind bytes (Withdraws lines) = gives_policy kind ≡ false

-- The list is one that a warehouse with these limits can have accepted: it begins with a making, and makings and migrations give the policies of their bytes, with up to six attributes a dimension; ids and kinds are well
-- formed, no two commands share an id; its records and sales are good, no two sales have one line, none has a discount in the first format, and no batch has more than 5,000; what was withdrawn are lines of its sales, once each, and none in the first format; the limits aren't passed.
pub record IsAccepted (limits : Limits) (commands : List Accepted) : Type 0 where
  pub limited : are_limits limits ≡ true
  pub commands_within : length commands ≤ limits.commands
  pub changes_within : changes_kept commands ≤ limits.changes
  pub facts_within : length (sold commands) ≤ limits.facts
  pub few_a_batch : changes_kept commands ≤ length commands * 5000
  pub few_sales_a_batch : length (sold commands) ≤ length commands * 5000
  pub begun : IsBegun commands
  pub policies : AllByRecursion (λ c. GivesPolicy c.kind c.bytes c.content) commands
  pub governed : IsSome (policy_after None commands)
  pub six : (dim : Dim) → length (types_in dim commands) ≤ 6
  pub ids : AllByRecursion (λ c. is_key 40 c.id ≡ true) commands
  pub kinds : AllByRecursion (λ c. is_kind c.kind ≡ true) commands
  pub distinct : IsDistinct bytes_eq (map (λ c. c.id) commands)
  pub records : (dim : Dim) → AllByRecursion IsGoodRecord (described dim commands)
  pub sales : AllByRecursion IsGoodSale (sold commands)
  pub lines : IsDistinct same_line (sold commands)
  pub undiscounted : format_of commands ≡ One → AllByRecursion (λ s. s.discount ≡ 0) (sold commands)
  pub withdrawn_sold : AllByRecursion (λ v. is_sold_line (sold commands) v ≡ true) (withdrawn commands)
  pub withdrawn_once : IsDistinct same_void (withdrawn commands)
  pub unwithdrawn : format_of commands ≡ One → withdrawn commands ≡ []
