-- What holds of the tables that accepted commands define.
use Rattle.std.specs.Prelude.{◌≡◌, ◌≢◌, ◌↔◌, ◌<◌, ℕ, ◌==◌, ◌&&◌, true, false, if◌then◌else◌, List, [], ◌∷◌, ◌++◌, Option, Some, None, Ok, option_map, unwrap_or, find, bytes_eq}
use Rattle.std.specs.List.{list_any}
use Rattle.wh_policy.specs.Policy.{read_policy}
use Rattle.wh_policy.specs.Types.{is_outrigger}
use Rattle.wh_policy.specs.Written.{IsSound}
use Rattle.wh_policy.specs.declared.policy.Policy.{Policy}
use Rattle.wh_policy.specs.declared.attribute.Dim.{Dim}
use Rattle.wh_policy.specs.declared.attribute.Dim.TheVariants.{Product, Store, Customer}
use Rattle.wh_policy.specs.declared.record.DimensionRecord.{DimensionRecord}
use Rattle.wh_policy.specs.declared.record.SaleRecord.{SaleRecord}
use Rattle.wh_policy.specs.declared.record.VoidRecord.{VoidRecord}
use Rattle.wh_history.specs.Accepted.{Accepted, Describes, Withdraws, policy_after, format_of, types_in, durable_key, member_of, member_of_sale, sold, standing, withdrawn, withdraws_line}
use Rattle.wh_history.specs.Facts.{new_keys}
use Rattle.wh_history.specs.Shapes.{shape_after, rendered_in}
use Rattle.wh_history.specs.Keys.{at_place}
use Rattle.wh_history.specs.Laws.{IsEffective, governs, mentions_member}
use Rattle.wh_history.specs.Tables.{Limits, dimension_row, profile_at, fact_of}
use Rattle.wh_history.specs.declared.facts.Fact.{Fact}
use Rattle.wh_history.specs.declared.rows.DimRow.{DimRow}
use Rattle.std.specs.FinMap.{get}
use Rattle.wh_rows.specs.declared.key.ChangeKey.{ChangeKey}
use Rattle.wh_rows.specs.declared.key.LineKey.{LineKey}
use Rattle.wh_rows.specs.declared.key.MemberKey.{MemberKey}
use Rattle.wh_rows.specs.declared.rows.CommandRow.{CommandRow}
use Rattle.wh_rows.specs.declared.rows.MemberRow.{MemberRow}
use Rattle.wh_rows.specs.Limits.{are_limits}
use Rattle.wh_rows.specs.Tables.{Tables}
use Rattle.wh_model.specs.Defined.{member_at, change_at, profile_at as profile_row_at, fact_at, fact_in, AreOf}
use Rattle.wh_model.specs.Sound.{init_of, same_line, IsAccepted}

-- the rows of a dimension show no profile
abbrev pub ShowsNoProfile : List Accepted → Dim → Type 0
ShowsNoProfile commands dim = list_any is_outrigger (types_in dim commands) ≡ false

-- A row of a member that a batch does not mention stands under its key in the tables of the commands so far exactly where it stands
-- there in those of the commands with it; again where rows of products and stores show no profile.
abbrev pub UntouchedMembersKeep : Type 0
UntouchedMembersKeep = (commands : List Accepted) (c : Accepted) (dim : Dim) (natural : List ℕ) (key : ℕ) (r : DimRow)
    → governs c.content ≡ false
    → (dim ≢ Customer → ShowsNoProfile commands dim)
    → mentions_member dim c natural ≡ false
    → r.natural ≡ natural
    → (dimension_row commands dim key ≡ Some r) ↔ (dimension_row (commands ++ c ∷ []) dim key ≡ Some r)

-- The rows of products and stores show no profile where the policy in force is sound, as every policy that is read is.
abbrev pub SoundPoliciesShowNone : Type 0
SoundPoliciesShowNone = (commands : List Accepted) → ((policy : Policy) → policy_after None commands ≡ Some policy → IsSound policy) → ShowsNoProfile commands Product × ShowsNoProfile commands Store

-- A making under a policy that was read begins such a list.
abbrev pub AcceptedListsBegin : Type 0
AcceptedListsBegin = (limits : Limits) (policy : Policy) (bytes : List ℕ) → are_limits limits ≡ true → read_policy bytes ≡ Ok policy → IsAccepted limits (init_of policy bytes ∷ [])

-- In the tables of accepted commands no two commands have one id, and no two members of a dimension one natural key: no row that is put
-- meets a second key that is taken.
abbrev pub SecondKeysAreApart : Type 0
SecondKeysAreApart = (limits : Limits) (commands : List Accepted) (t : Tables) → IsAccepted limits commands → AreOf limits commands t
    → ((a b : ℕ) (v w : CommandRow) → get t.command a ≡ Some v → get t.command b ≡ Some w → v.id ≡ w.id → a ≡ b)
    × ((a b : MemberKey) (v w : MemberRow) → get t.member a ≡ Some v → get t.member b ≡ Some w → a.dim ≡ b.dim → v.natural ≡ w.natural → a.durable ≡ b.durable)

-- what holds of the tables after a batch of voids: all rows of members, records and profiles are those before it, and of the facts those of its lines are gone
pub record TakesOutFacts (before after : List Accepted) (lines : List VoidRecord) : Type 0 where
  pub rows : (dim : Dim) (key : ℕ) → dimension_row after dim key ≡ dimension_row before dim key
  pub members : (key : MemberKey) → member_at after key ≡ member_at before key
  pub changes : (key : ChangeKey) → change_at after key ≡ change_at before key
  pub profiles : (number : ℕ) → profile_row_at after number ≡ profile_row_at before number
  pub facts : (key : LineKey) → fact_at after key ≡ if withdraws_line key.ticket key.line lines then None else fact_at before key

-- A batch of voids changes no member and no number: members that only its sales mentioned stay.
abbrev pub VoidsTakeOutFacts : Type 0
VoidsTakeOutFacts = (commands : List Accepted) (c : Accepted) (lines : List VoidRecord) → c.content ≡ Withdraws lines → TakesOutFacts commands (commands ++ c ∷ []) lines

-- A line that was withdrawn stays one that was sold, so that no batch sells it again.
abbrev pub WithdrawnLinesStaySold : Type 0
WithdrawnLinesStaySold = (limits : Limits) (commands : List Accepted) (s : SaleRecord) → IsAccepted limits commands → withdraws_line s.ticket s.line (withdrawn commands) ≡ true → list_any (λ t. same_line t s) (sold commands) ≡ true

-- a fact with the keys that its member's rows of a dimension give it, and the profile of its day where that is customer; a sale without a card keeps its zeros
abbrev pub followed : List Accepted → Dim → SaleRecord → Fact → Fact
followed commands dim s f =
    unwrap_or (option_map (λ natural. record f { keys = new_keys (shape_after dim commands) (rendered_in (shape_after dim commands) (member_of dim commands natural)) f }) (member_of_sale dim s)) f

-- After a batch of records each stored fact has the keys that its member's rows of that dimension then give it, and its other keys as they were.
abbrev pub LateRecordsMoveFacts : Type 0
LateRecordsMoveFacts = (commands : List Accepted) (c : Accepted) (dim : Dim) (records : List DimensionRecord) (number : ℕ) (s : SaleRecord)
    → c.content ≡ Describes dim records
    → (dim ≡ Customer → ShowsNoProfile commands Product × ShowsNoProfile commands Store)
    → at_place number (sold commands) ≡ Some s
    → fact_of (commands ++ c ∷ []) s ≡ followed (commands ++ c ∷ []) dim s (fact_of commands s)

-- the sale that stands in a line: the one that was sold there, where it was not withdrawn
abbrev pub standing_at : List Accepted → LineKey → Option SaleRecord
standing_at commands key = find (λ s. bytes_eq s.ticket key.ticket && (s.line == key.line)) (standing commands)

-- what holds of a line after a batch of records: the fact of the sale that stands there moved, and where there was no fact there is none
pub record MovesStandingFact (before after : List Accepted) (dim : Dim) (key : LineKey) : Type 0 where
  pub moved : fact_at after key ≡ option_map (λ s. followed after dim s (fact_of before s)) (standing_at before key)
  pub none : fact_at before key ≡ None → fact_at after key ≡ None

-- A batch of records moves facts of sales that stand and no others: no line gets a fact by it, be it one that was never sold or one that was withdrawn.
abbrev pub LateRecordsMoveStandingFacts : Type 0
LateRecordsMoveStandingFacts = (commands : List Accepted) (c : Accepted) (dim : Dim) (records : List DimensionRecord) (key : LineKey)
    → c.content ≡ Describes dim records
    → (dim ≡ Customer → ShowsNoProfile commands Product × ShowsNoProfile commands Store)
    → MovesStandingFact commands (commands ++ c ∷ []) dim key

-- what a fact names of a member: its durable key, which is not 0, and its one row that holds the day
pub record NamesMember (commands : List Accepted) (dim : Dim) (natural : List ℕ) (day durable key : ℕ) : Type 0 where
  pub member : durable ≡ durable_key dim commands natural
  pub numbered : 0 < durable
  pub row : IsEffective commands dim durable day key

-- what it names of its customer: the member that has the sale's card, and its profile of the day; without a card the row 0, with no member and no profile
abbrev pub NamesCustomer : List Accepted → Option (List ℕ) → Fact → Type 0
NamesCustomer commands (Some card) f = NamesMember commands Customer card f.day f.customer_durable f.keys.customer_key × (f.keys.profile ≡ profile_at commands f.day card)
NamesCustomer commands None f = (f.customer_durable ≡ 0) × (f.keys.customer_key ≡ 0) × (f.keys.profile ≡ 0)

-- the fact of a sale is of its day, and names the members that the sale names
pub record NamesItsMembers (commands : List Accepted) (s : SaleRecord) (f : Fact) : Type 0 where
  pub day : f.day ≡ s.day
  pub product : NamesMember commands Product s.product f.day f.product_durable f.keys.product_key
  pub store : NamesMember commands Store s.store f.day f.store_durable f.keys.store_key
  pub customer : NamesCustomer commands s.customer f

-- the sale was accepted, is the one of this ticket and line, and was not withdrawn
pub record IsSoldAt (commands : List Accepted) (key : LineKey) (s : SaleRecord) : Type 0 where
  pub number : ℕ
  pub there : at_place number (sold commands) ≡ Some s
  pub ticket : s.ticket ≡ key.ticket
  pub line : s.line ≡ key.line
  pub stands : withdraws_line key.ticket key.line (withdrawn commands) ≡ false

-- Each fact is that of an accepted sale of its line that was not withdrawn, and names in each dimension the one row of the sale's member that holds the sale's day; without a card it names the customer row 0.
abbrev pub FactsAreEffective : Type 0
FactsAreEffective = (limits : Limits) (commands : List Accepted) (key : LineKey) (f : Fact)
    → IsAccepted limits commands
    → fact_at commands key ≡ Some f
    → (s : SaleRecord) × IsSoldAt commands key s × NamesItsMembers commands s f

-- the fact has the line, the day and the figures with which the sale was sold
pub record HasItsFigures (s : SaleRecord) (f : Fact) : Type 0 where
  pub ticket : f.ticket ≡ s.ticket
  pub line : f.line ≡ s.line
  pub day : f.day ≡ s.day
  pub quantity : f.quantity ≡ s.quantity
  pub amount : f.amount ≡ s.amount
  pub cost : f.cost ≡ s.cost
  pub discount : f.discount ≡ s.discount

-- the sale has its fact: in the table of the format in force one stands under its ticket and line, with its figures and the rows of its members
pub record HasItsFact (commands : List Accepted) (key : LineKey) (s : SaleRecord) : Type 0 where
  pub fact : Fact
  pub there : fact_in (format_of commands) commands key ≡ Some fact
  pub figures : HasItsFigures s fact
  pub names : NamesItsMembers commands s fact

-- Each accepted sale whose line was not withdrawn has its fact: none is lost, and none has other figures.
abbrev pub FactsAreWhole : Type 0
FactsAreWhole = (limits : Limits) (commands : List Accepted) (key : LineKey) (s : SaleRecord)
    → IsAccepted limits commands
    → IsSoldAt commands key s
    → HasItsFact commands key s
