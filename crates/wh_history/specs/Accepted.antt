-- The accepted commands, and what they say of members.
use Rattle.std.specs.Prelude.{ℕ, ◌+◌, ◌-◌, Bool, true, false, if◌then◌else◌, ◌==◌, ◌&&◌, not, List, [], ◌∷◌, ◌++◌, map, flat_map, filter, length, take, Option, Some, None, option_map, option_to_list, unwrap_or, bytes_eq, nat_eq}
use Rattle.std.specs.List.{list_any}
use Rattle.wh_day.specs.Value.{none_text}
use Rattle.wh_policy.specs.Policy.{policy_types}
use Rattle.wh_policy.specs.declared.format.Format.{Format}
use Rattle.wh_policy.specs.declared.format.Format.TheVariants.{One, Two}
use Rattle.wh_policy.specs.declared.policy.Policy.{Policy}
use Rattle.wh_policy.specs.declared.attribute.Dim.{Dim}
use Rattle.wh_policy.specs.declared.attribute.Dim.TheVariants.{Product, Store, Customer}
use Rattle.wh_policy.specs.declared.attribute.AttributeType.{AttributeType}
use Rattle.wh_policy.specs.declared.record.DimensionRecord.{DimensionRecord}
use Rattle.wh_policy.specs.declared.record.SaleRecord.{SaleRecord}
use Rattle.wh_policy.specs.declared.record.VoidRecord.{VoidRecord}
use Rattle.wh_history.specs.Keys.{distinct, place}
use Rattle.wh_history.specs.Slots.{padded}
use Rattle.wh_history.specs.Profiles.{combinations_of}
use Rattle.wh_history.specs.declared.member.Change.{Change}
use Rattle.wh_history.specs.declared.member.Member.{Member}

-- what a command holds: a making or a migration gives a policy, an upgrade the second format, and a batch of voids the lines that it withdraws
pub data Content : Type 0 where
  Governs : (policy : Policy) → Content
  Describes : (dim : Dim) (records : List DimensionRecord) → Content
  Sells : (sales : List SaleRecord) → Content
  Upgrades : Content
  Withdraws : (lines : List VoidRecord) → Content

-- an accepted command; its number is its place in the list, from 1
pub record Accepted : Type 0 where
  pub id : List ℕ
  pub kind : List ℕ
  pub bytes : List ℕ
  pub content : Content

abbrev pub same_dim : Dim → Dim → Bool
same_dim Product Product = true
same_dim Product Store = false
same_dim Product Customer = false
same_dim Store Product = false
same_dim Store Store = true
same_dim Store Customer = false
same_dim Customer Product = false
same_dim Customer Store = false
same_dim Customer Customer = true

-- the policy of a command, or else the one before
abbrev pub governed : Option Policy → Content → Option Policy
governed before (Governs policy) = Some policy
governed before (Describes dim records) = before
governed before (Sells sales) = before
governed before Upgrades = before
governed before (Withdraws lines) = before

-- the policy that commands leave in force
abbrev pub policy_after : Option Policy → List Accepted → Option Policy
policy_after before [] = before
policy_after before (c ∷ cs) = policy_after (governed before c.content) cs

-- the format after a command, and after commands: a making makes the first, and an upgrade the second
abbrev pub formatted : Format → Content → Format
formatted before (Governs policy) = before
formatted before (Describes dim records) = before
formatted before (Sells sales) = before
formatted before Upgrades = Two
formatted before (Withdraws lines) = before

abbrev pub format_after : Format → List Accepted → Format
format_after before [] = before
format_after before (c ∷ cs) = format_after (formatted before c.content) cs

abbrev pub format_of : List Accepted → Format
format_of commands = format_after One commands

-- the types of a dimension's slots under the policy in force
abbrev pub types_in : Dim → List Accepted → List AttributeType
types_in dim commands = unwrap_or (option_map (λ policy. policy_types policy dim) (policy_after None commands)) []

-- the records of a dimension that a command holds
abbrev pub described_by : Dim → Content → List DimensionRecord
described_by dim (Governs policy) = []
described_by dim (Describes other records) = if same_dim dim other then records else []
described_by dim (Sells sales) = []
described_by dim Upgrades = []
described_by dim (Withdraws lines) = []

-- all records of a dimension, in order of acceptance
abbrev pub described : Dim → List Accepted → List DimensionRecord
described dim commands = flat_map (λ c. described_by dim c.content) commands

-- the sales that a command holds
abbrev pub sold_by : Content → List SaleRecord
sold_by (Governs policy) = []
sold_by (Describes dim records) = []
sold_by (Sells sales) = sales
sold_by Upgrades = []
sold_by (Withdraws lines) = []

-- all sales, in order of acceptance
abbrev pub sold : List Accepted → List SaleRecord
sold commands = flat_map (λ c. sold_by c.content) commands

-- the lines of tickets that a command withdraws
abbrev pub withdrawn_by : Content → List VoidRecord
withdrawn_by (Governs policy) = []
withdrawn_by (Describes dim records) = []
withdrawn_by (Sells sales) = []
withdrawn_by Upgrades = []
withdrawn_by (Withdraws lines) = lines

-- all withdrawn lines, in order of acceptance
abbrev pub withdrawn : List Accepted → List VoidRecord
withdrawn commands = flat_map (λ c. withdrawn_by c.content) commands

-- a ticket's line is withdrawn by these voids
abbrev pub withdraws_line : List ℕ → ℕ → List VoidRecord → Bool
withdraws_line ticket line voids = list_any (λ v. bytes_eq v.ticket ticket && (v.line == line)) voids

-- the sales that stand: those whose lines no void withdraws
abbrev pub standing_but : List VoidRecord → List SaleRecord → List SaleRecord
standing_but voids sales = filter (λ s. not (withdraws_line s.ticket s.line voids)) sales

abbrev pub standing : List Accepted → List SaleRecord
standing commands = standing_but (withdrawn commands) (sold commands)

-- the member of a dimension that a sale mentions, if it does
abbrev pub member_of_sale : Dim → SaleRecord → Option (List ℕ)
member_of_sale Product s = Some s.product
member_of_sale Store s = Some s.store
member_of_sale Customer s = s.customer

-- a member's opening, or one of its days
pub record Anchor : Type 0 where
  pub natural : List ℕ
  pub day : Option ℕ

abbrev pub same_day : Option ℕ → Option ℕ → Bool
same_day None None = true
same_day None (Some e) = false
same_day (Some d) None = false
same_day (Some d) (Some e) = nat_eq d e

abbrev pub same_anchor : Anchor → Anchor → Bool
same_anchor a b = bytes_eq a.natural b.natural && same_day a.day b.day

abbrev pub opening_of : List ℕ → Anchor
opening_of natural = record { natural = natural; day = None }

abbrev pub day_of : List ℕ → ℕ → Anchor
day_of natural day = record { natural = natural; day = Some day }

-- the anchors that a record and a sale mention, a member's opening before its day
abbrev pub anchors_of_record : DimensionRecord → List Anchor
anchors_of_record r = opening_of r.natural ∷ day_of r.natural r.day ∷ []

abbrev pub anchors_of_sale : Dim → SaleRecord → List Anchor
anchors_of_sale dim s = map opening_of (option_to_list (member_of_sale dim s))

-- those of a command
abbrev pub anchors_by : Dim → Content → List Anchor
anchors_by dim content = flat_map anchors_of_record (described_by dim content) ++ flat_map (anchors_of_sale dim) (sold_by content)

-- all mentions of a dimension's anchors, in order
abbrev pub mentions : Dim → List Accepted → List Anchor
mentions dim commands = flat_map (λ c. anchors_by dim c.content) commands

-- the dimension's anchors and members, each once, in order of first mention
abbrev pub anchors : Dim → List Accepted → List Anchor
anchors dim commands = distinct same_anchor (mentions dim commands)

abbrev pub members : Dim → List Accepted → List (List ℕ)
members dim commands = distinct bytes_eq (map (λ a. a.natural) (mentions dim commands))

-- a member's number, and an anchor's
abbrev pub durable_key : Dim → List Accepted → List ℕ → ℕ
durable_key dim commands natural = place bytes_eq natural (members dim commands)

abbrev pub surrogate_key : Dim → List Accepted → Anchor → ℕ
surrogate_key dim commands anchor = place same_anchor anchor (anchors dim commands)

-- a record as a change of its member
abbrev pub change_of : Dim → List Accepted → DimensionRecord → Change
change_of dim commands r = record { day = r.day; anchor = surrogate_key dim commands (day_of r.natural r.day); values = padded none_text r.values }

-- all that was accepted of a member, in order of acceptance
abbrev pub changes_of : Dim → List Accepted → List ℕ → List Change
changes_of dim commands natural = map (change_of dim commands) (filter (λ r. bytes_eq r.natural natural) (described dim commands))

abbrev pub member_of : Dim → List Accepted → List ℕ → Member
member_of dim commands natural = record {
  durable = durable_key dim commands natural;
  natural = natural;
  opening = surrogate_key dim commands (opening_of natural);
  changes = changes_of dim commands natural;
}

-- the combinations of profile values, under the policy in force
abbrev pub profiles_of : List Accepted → List (List (List ℕ))
profiles_of commands = combinations_of (types_in Customer commands) (described Customer commands)

-- how many members a command's sales first mentioned: the members with it, without those before it
abbrev pub members_after : List Accepted → ℕ
members_after commands = length (members Product commands) + length (members Store commands) + length (members Customer commands)

abbrev pub placeholders_by : List Accepted → ℕ → Content → ℕ
placeholders_by commands number (Governs policy) = 0
placeholders_by commands number (Describes dim records) = 0
placeholders_by commands number (Sells sales) = members_after (take number commands) - members_after (take (number - 1) commands)
placeholders_by commands number Upgrades = 0
placeholders_by commands number (Withdraws lines) = 0

-- how many records a command holds
abbrev pub records_by : Content → ℕ
records_by (Governs policy) = 0
records_by (Describes dim records) = length records
records_by (Sells sales) = length sales
records_by Upgrades = 0
records_by (Withdraws lines) = length lines
