-- The members that a batch of sales mentions, and what they give its facts.
use Rattle.std.specs.Prelude.{◌≡◌, ◌≤◌, ℕ, ◌-◌, nat_lt, if◌then◌else◌, List, [], ◌∷◌, ◌++◌, map, filter_map, length, Option, None, Some, Result, IfOk, option_map, unwrap_or, slice_get, find, bytes_eq}
use Rattle.std.specs.List.{list_any}
use Rattle.std.specs.Option.{option_and_then}
use Rattle.wh_policy.specs.declared.attribute.Dim.{Dim}
use Rattle.wh_policy.specs.declared.policy.Policy.{Policy}
use Rattle.wh_policy.specs.declared.record.SaleRecord.{SaleRecord}
use Rattle.wh_policy.specs.Written.{IsSound}
use Rattle.wh_history.specs.Accepted.{Accepted, Sells, members, anchors, member_of_sale, member_of, policy_after}
use Rattle.wh_history.specs.Facts.{keys_on}
use Rattle.wh_history.specs.Keys.{distinct, greatest_number}
use Rattle.wh_history.specs.Shapes.{Shape, RenderedMember, shape_after, rendered_in}
use Rattle.wh_history.specs.Tables.{dimension_row}
use Rattle.wh_history.specs.Touched.{grown, with_numbers}
use Rattle.wh_history.specs.declared.facts.Fact.{Fact}
use Rattle.wh_history.specs.declared.facts.MemberKeys.{MemberKeys}
use Rattle.wh_history.specs.declared.member.Member.{Member}
use Rattle.wh_history.specs.declared.plan.Edit.TheVariants.{Put}
use Rattle.wh_history.specs.declared.rows.DimRow.{DimRow}
use Rattle.wh_sql.specs.declared.fault.ReadFault.{ReadFault}
use Rattle.wh_model.specs.Defined.{member_at}
use Rattle.wh_plan.specs.BatchRows.{numbers_after}
use Rattle.wh_plan.specs.Reading.{HaveNoEmptyValue}
use Rattle.wh_plan.specs.declared.sales.sold_dimension.SoldDimension.{SoldDimension}

-- the members of a dimension that sales mention, each once, in order of first mention
abbrev pub naturals_sold : Dim → List SaleRecord → List (List ℕ)
naturals_sold dim sales = distinct bytes_eq (filter_map (member_of_sale dim) sales)

-- members with numbers, given in their order
abbrev pub numbered : ℕ → ℕ → List Member → List Member
numbered members anchors [] = []
numbered members anchors (m ∷ ms) = with_numbers members anchors m ∷ numbered (grown m.durable members) (grown m.opening anchors) ms

-- a member's last row
abbrev pub last_row : List DimRow → Option DimRow
last_row rs = slice_get rs (length rs - 1)

-- the row of a member whose durable key comes after those of so many: no record describes it, so it has one
abbrev pub placeholder : ℕ → RenderedMember → Option DimRow
placeholder before m = if nat_lt before m.member.durable then last_row m.rows else None

-- the first member with a natural key
abbrev pub rendered_named : List RenderedMember → List ℕ → Option RenderedMember
rendered_named members natural = find (λ m. bytes_eq m.member.natural natural) members

-- what a sale without a card has
abbrev pub no_keys : MemberKeys
no_keys = record { key = 0; durable = 0; profile = 0 }

-- what a sale's member gives its fact, if it is among these
abbrev pub keys_among : Shape → List RenderedMember → SaleRecord → MemberKeys
keys_among shape members s = unwrap_or (option_map (λ m. keys_on shape m s.day) (option_and_then (rendered_named members) (member_of_sale shape.dim s))) no_keys

-- and what it gives it under commands
abbrev pub keys_sold : Dim → List Accepted → SaleRecord → MemberKeys
keys_sold dim commands s = unwrap_or (option_map (λ natural. keys_on (shape_after dim commands) (rendered_in (shape_after dim commands) (member_of dim commands natural)) s.day) (member_of_sale dim s)) no_keys

-- the fact of a sale with what its product, its store and its customer give it
abbrev pub fact_with : SaleRecord → MemberKeys → MemberKeys → MemberKeys → Fact
fact_with s product store customer = record {
  ticket = s.ticket;
  line = s.line;
  day = s.day;
  keys = record { store_key = store.key; product_key = product.key; customer_key = customer.key; profile = customer.profile };
  store_durable = store.durable;
  product_durable = product.durable;
  customer_durable = customer.durable;
  quantity = s.quantity;
  amount = s.amount;
  cost = s.cost;
  discount = s.discount;
}

-- a natural key after others, unless it is there
abbrev pub with_natural : List ℕ → List (List ℕ) → List (List ℕ)
with_natural natural naturals = if list_any (bytes_eq natural) naturals then naturals else naturals ++ natural ∷ []

-- What a batch of sales has of one dimension: the numbers for its facts, the rows of the members that it is the first to mention, and the edits of the dimension's table.
pub record IsSoldDimension (dim : Dim) (before after : List Accepted) (sales : List SaleRecord) (sold : SoldDimension) : Type 0 where
  pub keys : sold.keys.items ≡ map (keys_sold dim after) sales
  pub members : sold.members.items ≡ filter_map (λ n. member_at after (record { dim = dim; durable = n })) (numbers_after (length (members dim before)) (length (members dim after)))
  pub rows : sold.rows.items ≡ map Put (filter_map (dimension_row after dim) (numbers_after (length (anchors dim before)) (length (anchors dim after))))

-- Of a batch of these sales under the policy in force, while numbers are left, it is what they have of the dimension.
abbrev pub FindsSold : List Accepted → Dim → List SaleRecord → Policy → Result SoldDimension ReadFault → Type 0
FindsSold commands dim sales policy result = (c : Accepted)
    → HaveNoEmptyValue commands
    → length (members dim (commands ++ c ∷ [])) ≤ greatest_number
    → length (anchors dim (commands ++ c ∷ [])) ≤ greatest_number
    → c.content ≡ Sells sales
    → policy_after None commands ≡ Some policy
    → IsSound policy
    → IfOk result (IsSoldDimension dim commands (commands ++ c ∷ []) sales)
