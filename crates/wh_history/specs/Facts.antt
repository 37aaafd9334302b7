-- The keys of facts, and those that a member's new rows give them.
use Rattle.std.specs.Prelude.{ℕ, ◌==◌, ◌&&◌, Bool, if◌then◌else◌, List, Option, Some, None, option_map, unwrap_or, find}
use Rattle.wh_history.specs.Dated.{at}
use Rattle.wh_history.specs.Rows.{holds}
use Rattle.wh_history.specs.Profiles.{current_by}
use Rattle.wh_history.specs.Shapes.{Shape, RenderedMember}
use Rattle.wh_policy.specs.declared.attribute.Dim.{Dim}
use Rattle.wh_policy.specs.declared.attribute.Dim.TheVariants.{Product, Store, Customer}
use Rattle.wh_history.specs.declared.rows.DimRow.{DimRow}
use Rattle.wh_history.specs.declared.facts.Fact.{Fact}
use Rattle.wh_history.specs.declared.facts.FactKeys.{FactKeys}
use Rattle.wh_history.specs.declared.facts.MemberKeys.{MemberKeys}

-- the number of the row that holds a day
abbrev pub key_in : List DimRow → ℕ → ℕ
key_in rows day = unwrap_or (option_map (λ r. r.surrogate) (find (holds day) rows)) 0

-- only customers have profiles
abbrev pub of_customer : Dim → ℕ → ℕ
of_customer Product profile = 0
of_customer Store profile = 0
of_customer Customer profile = profile

-- the number of a customer's profile on a day, and 0 for other members
abbrev pub profile_on : Shape → RenderedMember → ℕ → ℕ
profile_on shape m day = of_customer shape.dim (current_by shape.kinds shape.number (at day m.dated))

-- what a member gives a fact of a day
abbrev pub keys_on : Shape → RenderedMember → ℕ → MemberKeys
keys_on shape m day = record { key = key_in m.rows day; durable = m.member.durable; profile = profile_on shape m day }

-- a fact's keys with those of a member
abbrev pub keys_with : Dim → MemberKeys → FactKeys → FactKeys
keys_with Product own keys = record keys { product_key = own.key }
keys_with Store own keys = record keys { store_key = own.key }
keys_with Customer own keys = record keys { customer_key = own.key; profile = own.profile }

abbrev pub same_keys : FactKeys → FactKeys → Bool
same_keys a b = (a.store_key == b.store_key) && (a.product_key == b.product_key) && (a.customer_key == b.customer_key) && (a.profile == b.profile)

-- the keys that a member gives a fact of its own
abbrev pub new_keys : Shape → RenderedMember → Fact → FactKeys
new_keys shape m f = keys_with shape.dim (keys_on shape m f.day) f.keys

-- a fact with other keys, and none where it has them
abbrev pub rekeyed_to : Fact → FactKeys → Option Fact
rekeyed_to f keys = if same_keys keys f.keys then None else Some (record f { keys = keys })

-- a fact of a member with the keys that the member gives it, where they are others than it has
abbrev pub rekeyed_fact : Shape → RenderedMember → Fact → Option Fact
rekeyed_fact shape m f = rekeyed_to f (new_keys shape m f)
