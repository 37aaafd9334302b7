-- The policy of a warehouse.
use Rattle.std.specs.Prelude.{ℕ, not, List, [], ◌∷◌, codes, Result, Ok}
use Rattle.toml.specs.Data.{Members, get_member}
use Rattle.wh_day.specs.Reading.{◌>>=◌, unless_fault}
use Rattle.wh_policy.specs.Attributes.{is_mixed, attributes_of}
use Rattle.wh_policy.specs.Document.{document_of, has_only, required}
use Rattle.wh_policy.specs.Holidays.{holidays_of}
use Rattle.wh_policy.specs.Types.{kinds_of}
use Rattle.wh_policy.specs.Years.{years_of}
use Rattle.wh_policy.specs.declared.attribute.Attribute.{Attribute}
use Rattle.wh_policy.specs.declared.attribute.AttributeType.{AttributeType}
use Rattle.wh_policy.specs.declared.attribute.AttributeType.TheVariants.{Overwrite, NewRow}
use Rattle.wh_policy.specs.declared.attribute.Dim.{Dim}
use Rattle.wh_policy.specs.declared.attribute.Dim.TheVariants.{Product, Store, Customer}
use Rattle.wh_policy.specs.declared.fault.PolicyFault.{PolicyFault}
use Rattle.wh_policy.specs.declared.fault.PolicyFault.TheVariants.{UnknownKey, ProfileMixed}
use Rattle.wh_policy.specs.declared.policy.Policy.{Policy}

-- the attributes of a dimension, by slot
abbrev pub policy_attributes : Policy → Dim → List Attribute
policy_attributes policy Product = policy.product
policy_attributes policy Store = policy.store
policy_attributes policy Customer = policy.customer

-- the types of a dimension's attributes, by slot
abbrev pub policy_types : Policy → Dim → List AttributeType
policy_types policy dim = kinds_of (policy_attributes policy dim)

-- an attribute by its name and type
abbrev pub described : List ℕ → AttributeType → Attribute
described name kind = record { name = name; kind = kind }

-- the policy of a trial that names none
abbrev pub trial_policy : Policy
trial_policy = record {
  product = described (codes "description") Overwrite ∷ described (codes "brand") NewRow ∷ [];
  store = described (codes "city") NewRow ∷ [];
  customer = described (codes "tier") NewRow ∷ [];
  years = record { first = 2023; last = 2026 };
  holidays = [];
}

-- the keys that a policy file may have
abbrev pub top_keys : List (List ℕ)
top_keys = codes "first_year" ∷ codes "last_year" ∷ codes "product" ∷ codes "store" ∷ codes "customer" ∷ codes "holiday" ∷ []

-- the policy that a table writes, or the first fault
unfoldable pub policy_of_table : Members → Result Policy PolicyFault
policy_of_table members = unless_fault (has_only top_keys members) UnknownKey (do
  first_year ← required (codes "first_year") members
  last_year ← required (codes "last_year") members
  product_content ← required (codes "product") members
  store_content ← required (codes "store") members
  customer_content ← required (codes "customer") members
  product ← attributes_of Product product_content
  store ← attributes_of Store store_content
  customer ← attributes_of Customer customer_content
  unless_fault (not (is_mixed customer)) ProfileMixed (do
    years ← years_of first_year last_year
    holidays ← holidays_of years (get_member (codes "holiday") members)
    Ok (record { product = product; store = store; customer = customer; years = years; holidays = holidays })))

-- the policy that the bytes write, or the first fault
unfoldable pub read_policy : List ℕ → Result Policy PolicyFault
read_policy bytes = do
  members ← document_of bytes
  policy_of_table members
