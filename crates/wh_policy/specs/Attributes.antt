-- The attributes of a dimension, as a policy file writes them.
use Rattle.std.specs.Prelude.{ℕ, Bool, true, false, ◌&&◌, ◌||◌, not, ◌==◌, nat_le, nat_lt, codes, List, [], ◌∷◌, length, Option, Some, None, Result, Ok, Err, ok_or, option_and_then}
use Rattle.std.specs.List.{list_any, list_all}
use Rattle.std.specs.Char.{is_ascii_lowercase, is_ascii_digit}
use Rattle.std.specs.Str.{bytes_eq}
use Rattle.toml.specs.Data.{Data, Members, as_str, as_integer}
use Rattle.wh_day.specs.Reading.{◌>>=◌, unless_fault}
use Rattle.wh_policy.specs.declared.fault.PolicyFault.{PolicyFault}
use Rattle.wh_policy.specs.declared.fault.PolicyFault.TheVariants.{Missing, UnknownKey, BadName, BadType, TooMany, NamedTwice, ProfileOutside}
use Rattle.wh_policy.specs.declared.attribute.Attribute.{Attribute}
use Rattle.wh_policy.specs.declared.attribute.AttributeType.{AttributeType}
use Rattle.wh_policy.specs.declared.attribute.Dim.{Dim}
use Rattle.wh_policy.specs.declared.attribute.Dim.TheVariants.{Product, Store, Customer}
use Rattle.wh_policy.specs.Document.{has_only, required, tables_of, each_after}
use Rattle.wh_policy.specs.Types.{is_profile, is_mini, is_outrigger, attribute_type_of_number}

-- a lower-case letter, a digit or '_'
abbrev pub is_name_byte : ℕ → Bool
is_name_byte byte = is_ascii_lowercase byte || is_ascii_digit byte || (byte == 95)

-- a lower-case letter, and then lower-case letters, digits or '_', in all up to 24 bytes
abbrev pub is_word : List ℕ → Bool
is_word [] = false
is_word (first ∷ rest) = is_ascii_lowercase first && list_all is_name_byte rest && nat_lt (length rest) 24

-- the name of an attribute: `id` and `day` are none
abbrev pub is_name : List ℕ → Bool
is_name name = is_word name && not (bytes_eq name (codes "id")) && not (bytes_eq name (codes "day"))

-- a string that is a name
abbrev pub found_name : Option (List ℕ) → Result (List ℕ) PolicyFault
found_name None = Err BadName
found_name (Some name) = unless_fault (is_name name) BadName (Ok name)

-- the name that a value writes
unfoldable pub name_of : Data → Result (List ℕ) PolicyFault
name_of content = found_name (as_str content)

-- the type whose number a value writes
unfoldable pub kind_of : Data → Result AttributeType PolicyFault
kind_of content = ok_or (option_and_then attribute_type_of_number (as_integer content)) BadType

-- which dimensions take attributes of the profile, of types 4 and 5: only customer
abbrev pub takes_profile : Dim → Bool
takes_profile Product = false
takes_profile Store = false
takes_profile Customer = true

-- whether attributes of types 4 and 5 stand side by side
abbrev pub is_mixed : List Attribute → Bool
is_mixed attributes = list_any (λ a. is_mini a.kind) attributes && list_any (λ a. is_outrigger a.kind) attributes

-- the keys of an attribute's table
abbrev pub attribute_keys : List (List ℕ)
attribute_keys = codes "name" ∷ codes "type" ∷ []

-- the attribute has this name
abbrev pub is_named : List ℕ → Attribute → Bool
is_named name attribute = bytes_eq attribute.name name

-- the attribute that a table writes, after those of the earlier tables
unfoldable pub attribute_of : Dim → List Attribute → Members → Result Attribute PolicyFault
attribute_of dim earlier members = unless_fault (has_only attribute_keys members) UnknownKey (do
  name_content ← required (codes "name") members
  kind_content ← required (codes "type") members
  name ← name_of name_content
  kind ← kind_of kind_content
  unless_fault (takes_profile dim || not (is_profile kind)) ProfileOutside (
      unless_fault (not (list_any (is_named name) earlier)) NamedTwice (Ok (record { name = name; kind = kind }))))

-- the attributes of a dimension: one to six
unfoldable pub attributes_of : Dim → Data → Result (List Attribute) PolicyFault
attributes_of dim content = do
  tables ← tables_of Missing content
  unless_fault (not (length tables == 0)) Missing (
      unless_fault (nat_le (length tables) 6) TooMany (each_after (attribute_of dim) [] tables))
