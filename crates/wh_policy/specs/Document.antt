-- The tables of a policy file.
use Rattle.std.specs.Prelude.{ℕ, Bool, ◌&&◌, not, true, nat_lt, if◌then◌else◌, List, [], ◌∷◌, ◌++◌, length, Result, Ok, Err, ok_or}
use Rattle.std.specs.List.{list_any}
use Rattle.std.specs.Str.{bytes_eq, is_utf8}
use Rattle.toml.specs.Data.{Data, Items, no_items, item, Members, no_members, member, get_member, as_array, as_table}
use Rattle.toml.specs.Parse.{parse_document}
use Rattle.wh_day.specs.Reading.{◌>>=◌}
use Rattle.wh_policy.specs.declared.fault.PolicyFault.{PolicyFault}
use Rattle.wh_policy.specs.declared.fault.PolicyFault.TheVariants.{NotToml, Missing}

-- the table that the bytes write, up to 65,536 of them
unfoldable pub document_of : List ℕ → Result Members PolicyFault
document_of bytes =
    if nat_lt 65536 (length bytes) then Err NotToml
    else if not (is_utf8 bytes) then Err NotToml
    else ok_or (parse_document bytes) NotToml

-- each key is one of the known ones
abbrev pub has_only : List (List ℕ) → Members → Bool
has_only known no_members = true
has_only known (member key content members) = list_any (bytes_eq key) known && has_only known members

-- the value at a key that has to be there
unfoldable pub required : List ℕ → Members → Result Data PolicyFault
required key members = ok_or (get_member key members) Missing

-- the tables of an array's items, each item one
unfoldable pub tables_in : PolicyFault → Items → Result (List Members) PolicyFault
tables_in fault no_items = Ok []
tables_in fault (item content items) = do
  first ← ok_or (as_table content) fault
  others ← tables_in fault items
  Ok (first ∷ others)

-- the tables of an array
unfoldable pub tables_of : PolicyFault → Data → Result (List Members) PolicyFault
tables_of fault content = do
  items ← ok_or (as_array content) fault
  tables_in fault items

-- what each of these tables gives, read after those before it
unfoldable pub each_after : {A : Type 0} → (List A → Members → Result A PolicyFault) → List A → List Members → Result (List A) PolicyFault
each_after read earlier [] = Ok []
each_after read earlier (members ∷ tables) = do
  first ← read earlier members
  others ← each_after read (earlier ++ first ∷ []) tables
  Ok (first ∷ others)
