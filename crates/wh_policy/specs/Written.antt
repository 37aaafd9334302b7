-- What a policy file has to keep, said for each fault by itself, and what it writes. No order of checks stands here.
use Rattle.std.specs.Prelude.{◌≡◌, ◌≢◌, ◌⊎◌, false, ℕ, ◌+◌, ◌<◌, ◌≤◌, IsTrue, ⊤, pos, codes, List, [], ◌∷◌, length, map, Option, Some, None, IsSome, IfSome, All, AllPairs, Contains}
use Rattle.std.specs.List.{AllZip}
use Rattle.std.specs.Str.{IsUtf8}
use Rattle.toml.specs.Data.{Data, string, integer, array, table, Members, get_member}
use Rattle.toml.specs.Parse.{parse_document}
use Rattle.toml.specs.View.{items_of}
use Rattle.wh_day.specs.Day.{is_day, day_text, year_of}
use Rattle.wh_day.specs.Holidays.{HaveDistinctDays}
use Rattle.wh_day.specs.Value.{read_value}
use Rattle.wh_day.specs.declared.holiday.Holiday.{Holiday}
use Rattle.wh_policy.specs.declared.attribute.Attribute.{Attribute}
use Rattle.wh_policy.specs.declared.attribute.Dim.{Dim}
use Rattle.wh_policy.specs.declared.attribute.Dim.TheVariants.{Product, Store, Customer}
use Rattle.wh_policy.specs.declared.fault.PolicyFault.{PolicyFault}
use Rattle.wh_policy.specs.declared.fault.PolicyFault.TheVariants.{NotToml, Missing, UnknownKey, BadName, BadType, TooMany, NamedTwice, ProfileOutside, ProfileMixed, BadYears, BadHoliday}
use Rattle.wh_policy.specs.declared.policy.Policy.{Policy}
use Rattle.wh_policy.specs.declared.policy.Years.{Years}
use Rattle.wh_policy.specs.Attributes.{attribute_keys, is_name, is_mixed}
use Rattle.wh_policy.specs.Holidays.{holiday_keys}
use Rattle.wh_policy.specs.Policy.{policy_attributes, top_keys}
use Rattle.wh_policy.specs.Types.{is_profile, attribute_type_number}
use Rattle.wh_policy.specs.Words.{dim_word}

-- up to 65,536 bytes of UTF-8 that are the TOML text of this table
pub record IsDocument (bytes : List ℕ) (members : Members) : Type 0 where
  pub short : length bytes ≤ 65536
  pub text : IsUtf8 bytes
  pub toml : parse_document bytes ≡ Some members

-- the table has the key
abbrev pub HasKey : List ℕ → Members → Type 0
HasKey key members = IsSome (get_member key members)

-- it has no key but these
abbrev pub HasOnly : List (List ℕ) → Members → Type 0
HasOnly known members = (key : List ℕ) → HasKey key members → Contains known key

-- it has all of them
abbrev pub HasAll : List (List ℕ) → Members → Type 0
HasAll keys members = All (λ key. HasKey key members) keys

-- the value is the array of these tables
abbrev pub IsArrayOf : List Members → Data → Type 0
IsArrayOf tables content = content ≡ array (items_of (map table tables))

-- and the key has it
abbrev pub HasTables : List ℕ → Members → List Members → Type 0
HasTables key members tables = get_member key members ≡ Some (array (items_of (map table tables)))

-- P holds of the tables of each dimension, whose key is its word
abbrev pub EachDimension : (List Members → Type 0) → Members → Type 0
EachDimension P members = (dim : Dim) (tables : List Members) → HasTables (dim_word dim) members tables → P tables

-- P holds of each attribute's table
abbrev pub EachAttribute : (Members → Type 0) → Members → Type 0
EachAttribute P members = EachDimension (All P) members

-- P holds of each holiday's table
abbrev pub EachHoliday : (Members → Type 0) → Members → Type 0
EachHoliday P members = (tables : List Members) → HasTables (codes "holiday") members tables → All P tables

-- no table has a key that has no meaning there
pub record KeysAreKnown (members : Members) : Type 0 where
  pub top : HasOnly top_keys members
  pub attributes : EachAttribute (HasOnly attribute_keys) members
  pub holidays : EachHoliday (HasOnly holiday_keys) members

-- the keys that a policy file has to have
abbrev pub needed_keys : List (List ℕ)
needed_keys = codes "first_year" ∷ codes "last_year" ∷ dim_word Product ∷ dim_word Store ∷ dim_word Customer ∷ []

-- nothing is left out: each dimension is an array of one table or more
pub record IsWhole (members : Members) : Type 0 where
  pub top : HasAll needed_keys members
  pub dimensions : (dim : Dim) → (tables : List Members) × HasTables (dim_word dim) members tables × (1 ≤ length tables)
  pub attributes : EachAttribute (HasAll attribute_keys) members
  pub holidays : EachHoliday (HasAll holiday_keys) members

-- the value is the name of an attribute
abbrev pub IsNameData : Data → Type 0
IsNameData content = (name : List ℕ) × (content ≡ string name) × IsTrue (is_name name)

-- the value is the number of a type
abbrev pub IsTypeData : Data → Type 0
IsTypeData content = (n : ℕ) × (content ≡ integer (pos n)) × (n ≤ 7)

-- the day lies in the years
pub record IsWithin (years : Years) (day : ℕ) : Type 0 where
  pub from : years.first ≤ year_of day
  pub to : year_of day ≤ years.last

-- the value is the text of a real day within the years
abbrev pub IsDayData : Years → Data → Type 0
IsDayData years content = (day : ℕ) × (content ≡ string (day_text day)) × IsTrue (is_day day) × IsWithin years day

-- the value is a name of a holiday: a value, in the sense of rows, of at least one byte
abbrev pub IsTitleData : Data → Type 0
IsTitleData content = (name : List ℕ) × (content ≡ string name) × (name ≢ []) × (read_value name ≡ Some name)

-- P holds of the value at the key, where the table has it
abbrev pub At : List ℕ → (Data → Type 0) → Members → Type 0
At key P members = IfSome (get_member key members) P

-- the two tables don't have one text at the key
abbrev pub DifferAt : List ℕ → Members → Members → Type 0
DifferAt key t u = (text : List ℕ) → get_member key t ≡ Some (string text) → get_member key u ≢ Some (string text)

-- the type, where it is a number, isn't of the profile
abbrev pub IsOutsideProfile : Members → Type 0
IsOutsideProfile t = (n : ℕ) → get_member (codes "type") t ≡ Some (integer (pos n)) → (n ≢ 4) × (n ≢ 5)

-- the type isn't this number
abbrev pub IsNotOfType : ℕ → Members → Type 0
IsNotOfType n t = get_member (codes "type") t ≢ Some (integer (pos n))

-- the years that the table writes
pub record WritesYears (members : Members) (years : Years) : Type 0 where
  pub first : get_member (codes "first_year") members ≡ Some (integer (pos years.first))
  pub last : get_member (codes "last_year") members ≡ Some (integer (pos years.last))

-- up to 30 years within 1900 to 2199
pub record AreYears (years : Years) : Type 0 where
  pub from : 1900 ≤ years.first
  pub to : years.last ≤ 2199
  pub ordered : years.first ≤ years.last
  pub few : years.last < years.first + 30

-- the holidays, where the table has any, are an array of tables with a day and a name each, and no day twice
pub record HolidaysAreGood (members : Members) : Type 0 where
  pub tables : At (codes "holiday") (λ content. (tables : List Members) × IsArrayOf tables content) members
  pub days : (years : Years) → WritesYears members years → EachHoliday (At (codes "day") (IsDayData years)) members
  pub names : EachHoliday (At (codes "name") IsTitleData) members
  pub once : (tables : List Members) → HasTables (codes "holiday") members tables → AllPairs (DifferAt (codes "day")) tables

-- the table is free of a fault: what it keeps, for each fault by itself
abbrev pub IsFreeOf : PolicyFault → Members → Type 0
IsFreeOf NotToml _ = ⊤
IsFreeOf Missing members = IsWhole members
IsFreeOf UnknownKey members = KeysAreKnown members
IsFreeOf BadName members = EachAttribute (At (codes "name") IsNameData) members
IsFreeOf BadType members = EachAttribute (At (codes "type") IsTypeData) members
IsFreeOf TooMany members = EachDimension (λ tables. length tables ≤ 6) members
IsFreeOf NamedTwice members = EachDimension (AllPairs (DifferAt (codes "name"))) members
IsFreeOf ProfileOutside members = (dim : Dim) → dim ≢ Customer → (tables : List Members) → HasTables (dim_word dim) members tables → All IsOutsideProfile tables
IsFreeOf ProfileMixed members = (tables : List Members) → HasTables (dim_word Customer) members tables → All (IsNotOfType 4) tables ⊎ All (IsNotOfType 5) tables
IsFreeOf BadYears members = (years : Years) × WritesYears members years × AreYears years
IsFreeOf BadHoliday members = HolidaysAreGood members

-- the table writes this attribute
pub record WritesAttribute (members : Members) (attribute : Attribute) : Type 0 where
  pub name : get_member (codes "name") members ≡ Some (string attribute.name)
  pub kind : get_member (codes "type") members ≡ Some (integer (pos (attribute_type_number attribute.kind)))

-- the table writes this holiday
pub record WritesHoliday (members : Members) (holiday : Holiday) : Type 0 where
  pub day : get_member (codes "day") members ≡ Some (string (day_text holiday.day))
  pub name : get_member (codes "name") members ≡ Some (string holiday.name)

-- the value writes these holidays; where there is none, there are none
abbrev pub WritesHolidays : Option Data → List Holiday → Type 0
WritesHolidays None holidays = holidays ≡ []
WritesHolidays (Some content) holidays = (tables : List Members) × IsArrayOf tables content × AllZip WritesHoliday tables holidays

-- the table writes this policy: its attributes in the order of their tables, its years and its holidays
pub record Writes (members : Members) (policy : Policy) : Type 0 where
  pub attributes : (dim : Dim) → (tables : List Members) × HasTables (dim_word dim) members tables × AllZip WritesAttribute tables (policy_attributes policy dim)
  pub years : WritesYears members policy.years
  pub holidays : WritesHolidays (get_member (codes "holiday") members) policy.holidays

-- one to six attributes, each with a name of its own
pub record AreAttributes (attributes : List Attribute) : Type 0 where
  pub some : 1 ≤ length attributes
  pub few : length attributes ≤ 6
  pub names : All (λ a. IsTrue (is_name a.name)) attributes
  pub once : AllPairs (λ a b. a.name ≢ b.name) attributes

-- what the crates above may count on
pub record IsSound (policy : Policy) : Type 0 where
  pub attributes : (dim : Dim) → AreAttributes (policy_attributes policy dim)
  pub outside : (dim : Dim) → dim ≢ Customer → All (λ a. ¬ IsTrue (is_profile a.kind)) (policy_attributes policy dim)
  pub unmixed : is_mixed policy.customer ≡ false
  pub years : AreYears policy.years
  pub holidays : All (λ holiday. IsTrue (is_day holiday.day) × IsWithin policy.years holiday.day) policy.holidays
  pub once : HaveDistinctDays policy.holidays
