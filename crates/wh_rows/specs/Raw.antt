-- What is stored in the tables: rows of values of their types, and rows that are damaged.
use Rattle.std.specs.Prelude.{◌≡◌, ◌≢◌, ◌⊎◌, ℕ, Bool, false, List, [], ◌∷◌, ◌++◌, map, take, Option, None, Some, IsTrue, if◌then◌else◌}
use Rattle.std.specs.declared.cmp.Ordering.{Ordering}
use Rattle.std.specs.Ordering.{is_gt}
use Rattle.std.specs.List.{AllByRecursion, list_all}
use Rattle.std.specs.List.Sorted.{IsPermutation, IsSorted}
use Rattle.std.specs.FinMap.{FinMap, entries, values, empty}
use Rattle.sqlite_value.specs.Order.{value_cmp}
use Rattle.sqlite.specs.Order.{Row, column}
use Rattle.sqlite.specs.Collation.TheVariants.{Binary}
use Rattle.sqlite.specs.Query.{key_cmp, output_cmp}
use Rattle.sqlite.specs.Tree.{Trees}
use Rattle.sqlite.specs.Table as stored
use Rattle.sqlite.specs.Effect.{Database, IsDatabase}
use Rattle.sqlite.specs.State.{State}
use Rattle.sqlite_rules.specs.Lists.{Has}
use Rattle.wh_rows.specs.declared.table.Table.{Table}
use Rattle.wh_rows.specs.declared.rows.ChangeRow.{ChangeRow}
use Rattle.wh_rows.specs.declared.table.Table.TheVariants.{Meta, Command, Member, Change, Product, Store, Customer, Profile, Calendar, Fact, Fact2, Void}
use Rattle.sqlite.specs.Schema.{Schema}
use Rattle.wh_policy.specs.declared.format.Format.{Format}
use Rattle.wh_policy.specs.declared.format.Format.TheVariants.{One}
use Rattle.wh_rows.specs.Names.{is_there}
use Rattle.wh_rows.specs.Schema.{schema_in}
use Rattle.wh_rows.specs.Schema as schema
use Rattle.wh_rows.specs.Holds.{Layout, values_of, IsRising}
use Rattle.wh_rows.specs.Rows as row
use Rattle.wh_rows.specs.Tables.{Tables}
use Rattle.wh_rows.specs.Meaning.{ReadsSome}
use Rattle.wh_rows.specs.Firsts.{Front, reading_first, ReadsFirst, ReadsGreatest}
use Rattle.wh_rows.specs.Questions.{anchor_column}

-- ---- the stored rows of one table

-- no row of values of the types stands so in the columns
abbrev pub IsDamaged : {K V : Type 0} → Layout K V → Row → Type 0
IsDamaged layout row = (v : _) → IsTrue (layout.is_valid v) → row ≢ layout.encode v

-- one of the stored rows is damaged
abbrev pub HasDamage : {K V : Type 0} → Layout K V → List Row → Type 0
HasDamage layout stored = (row : Row) × Has stored row × IsDamaged layout row

-- none is: the stored rows are these, of values of their types, in the order of their keys
pub record AreRows {K V : Type 0} (layout : Layout K V) (stored : List Row) (rows : List V) : Type 0 where
  pub same : IsPermutation stored (map layout.encode rows)
  pub valid : IsTrue (list_all layout.is_valid rows)
  pub in_order : IsSorted (λ v w. layout.order (layout.key v) (layout.key w)) rows

-- the row is the last of them, or there is none
abbrev pub IsLastOf : {K V : Type 0} → Layout K V → List Row → Option V → Type 0
IsLastOf layout stored None = AreRows layout stored []
IsLastOf layout stored (Some row) = (before : List _) × AreRows layout stored (before ++ row ∷ [])

-- stored rows in the order of their keys, which are the first columns; or backwards
abbrev pub stored_cmp : stored.Table → Bool → Row → Row → Ordering
stored_cmp table backwards = key_cmp 0 (map (λ _. record { collation = Binary; descending = backwards }) table.primary)

-- these are up to so many of the stored rows, from either end
pub record IsFrontOf (front : Front) (table : stored.Table) (stored shown : List Row) : Type 0 where
  pub ordered : List Row
  pub same : IsPermutation stored ordered
  pub sorted : IsSorted (stored_cmp table front.backwards) ordered
  pub first : shown ≡ take front.most ordered

-- these are the rows that are asked for, of those that are stored, and none of them is damaged
abbrev pub AreAsked : {K V : Type 0} → Option Front → Layout K V → List Row → List V → Type 0
AreAsked None layout stored rows = AreRows layout stored rows
AreAsked (Some front) layout stored rows = IsFrontOf front layout.table stored (map layout.encode rows) × IsTrue (list_all layout.is_valid rows)

-- one of them is damaged
abbrev pub HasAskedDamage : {K V : Type 0} → Option Front → Layout K V → List Row → Type 0
HasAskedDamage None layout stored = HasDamage layout stored
HasAskedDamage (Some front) layout stored = (shown : List Row) × IsFrontOf front layout.table stored shown × HasDamage layout shown

-- the row is one of those that are stored, and none of them has a greater value in this column, by SQL's order of all values
pub record IsGreatestIn (place : ℕ) (stored : List Row) (greatest : Row) : Type 0 where
  pub among : Has stored greatest
  pub none_greater : AllByRecursion (λ row. is_gt (value_cmp (column row place) (column greatest place)) ≡ false) stored

-- the anchor is that of a record which has the greatest of these, and which isn't damaged; 0 where none is stored
abbrev pub IsGreatestAnchor : List Row → ℕ → Type 0
IsGreatestAnchor stored anchor = ((stored ≡ []) × (anchor ≡ 0)) ⊎ ((found : ChangeRow) × IsTrue (row.change.is_valid found) × IsGreatestIn anchor_column stored (row.change.encode found) × (anchor ≡ found.anchor))

-- a record that has the greatest anchor of these is damaged
abbrev pub HasGreatestDamaged : List Row → Type 0
HasGreatestDamaged stored = (damaged : Row) × IsGreatestIn anchor_column stored damaged × IsDamaged row.change damaged

-- ---- the stored rows of the tables

-- the format of the schema, and of each table the rows as SELECT * shows them, in any order
pub record Stored : Type 0 where
  pub format : Format
  pub rows : Table → List Row

-- the table of the schema
abbrev pub table_of : Table → stored.Table
table_of Meta = schema.meta
table_of Command = schema.command
table_of Member = schema.member
table_of Change = schema.change
table_of Product = schema.product
table_of Store = schema.store
table_of Customer = schema.customer
table_of Profile = schema.profile
table_of Calendar = schema.calendar
table_of Fact = schema.fact
table_of Fact2 = schema.fact2
table_of Void = schema.void

-- the rows of a table in the order of their rowids
abbrev pub rows_in : stored.Table → Trees → List Row
rows_in table trees = map (values_of table) (trees table.tree)

-- those of a table that the format has, and none of one that it hasn't
abbrev pub rows_shown : Format → Table → Trees → List Row
rows_shown format table trees = if is_there table format then rows_in (table_of table) trees else []

-- the database is one of the schema of the format, and this is stored in its tables
pub record IsStored (stored : Stored) (db : Database) : Type 0 where
  pub schema : db.schema ≡ schema_in stored.format
  pub sound : IsDatabase db
  pub rising : AllByRecursion (λ t. IsRising (db.trees t.tree)) (schema_in stored.format).tables
  pub rows : (table : Table) → IsPermutation (rows_shown stored.format table db.trees) (stored.rows table)

-- whatever a crash leaves stores this
pub record LeavesStored (stored : Stored) (s : State) : Type 0 where
  pub each : (trees : Trees) → s.may_leave trees → IsStored stored (record { schema = schema_in stored.format; trees = trees })

-- It is open, outside a transaction, and this is stored; a crash leaves this and nothing else.
pub record RestsOn (stored : Stored) (s : State) : Type 0 where
  pub is_open : IsTrue s.is_open
  pub autocommit : s.in_transaction ≡ false
  pub unmarked : s.marks ≡ []
  pub now : IsStored stored s.now
  pub committed : s.committed ≡ s.now
  pub left : LeavesStored stored s

-- one of the rows stored in this table is damaged
abbrev pub HasDamageIn : Stored → Table → Type 0
HasDamageIn stored Meta = HasDamage row.meta (stored.rows Meta)
HasDamageIn stored Command = HasDamage row.command (stored.rows Command)
HasDamageIn stored Member = HasDamage row.member (stored.rows Member)
HasDamageIn stored Change = HasDamage row.change (stored.rows Change)
HasDamageIn stored Product = HasDamage row.product (stored.rows Product)
HasDamageIn stored Store = HasDamage row.store (stored.rows Store)
HasDamageIn stored Customer = HasDamage row.customer (stored.rows Customer)
HasDamageIn stored Profile = HasDamage row.profile (stored.rows Profile)
HasDamageIn stored Calendar = HasDamage row.calendar (stored.rows Calendar)
HasDamageIn stored Fact = HasDamage row.fact (stored.rows Fact)
HasDamageIn stored Fact2 = HasDamage row.fact2 (stored.rows Fact2)
HasDamageIn stored Void = HasDamage row.void (stored.rows Void)

-- what is stored where the tables are these
abbrev pub columns_in : Tables → Table → List Row
columns_in t Meta = map row.encode_meta (values t.meta)
columns_in t Command = map row.encode_command (values t.command)
columns_in t Member = map row.encode_member (values t.member)
columns_in t Change = map row.encode_change (values t.change)
columns_in t Product = map row.encode_dimension (values t.product)
columns_in t Store = map row.encode_dimension (values t.store)
columns_in t Customer = map row.encode_dimension (values t.customer)
columns_in t Profile = map row.encode_profile (values t.profile)
columns_in t Calendar = map row.encode_date (values t.calendar)
columns_in t Fact = map row.encode_fact (values t.fact)
columns_in t Fact2 = map row.encode_fact2 (values t.fact2)
columns_in t Void = map row.encode_void (values t.void)

abbrev pub stored_of : Tables → Stored
stored_of t = record { format = t.format; rows = columns_in t }

-- a map of a table has its keys, and rows of values of their types
pub record IsTyped {K V : Type 0} (layout : Layout K V) (rows : FinMap layout.order V) : Type 0 where
  pub keyed : AllByRecursion (λ e. e.0 ≡ layout.key e.1) (entries rows)
  pub valid : AllByRecursion (λ e. IsTrue (layout.is_valid e.1)) (entries rows)

-- so it is of each of the tables, of which the first format has but ten
pub record AreTyped (t : Tables) : Type 0 where
  pub meta : IsTyped row.meta t.meta
  pub command : IsTyped row.command t.command
  pub member : IsTyped row.member t.member
  pub change : IsTyped row.change t.change
  pub product : IsTyped row.product t.product
  pub store : IsTyped row.store t.store
  pub customer : IsTyped row.customer t.customer
  pub profile : IsTyped row.profile t.profile
  pub calendar : IsTyped row.calendar t.calendar
  pub fact : IsTyped row.fact t.fact
  pub fact2 : IsTyped row.fact2 t.fact2
  pub void : IsTyped row.void t.void
  pub absent : t.format ≡ One → (t.fact2 ≡ empty) × (t.void ≡ empty)

-- ---- what a text means there

-- what a text has to mean, to show the stored rows that pass a test of their columns: on rows of their types it is the test of the row
pub record ReadsStored {K V : Type 0} (under : Schema) (layout : Layout K V) (params : Row) (stands : Row → Bool) (keep : V → Bool) (text : List ℕ) : Type 0 where
  pub reads : ReadsSome under layout params keep text
  pub tested : (row : Row) → reads.test row ≡ stands row

-- so it is of a text that shows up to so many of them, from either end
pub record ReadsFrontStored {K V : Type 0} (under : Schema) (front : Front) (layout : Layout K V) (params : Row) (stands : Row → Bool) (keep : V → Bool) (text : List ℕ) : Type 0 where
  pub reads : ReadsFirst under layout params keep front.most front.backwards text
  pub tested : (row : Row) → reads.test row ≡ stands row
  pub in_order : (r s : Row) → output_cmp (reading_first front.most layout.table.tree reads.tests reads.project reads.order) (reads.sorted_by r, r) (reads.sorted_by s, s) ≡ stored_cmp layout.table front.backwards r s

-- and of one that shows one of them, with the greatest value in this column
pub record ReadsGreatestStored {K V : Type 0} (under : Schema) (place : ℕ) (layout : Layout K V) (params : Row) (stands : Row → Bool) (keep : V → Bool) (measure : V → ℕ) (text : List ℕ) : Type 0 where
  pub reads : ReadsGreatest under layout params keep measure text
  pub tested : (row : Row) → reads.test row ≡ stands row
  pub in_order : (r s : Row) → output_cmp (reading_first 1 layout.table.tree reads.tests reads.project reads.order) (reads.sorted_by r, r) (reads.sorted_by s, s) ≡ value_cmp (column s place) (column r place)

-- and of one that shows a part of them, which may be all of it
abbrev pub ReadsPartStored : {K V : Type 0} → Schema → Option Front → Layout K V → Row → (Row → Bool) → (V → Bool) → List ℕ → Type 0
ReadsPartStored under None layout params stands keep text = ReadsStored under layout params stands keep text
ReadsPartStored under (Some front) layout params stands keep text = ReadsFrontStored under front layout params stands keep text
