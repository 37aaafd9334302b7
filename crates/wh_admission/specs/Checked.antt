-- Whether any stored rows are what the accepted commands define, table by table.
use Rattle.std.specs.Prelude.{◌≡◌, ◌<◌, ℕ, true, List, [], map, Option, None, IsTrue, ⊤, if◌then◌else◌}
use Rattle.std.specs.List.{list_all}
use Rattle.std.specs.FinMap.{FinMap, get, values}
use Rattle.std.specs.List.Sorted.{IsPermutation}
use Rattle.sqlite.specs.Order.{Row}
use Rattle.wh_policy.specs.declared.attribute.Dim.TheVariants.{Product as Products, Store as Stores, Customer as Customers}
use Rattle.wh_policy.specs.declared.format.Format.{Format}
use Rattle.wh_policy.specs.declared.format.Format.TheVariants.{One, Two}
use Rattle.wh_history.specs.Accepted.{Accepted, format_of}
use Rattle.wh_history.specs.Tables.{Limits, dimension_row}
use Rattle.wh_model.specs.Defined.{meta_at, command_at, member_at, change_at, profile_at, calendar_at, fact_in, void_at}
use Rattle.wh_rows.specs.Holds.{Layout}
use Rattle.wh_rows.specs.Limits.{are_limits}
use Rattle.wh_rows.specs.Names.{is_there}
use Rattle.wh_rows.specs.Raw.{Stored, HasDamageIn}
use Rattle.wh_rows.specs.Rows as row
use Rattle.wh_rows.specs.declared.table.Table.{Table}
use Rattle.wh_rows.specs.declared.table.Table.TheVariants.{Meta, Command, Member, Change, Product, Store, Customer, Profile, Calendar, Fact, Fact2, Void}
use Rattle.wh_admission.specs.Admission.{AreAdmitted}

-- What is stored in the tables of a format. Others are somebody else's, and are taken for empty.
abbrev pub stored_in : Format → Stored → Stored
stored_in format stored = record { format = format; rows = λ table. if is_there table format then stored.rows table else [] }

-- a schema of the one format has the tables of the other
abbrev pub Covers : (has said : Format) → Type 0
Covers has One = ⊤
Covers has Two = has ≡ Two

-- The stored rows are those that a function gives its keys, of values of their types: none is missing, none is more, and none is damaged.
pub record AreRowsAt {K V : Type 0} (layout : Layout K V) (row_at : K → Option V) (stored : List Row) : Type 0 where
  pub rows : FinMap layout.order V
  pub are : (key : K) → get rows key ≡ row_at key
  pub valid : IsTrue (list_all layout.is_valid (values rows))
  pub same : IsPermutation stored (map layout.encode (values rows))

-- What is stored in a table is what limits and accepted commands define.
abbrev pub IsDefined : Limits → List Accepted → Stored → Table → Type 0
IsDefined limits commands stored Meta = AreRowsAt row.meta (meta_at (format_of commands) limits) (stored.rows Meta)
IsDefined limits commands stored Command = AreRowsAt row.command (command_at commands) (stored.rows Command)
IsDefined limits commands stored Member = AreRowsAt row.member (member_at commands) (stored.rows Member)
IsDefined limits commands stored Change = AreRowsAt row.change (change_at commands) (stored.rows Change)
IsDefined limits commands stored Product = AreRowsAt row.product (dimension_row commands Products) (stored.rows Product)
IsDefined limits commands stored Store = AreRowsAt row.store (dimension_row commands Stores) (stored.rows Store)
IsDefined limits commands stored Customer = AreRowsAt row.customer (dimension_row commands Customers) (stored.rows Customer)
IsDefined limits commands stored Profile = AreRowsAt row.profile (profile_at commands) (stored.rows Profile)
IsDefined limits commands stored Calendar = AreRowsAt row.calendar (calendar_at commands) (stored.rows Calendar)
IsDefined limits commands stored Fact = AreRowsAt row.fact (fact_in One commands) (stored.rows Fact)
IsDefined limits commands stored Fact2 = AreRowsAt row.fact2 (fact_in Two commands) (stored.rows Fact2)
IsDefined limits commands stored Void = AreRowsAt row.void (void_at commands) (stored.rows Void)

-- What is stored is sound: it is that of a list of commands that were admitted, one after the other, under good limits, in tables of the format that they make.
pub record IsSoundStored (stored : Stored) : Type 0 where
  pub limits : Limits
  pub commands : List Accepted
  pub admitted : AreAdmitted limits commands
  pub formatted : stored.format ≡ format_of commands
  pub each : (table : Table) → IsDefined limits commands stored table

-- ---- one table after the other

-- meta says the format of the tables and these limits, which are good
pub record SaysLimits (stored : Stored) (limits : Limits) : Type 0 where
  pub good : are_limits limits ≡ true
  pub defined : AreRowsAt row.meta (meta_at stored.format limits) (stored.rows Meta)

-- the command table says these commands, which were admitted under the limits that meta says, and make the format that it says
pub record SaysCommands (stored : Stored) (limits : Limits) (commands : List Accepted) : Type 0 where
  pub said : SaysLimits stored limits
  pub formatted : stored.format ≡ format_of commands
  pub admitted : AreAdmitted limits commands
  pub defined : AreRowsAt row.command (command_at commands) (stored.rows Command)

-- the table is what the command table defines
pub record IsAsCommanded (stored : Stored) (table : Table) : Type 0 where
  pub limits : Limits
  pub commands : List Accepted
  pub said : SaysCommands stored limits commands
  pub defined : IsDefined limits commands stored table

-- A table is as it should be: meta by itself, the command table under meta, each other one under the command table.
abbrev pub IsRight : Stored → Table → Type 0
IsRight stored Meta = (limits : Limits) × SaysLimits stored limits
IsRight stored Command = (limits : Limits) × (commands : List Accepted) × SaysCommands stored limits commands
IsRight stored Member = IsAsCommanded stored Member
IsRight stored Change = IsAsCommanded stored Change
IsRight stored Product = IsAsCommanded stored Product
IsRight stored Store = IsAsCommanded stored Store
IsRight stored Customer = IsAsCommanded stored Customer
IsRight stored Profile = IsAsCommanded stored Profile
IsRight stored Calendar = IsAsCommanded stored Calendar
IsRight stored Fact = IsAsCommanded stored Fact
IsRight stored Fact2 = IsAsCommanded stored Fact2
IsRight stored Void = IsAsCommanded stored Void

-- the order in which tables are checked
abbrev pub table_place : Table → ℕ
table_place Meta = 0
table_place Command = 1
table_place Member = 2
table_place Change = 3
table_place Product = 4
table_place Store = 5
table_place Customer = 6
table_place Profile = 7
table_place Calendar = 8
table_place Fact = 9
table_place Fact2 = 10
table_place Void = 11

-- all tables before it are as they should be
abbrev pub AreRightBefore : Stored → Table → Type 0
AreRightBefore stored table = (earlier : Table) → table_place earlier < table_place table → IsRight stored earlier

-- It is the first that isn't.
pub record IsFirstWrong (stored : Stored) (table : Table) : Type 0 where
  pub before : AreRightBefore stored table
  pub wrong : ¬ IsRight stored table

-- ---- laws

-- Where each table is as it should be, what is stored is sound, and the other way round.
abbrev pub SoundIsEachRight : Type 0
SoundIsEachRight = (stored : Stored) → (IsSoundStored stored → (table : Table) → IsRight stored table) × (((table : Table) → IsRight stored table) → IsSoundStored stored)

-- A table that stores a damaged row isn't as it should be.
abbrev pub DamageIsWrong : Type 0
DamageIsWrong = (stored : Stored) (table : Table) → HasDamageIn stored table → ¬ IsRight stored table

-- What is stored says one list of commands at most.
abbrev pub CommandsAreOne : Type 0
CommandsAreOne = (stored : Stored) (limits other_limits : Limits) (commands others : List Accepted) → SaysCommands stored limits commands → SaysCommands stored other_limits others → (limits ≡ other_limits) × (commands ≡ others)
