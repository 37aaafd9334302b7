-- What is sound, said by the tables of accepted commands.
use Rattle.std.specs.Prelude.{◌≡◌, List, map, IsTrue}
use Rattle.std.specs.List.{list_all}
use Rattle.std.specs.FinMap.{FinMap, values}
use Rattle.std.specs.List.Sorted.{IsPermutation}
use Rattle.sqlite.specs.Order.{Row}
use Rattle.wh_history.specs.Accepted.{Accepted}
use Rattle.wh_history.specs.Tables.{Limits}
use Rattle.wh_model.specs.Defined.{AreOf}
use Rattle.wh_rows.specs.Holds.{Layout}
use Rattle.wh_rows.specs.Raw.{Stored}
use Rattle.wh_rows.specs.Rows as row
use Rattle.wh_rows.specs.Tables.{Tables}
use Rattle.wh_rows.specs.declared.table.Table.{Table}
use Rattle.wh_rows.specs.declared.table.Table.TheVariants.{Meta, Command, Member, Change, Product, Store, Customer, Profile, Calendar, Fact, Fact2, Void}
use Rattle.wh_admission.specs.Admission.{AreAdmitted}
use Rattle.wh_admission.specs.Checked.{IsSoundStored}

-- just the rows of a map are stored, in whatever order, and each is of its type
pub record AreRowsOf {K V : Type 0} (layout : Layout K V) (rows : FinMap layout.order V) (stored : List Row) : Type 0 where
  pub valid : IsTrue (list_all layout.is_valid (values rows))
  pub same : IsPermutation stored (map layout.encode (values rows))

-- so it is of a table
abbrev pub StoresTable : Stored → Tables → Table → Type 0
StoresTable stored t Meta = AreRowsOf row.meta t.meta (stored.rows Meta)
StoresTable stored t Command = AreRowsOf row.command t.command (stored.rows Command)
StoresTable stored t Member = AreRowsOf row.member t.member (stored.rows Member)
StoresTable stored t Change = AreRowsOf row.change t.change (stored.rows Change)
StoresTable stored t Product = AreRowsOf row.product t.product (stored.rows Product)
StoresTable stored t Store = AreRowsOf row.store t.store (stored.rows Store)
StoresTable stored t Customer = AreRowsOf row.customer t.customer (stored.rows Customer)
StoresTable stored t Profile = AreRowsOf row.profile t.profile (stored.rows Profile)
StoresTable stored t Calendar = AreRowsOf row.calendar t.calendar (stored.rows Calendar)
StoresTable stored t Fact = AreRowsOf row.fact t.fact (stored.rows Fact)
StoresTable stored t Fact2 = AreRowsOf row.fact2 t.fact2 (stored.rows Fact2)
StoresTable stored t Void = AreRowsOf row.void t.void (stored.rows Void)

-- Tables are stored, and they are those of a list of commands that were admitted.
pub record IsOfCommands (stored : Stored) : Type 0 where
  pub limits : Limits
  pub commands : List Accepted
  pub tables : Tables
  pub admitted : AreAdmitted limits commands
  pub format : stored.format ≡ tables.format
  pub are : AreOf limits commands tables
  pub stores : (table : Table) → StoresTable stored tables table

-- That is what it is to be sound.
abbrev pub SoundIsOfCommands : Type 0
SoundIsOfCommands = (stored : Stored) → (IsSoundStored stored → IsOfCommands stored) × (IsOfCommands stored → IsSoundStored stored)
