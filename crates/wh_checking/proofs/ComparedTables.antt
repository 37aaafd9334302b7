-- Each of the tables, compared with its twin.
use Rattle.std.proofs.Common.{◌≡◌, ◌∙◌, Bool, true, refl, ap}
use Rattle.std.specs.Prelude.{List, Result, Ok, Err, IfOk, IfErr}
use Rattle.std.specs.FinMap.{get}
use Rattle.wh_policy.specs.declared.attribute.Dim.TheVariants.{Product as Products, Store as Stores, Customer as Customers}
use Rattle.wh_policy.specs.declared.format.Format.{Format}
use Rattle.wh_policy.specs.declared.format.Format.TheVariants.{One, Two}
use Rattle.wh_history.specs.Accepted.{Accepted, format_of}
use Rattle.wh_history.specs.Tables.{Limits, dimension_row}
use Rattle.wh_model.specs.Defined.{AreOf, meta_at, command_at, member_at, change_at, profile_at, calendar_at, fact_in, void_at}
use Rattle.wh_rows.specs.Names.{is_there}
use Rattle.wh_rows.specs.Raw.{Stored, HasDamage, HasDamageIn}
use Rattle.wh_rows.specs.Rows as row
use Rattle.wh_rows.specs.Tables.{Tables}
use Rattle.wh_rows.specs.declared.table.Table.{Table}
use Rattle.wh_rows.specs.declared.table.Table.TheVariants.{Meta, Command, Member, Change, Product, Store, Customer, Profile, Calendar, Fact, Fact2, Void}
use Rattle.wh_sql.specs.Described.{described}
use Rattle.wh_sql.specs.Reads.{IsOfDamage}
use Rattle.wh_sql.specs.declared.fault.ReadFault.{ReadFault}
use Rattle.wh_sql.specs.declared.fault.ReadFault.TheVariants.{Memory, Damaged, Store as Failed}
use Rattle.wh_admission.specs.Checked.{Covers}
use Rattle.wh_checking.specs.Compared.{AreRowsOrNot}
use Rattle.wh_checking.specs.Judging.{IsDefinedIn, IsOfDamageIn}
use Rattle.wh_checking.proofs.ListedMaps.{told_so}

-- a table of the first format is there in each
there : (table : Table) (has : Format) → is_there table One ≡ true → is_there table has ≡ true
there Meta has is = refl
there Command has is = refl
there Member has is = refl
there Change has is = refl
there Product has is = refl
there Store has is = refl
there Customer has is = refl
there Profile has is = refl
there Calendar has is = refl
there Fact has is = refl
there Fact2 has is = absurd cc
there Void has is = absurd cc

-- a schema has the tables of the format that it covers
pub covered : (table : Table) (has said : Format) → Covers has said → is_there table said ≡ true → is_there table has ≡ true
covered table has One covers is = there table has is
covered table has Two covers is = ap (is_there table) covers ∙ is

-- what is stored is what the second warehouse holds, so it is what the commands define
pub defined : (table : Table) (limits : Limits) (commands : List Accepted) (stored : Stored) (t : Tables) (result : Result Bool ReadFault) → AreOf limits commands t
    → IfOk result (AreRowsOrNot (described table).layout (get ((described table).rows t)) (stored.rows table)) → IfOk result (IsDefinedIn limits commands stored table)
defined Meta limits commands stored t result are = told_so row.meta (get t.meta) (meta_at (format_of commands) limits) (stored.rows Meta) result are.meta
defined Command limits commands stored t result are = told_so row.command (get t.command) (command_at commands) (stored.rows Command) result are.command
defined Member limits commands stored t result are = told_so row.member (get t.member) (member_at commands) (stored.rows Member) result are.member
defined Change limits commands stored t result are = told_so row.change (get t.change) (change_at commands) (stored.rows Change) result are.change
defined Product limits commands stored t result are = told_so row.product (get t.product) (dimension_row commands Products) (stored.rows Product) result are.product
defined Store limits commands stored t result are = told_so row.store (get t.store) (dimension_row commands Stores) (stored.rows Store) result are.store
defined Customer limits commands stored t result are = told_so row.customer (get t.customer) (dimension_row commands Customers) (stored.rows Customer) result are.customer
defined Profile limits commands stored t result are = told_so row.profile (get t.profile) (profile_at commands) (stored.rows Profile) result are.profile
defined Calendar limits commands stored t result are = told_so row.calendar (get t.calendar) (calendar_at commands) (stored.rows Calendar) result are.calendar
defined Fact limits commands stored t result are = told_so row.fact (get t.fact) (fact_in One commands) (stored.rows Fact) result are.fact
defined Fact2 limits commands stored t result are = told_so row.fact2 (get t.fact2) (fact_in Two commands) (stored.rows Fact2) result are.fact2
defined Void limits commands stored t result are = told_so row.void (get t.void) (void_at commands) (stored.rows Void) result are.void

harmed : (table : Table) (stored : Stored) → HasDamage (described table).layout (stored.rows table) → HasDamageIn stored table
harmed Meta stored damage = damage
harmed Command stored damage = damage
harmed Member stored damage = damage
harmed Change stored damage = damage
harmed Product stored damage = damage
harmed Store stored damage = damage
harmed Customer stored damage = damage
harmed Profile stored damage = damage
harmed Calendar stored damage = damage
harmed Fact stored damage = damage
harmed Fact2 stored damage = damage
harmed Void stored damage = damage

named : (table : Table) (stored : Stored) (fault : ReadFault) → IsOfDamage (described table).layout table (stored.rows table) fault → IsOfDamageIn stored table fault
named table stored Memory is = tt
named table stored (Damaged which) (same, damage) = (same, harmed table stored damage)
named table stored (Failed why) is = tt

-- the fault names the damage
pub damaged : (table : Table) (stored : Stored) (result : Result Bool ReadFault) → IfErr result (IsOfDamage (described table).layout table (stored.rows table)) → IfErr result (IsOfDamageIn stored table)
damaged table stored (Ok same) is = tt
damaged table stored (Err fault) is = named table stored fault is
