-- What is sound are the tables of commands that were admitted.
use Rattle.std.proofs.Common.{◌≡◌, List, Option, refl, ◌∙◌}
use Rattle.std.specs.FinMap.{FinMap, get}
use Rattle.sqlite.specs.Order.{Row}
use Rattle.wh_policy.specs.declared.attribute.Dim.TheVariants.{Product as Products, Store as Stores, Customer as Customers}
use Rattle.wh_history.specs.Accepted.{Accepted, format_of}
use Rattle.wh_history.specs.Tables.{Limits, dimension_row}
use Rattle.wh_model.specs.Defined.{AreOf, meta_at, command_at, member_at, change_at, profile_at, calendar_at, fact_in}
use Rattle.wh_policy.specs.declared.format.Format.TheVariants.{One, Two}
use Rattle.wh_rows.specs.Holds.{Layout}
use Rattle.wh_rows.specs.Raw.{Stored}
use Rattle.wh_rows.specs.Rows as row
use Rattle.wh_rows.specs.Tables.{Tables}
use Rattle.wh_rows.specs.declared.table.Table.{Table}
use Rattle.wh_rows.specs.declared.table.Table.TheVariants.{Meta, Command, Member, Change, Product, Store, Customer, Profile, Calendar, Fact, Fact2, Void}
use Rattle.wh_admission.specs.Checked.{AreRowsAt, IsDefined}
use Rattle.wh_admission.specs.Sound.{AreRowsOf, StoresTable, SoundIsOfCommands}

rows_of : {K V : Type 0} (layout : Layout K V) (row_at : K → Option V) (stored : List Row) (are : AreRowsAt layout row_at stored) → AreRowsOf layout are.rows stored
rows_of layout row_at stored are = record { valid = are.valid; same = are.same }

rows_at : {K V : Type 0} (layout : Layout K V) (rows : FinMap layout.order V) (row_at : K → Option V) (stored : List Row) → ((key : K) → get rows key ≡ row_at key) → AreRowsOf layout rows stored → AreRowsAt layout row_at stored
rows_at layout rows row_at stored are of_map = record { rows = rows; are = are; valid = of_map.valid; same = of_map.same }

module _ (stored : Stored) (limits : Limits) (commands : List Accepted) where
  module _ (each : (table : Table) → IsDefined limits commands stored table) where
    abbrev found : Tables
    found = record {
      format = format_of commands;
      meta = (each Meta).rows;
      command = (each Command).rows;
      member = (each Member).rows;
      change = (each Change).rows;
      product = (each Product).rows;
      store = (each Store).rows;
      customer = (each Customer).rows;
      profile = (each Profile).rows;
      calendar = (each Calendar).rows;
      fact = (each Fact).rows;
      fact2 = (each Fact2).rows;
      void = (each Void).rows;
    }

    found_are : AreOf limits commands found
    found_are = record {
      format = refl;
      meta = (each Meta).are;
      command = (each Command).are;
      member = (each Member).are;
      change = (each Change).are;
      product = (each Product).are;
      store = (each Store).are;
      customer = (each Customer).are;
      profile = (each Profile).are;
      calendar = (each Calendar).are;
      fact = (each Fact).are;
      fact2 = (each Fact2).are;
      void = (each Void).are;
    }

    found_stored : (table : Table) → StoresTable stored found table
    found_stored Meta = rows_of row.meta (meta_at (format_of commands) limits) (stored.rows Meta) (each Meta)
    found_stored Command = rows_of row.command (command_at commands) (stored.rows Command) (each Command)
    found_stored Member = rows_of row.member (member_at commands) (stored.rows Member) (each Member)
    found_stored Change = rows_of row.change (change_at commands) (stored.rows Change) (each Change)
    found_stored Product = rows_of row.product (dimension_row commands Products) (stored.rows Product) (each Product)
    found_stored Store = rows_of row.store (dimension_row commands Stores) (stored.rows Store) (each Store)
    found_stored Customer = rows_of row.customer (dimension_row commands Customers) (stored.rows Customer) (each Customer)
    found_stored Profile = rows_of row.profile (profile_at commands) (stored.rows Profile) (each Profile)
    found_stored Calendar = rows_of row.calendar (calendar_at commands) (stored.rows Calendar) (each Calendar)
    found_stored Fact = rows_of row.fact (fact_in One commands) (stored.rows Fact) (each Fact)
    found_stored Fact2 = rows_of row.fact2 (fact_in Two commands) (stored.rows Fact2) (each Fact2)
    found_stored Void = rows_of row.void _ (stored.rows Void) (each Void)

  module _ (t : Tables) (are : AreOf limits commands t) (stores : (table : Table) → StoresTable stored t table) where
    defined : (table : Table) → IsDefined limits commands stored table
    defined Meta = rows_at row.meta t.meta (meta_at (format_of commands) limits) (stored.rows Meta) are.meta (stores Meta)
    defined Command = rows_at row.command t.command (command_at commands) (stored.rows Command) are.command (stores Command)
    defined Member = rows_at row.member t.member (member_at commands) (stored.rows Member) are.member (stores Member)
    defined Change = rows_at row.change t.change (change_at commands) (stored.rows Change) are.change (stores Change)
    defined Product = rows_at row.product t.product (dimension_row commands Products) (stored.rows Product) are.product (stores Product)
    defined Store = rows_at row.store t.store (dimension_row commands Stores) (stored.rows Store) are.store (stores Store)
    defined Customer = rows_at row.customer t.customer (dimension_row commands Customers) (stored.rows Customer) are.customer (stores Customer)
    defined Profile = rows_at row.profile t.profile (profile_at commands) (stored.rows Profile) are.profile (stores Profile)
    defined Calendar = rows_at row.calendar t.calendar (calendar_at commands) (stored.rows Calendar) are.calendar (stores Calendar)
    defined Fact = rows_at row.fact t.fact (fact_in One commands) (stored.rows Fact) are.fact (stores Fact)
    defined Fact2 = rows_at row.fact2 t.fact2 (fact_in Two commands) (stored.rows Fact2) are.fact2 (stores Fact2)
    defined Void = rows_at row.void t.void _ (stored.rows Void) are.void (stores Void)

pub sound_is_of_commands : SoundIsOfCommands
sound_is_of_commands stored = (
  λ sound. record {
    limits = sound.limits;
    commands = sound.commands;
    tables = found stored sound.limits sound.commands sound.each;
    admitted = sound.admitted;
    format = sound.formatted;
    are = found_are stored sound.limits sound.commands sound.each;
    stores = found_stored stored sound.limits sound.commands sound.each;
  },
  λ it. record { limits = it.limits; commands = it.commands; admitted = it.admitted; formatted = it.format ∙ it.are.format; each = defined stored it.limits it.commands it.tables it.are it.stores },
)
