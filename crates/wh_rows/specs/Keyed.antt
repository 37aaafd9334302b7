-- A table whose rows stand at keys, and the texts of its statements.
use Rattle.std.specs.Prelude.{◌≡◌, Bool, true, false, [], IsTrue}
use Rattle.std.specs.List.{list_all}
use Rattle.std.specs.Ordering.{eq_by_cmp}
use Rattle.std.specs.FinMap.{FinMap}
use Rattle.sqlite.specs.Order.{Row}
use Rattle.sqlite_value.specs.declared.value.Value.{Value}
use Rattle.sqlite_value.specs.declared.value.Value.TheVariants.{Null, Int, Real, Text, Blob}
use Rattle.sqlite.specs.Listing.{understood}
use Rattle.wh_policy.specs.declared.format.Format.{Format}
use Rattle.wh_rows.specs.declared.table.Table.{Table}
use Rattle.wh_rows.specs.Holds.{Layout}
use Rattle.wh_rows.specs.Meaning.{Means, PutsOne, RemovesOne, ReadsSome, CountsAll}
use Rattle.wh_rows.specs.Names.{is_there}
use Rattle.wh_rows.specs.Place.{IsPlaced}
use Rattle.wh_rows.specs.Raw.{Stored, HasDamage, HasDamageIn, ReadsStored, table_of}
use Rattle.wh_rows.specs.Schema.{schema_in}
use Rattle.wh_rows.specs.Tables.{Tables}
use Rattle.wh_rows.specs.Texts.{Texts}

-- an integer, a text or a blob
abbrev pub is_plain : Value → Bool
is_plain Null = false
is_plain (Int n) = true
is_plain (Real x) = false
is_plain (Text t) = true
is_plain (Blob b) = true

-- Its texts mean the statements of their names where the table is there; in a format that hasn't the table they aren't understood.
pub record IsKeyed {K R : Type 0} (layout : Layout K R) (rows : Tables → FinMap layout.order R) (with_rows : FinMap layout.order R → Tables → Tables) (name : Table) (bind : K → Row) (stands_at : K → Row → Bool) (texts : Texts) : Type 0 where
  pub puts : (format : Format) → Means (is_there name format) (PutsOne (schema_in format) layout texts.put) (understood (schema_in format) texts.put)
  pub removes : (format : Format) → Means (is_there name format) (RemovesOne (schema_in format) layout bind texts.remove) (understood (schema_in format) texts.remove)
  pub lists : (format : Format) → Means (is_there name format) (ReadsSome (schema_in format) layout [] (λ row. true) texts.all) (understood (schema_in format) texts.all)
  pub finds : (format : Format) (key : K) → Means (is_there name format) (ReadsSome (schema_in format) layout (bind key) (λ row. eq_by_cmp layout.order key (layout.key row)) texts.get) (understood (schema_in format) texts.get)
  pub counts : (format : Format) → Means (is_there name format) (CountsAll (schema_in format) layout texts.count) (understood (schema_in format) texts.count)
  -- the same of any stored rows
  pub lists_stored : (format : Format) → Means (is_there name format) (ReadsStored (schema_in format) layout [] (λ row. true) (λ row. true) texts.all) (understood (schema_in format) texts.all)
  pub finds_stored : (format : Format) (key : K) → Means (is_there name format) (ReadsStored (schema_in format) layout (bind key) (stands_at key) (λ row. eq_by_cmp layout.order key (layout.key row)) texts.get) (understood (schema_in format) texts.get)
  pub named : table_of name ≡ layout.table
  -- damage among the rows that are stored in it is damage in the table of its name
  pub harmed : (stored : Stored) → HasDamage layout (stored.rows name) → HasDamageIn stored name
  pub placed : IsPlaced layout rows with_rows (is_there name)
  -- its columns hold integers, texts and blobs alone
  pub plain : (row : R) → IsTrue (list_all is_plain (layout.encode row))
