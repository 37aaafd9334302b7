-- Which tables some schemas have, by computation.
use Rattle.std.proofs.Common.{◌≡◌, codes, [], ◌∷◌, None, true, false, refl}
use Rattle.sqlite_schema.specs.Names.{same_name}
use Rattle.wh_policy.specs.Formats.{is_two}
use Rattle.wh_rows.specs.Schema as schema
use Rattle.wh_policy.specs.declared.format.Format.{Format}
use Rattle.wh_policy.specs.declared.format.Format.TheVariants.{One, Two}
use Rattle.wh_rows.specs.Schema.{no_schema, warehouse, schema_in}
use Rattle.wh_sql.specs.Present.{is_any_taken, is_second_taken, has_tables, has_second}

-- ---- whether the ten tables are there

pub all_of_a_warehouse : (format : Format) → has_tables (schema_in format) ≡ true
unfolding has_tables same_name
all_of_a_warehouse One = refl
all_of_a_warehouse Two = refl

pub all_of_none : has_tables no_schema ≡ false
unfolding has_tables same_name
all_of_none = refl

-- nine tables
all_but_one : has_tables (record warehouse { tables = schema.command ∷ schema.member ∷ schema.change ∷ schema.product ∷ schema.store ∷ schema.customer ∷ schema.profile ∷ schema.calendar ∷ schema.fact ∷ [] }) ≡ false
unfolding has_tables same_name
all_but_one = refl

-- ten tables in another order, of which one has a name in upper case
in_another_order : has_tables (record warehouse { tables = schema.fact ∷ schema.command ∷ schema.member ∷ schema.change ∷ schema.product ∷ schema.store ∷ schema.customer ∷ schema.profile ∷ schema.calendar ∷ record schema.meta { name = codes "META" } ∷ [] }) ≡ true
unfolding has_tables same_name
in_another_order = refl

-- one of the ten has a column too few
a_column_too_few : has_tables (record warehouse { tables = record schema.meta { columns = schema.text (codes "name") ∷ [] } ∷ schema.command ∷ schema.member ∷ schema.change ∷ schema.product ∷ schema.store ∷ schema.customer ∷ schema.profile ∷ schema.calendar ∷ schema.fact ∷ [] }) ≡ false
unfolding has_tables same_name
a_column_too_few = refl

-- the tables that the second format adds are there in that format alone
pub second_of_a_warehouse : (format : Format) → has_second (schema_in format) ≡ is_two format
unfolding has_second same_name
second_of_a_warehouse One = refl
second_of_a_warehouse Two = refl

-- ---- whether one of their names is taken

-- in a warehouse of the first format those of the second are free
pub second_taken : (format : Format) → is_second_taken (schema_in format) ≡ is_two format
unfolding is_second_taken same_name
second_taken One = refl
second_taken Two = refl

-- a table of the name in upper case takes it
taken_by_second : is_any_taken (record no_schema { tables = record schema.meta { name = codes "Void" } ∷ [] }) ≡ true
unfolding is_any_taken is_second_taken same_name
taken_by_second = refl

pub taken_in_a_warehouse : is_any_taken warehouse ≡ true
unfolding is_any_taken is_second_taken same_name
taken_in_a_warehouse = refl

pub taken_in_none : is_any_taken no_schema ≡ false
unfolding is_any_taken is_second_taken same_name
taken_in_none = refl

-- by a table of another name it is not
taken_by_another : is_any_taken (record no_schema { tables = record schema.meta { name = codes "ledger" } ∷ [] }) ≡ false
unfolding is_any_taken is_second_taken same_name
taken_by_another = refl

-- by a table of the name in upper case
taken_by_a_table : is_any_taken (record no_schema { tables = record schema.meta { name = codes "FACT" } ∷ [] }) ≡ true
unfolding is_any_taken is_second_taken same_name
taken_by_a_table = refl

taken_by_an_index : is_any_taken (record no_schema { indexes = schema.index (codes "calendar") 0 1 (1 ∷ []) false ∷ [] }) ≡ true
unfolding is_any_taken is_second_taken same_name
taken_by_an_index = refl

taken_by_a_view : is_any_taken (record no_schema { views = record { name = codes "Store"; tree = 0; sql = []; foreign = None; binds = false; is_bound = false } ∷ [] }) ≡ true
unfolding is_any_taken is_second_taken same_name
taken_by_a_view = refl
