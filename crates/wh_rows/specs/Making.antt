-- Making the tables and the indexes.
use Rattle.std.specs.Prelude.{◌≡◌, ◌⊎◌, ℕ, List, [], ◌∷◌, Ok, Err, Result, Some, false, slice_get, IsTrue, nat_le, if◌then◌else◌}
use Rattle.sqlite.specs.State.{text_of}
use Rattle.sqlite_resolve.specs.declared.compiled.Compiled.{Compiled}
use Rattle.sqlite_resolve.specs.declared.error.CompileError.{CompileError}
use Rattle.std.specs.List.{AllByRecursion}
use Rattle.sqlite.specs.Table.{Table}
use Rattle.sqlite.specs.Tree.{Trees}
use Rattle.sqlite.specs.Schema.{Schema}
use Rattle.sqlite.specs.Change.{created, indexed, next_tree}
use Rattle.sqlite.specs.Compile.{table_defined_by, index_defined_by}
use Rattle.sqlite.specs.Command.TheVariants.{CreateTable, CreateIndex}
use Rattle.sqlite.specs.Does.{lacks_sequence}
use Rattle.sqlite.specs.Given.{IsPlain}
use Rattle.sqlite.specs.Listing.{understood}
use Rattle.sqlite_schema.specs.declared.schema.Index.{Index}
use Rattle.wh_rows.specs.Meaning.{command_of}
use Rattle.wh_rows.specs.Schema as schema

-- no table has a row
abbrev pub AreEmpty : List Table → Trees → Type 0
AreEmpty tables trees = AllByRecursion (λ t. trees t.tree ≡ []) tables

-- the part of the text that is the statement
abbrev pub statement_of : List ℕ → Result Compiled CompileError → List ℕ
statement_of text (Ok c) = text_of text c
statement_of text (Err e) = []

-- what a text has to mean, to make a table in a database of this schema
pub record MakesTable (old : Schema) (text : List ℕ) (new : Schema) : Type 0 where
  pub command : command_of (understood old text) ≡ CreateTable
  pub whole : statement_of text (understood old text) ≡ text
  pub plain : IsPlain (understood old text)
  pub table : Table
  pub defined : table_defined_by text ≡ Ok table
  pub is : created old table ≡ new
  pub uncounted : lacks_sequence new ≡ false

-- what a text has to mean, to make an index
pub record MakesIndex (old : Schema) (text : List ℕ) (new : Schema) : Type 0 where
  pub at : ℕ
  pub table : Table
  pub has : slice_get old.tables at ≡ Some table
  pub command : command_of (understood old text) ≡ CreateIndex at
  pub whole : statement_of text (understood old text) ≡ text
  pub plain : IsPlain (understood old text)
  pub index : Index
  pub defined : index_defined_by table text ≡ Ok index
  pub is : indexed old table index ≡ new

-- the text makes a table or an index, and leads from the one schema to the other
abbrev pub Extends : Schema → List ℕ → Schema → Type 0
Extends from text to = MakesTable from text to ⊎ MakesIndex from text to

-- The texts, one after the other, lead from one schema to another, and each table that is made lies in a tree from this one on.
abbrev pub LeadsOver : ℕ → Schema → List (List ℕ) → Schema → Type 0
LeadsOver least from [] to = from ≡ to
LeadsOver least from (text ∷ texts) to = (next : Schema) × Extends from text next × IsTrue (nat_le least (next_tree from)) × LeadsOver least next texts to

-- the rows of the trees before this one, and none in the others
abbrev pub before_tree : ℕ → Trees → Trees
before_tree least trees tree = if nat_le least tree then [] else trees tree

-- the texts that make the warehouse: its tables, then its indexes
abbrev pub making_texts : List (List ℕ)
making_texts =
    schema.create_meta ∷ schema.create_command ∷ schema.create_member ∷ schema.create_change ∷ schema.create_product ∷ schema.create_store ∷ schema.create_customer ∷ schema.create_profile ∷ schema.create_calendar ∷ schema.create_fact
    ∷ schema.create_change_by_member ∷ schema.create_change_by_anchor ∷ schema.create_product_by_durable ∷ schema.create_store_by_durable ∷ schema.create_customer_by_durable ∷ schema.create_profile_by_values ∷ []

-- the texts that make the second format of it, where the first stands
abbrev pub upgrading_texts : List (List ℕ)
upgrading_texts = schema.create_fact2 ∷ schema.create_void ∷ []
