-- What the text of a statement has to mean.
use Rattle.std.specs.Prelude.{◌≡◌, ℕ, ◌/◌, Bool, true, false, List, [], ◌∷◌, length, drop, slice_get, Some, None, Ok, Err, Result, ℤ, ◌&&◌, ◌++◌, Option, map, flat_map, ⊤}
use Rattle.std.specs.List.{list_all}
use Rattle.std.specs.Ordering.{eq_by_cmp}
use Rattle.sqlite.specs.Order.{Row}
use Rattle.sqlite_value.specs.declared.keys.Key.{Key}
use Rattle.sqlite.specs.Tree.{rowid}
use Rattle.sqlite.specs.Term.{Term, col, holds, op2}
use Rattle.sqlite.specs.Query.{Output, output, output_cmp}
use Rattle.sqlite.specs.Table.{Table}
use Rattle.sqlite.specs.Schema.{Schema}
use Rattle.sqlite.specs.Source.TheVariants.{Values}
use Rattle.sqlite.specs.Command.{Command}
use Rattle.sqlite.specs.Command.TheVariants.{Select, Insert, InsertOr, Delete, Nothing, Update}
use Rattle.sqlite.specs.Rowids.TheVariants.{Chosen}
use Rattle.sqlite_resolve.specs.declared.compiled.Compiled.{Compiled}
use Rattle.sqlite_resolve.specs.declared.error.CompileError.{CompileError}
use Rattle.sqlite_schema.specs.declared.schema.Keys.{Keys}
use Rattle.sqlite_schema.specs.declared.command.Conflict.TheVariants.{Abort}
use Rattle.sqlite_rules.specs.Lists.{Has}
use Rattle.sqlite_rules.specs.Keys.{conflicts}
use Rattle.sqlite_rules.specs.Cast.{cast_row}
use Rattle.sqlite_rules.specs.Edit.{with_rowid}
use Rattle.sqlite_rules.specs.Action.{works}
use Rattle.sqlite.specs.Effect.{value_rows}
use Rattle.sqlite.specs.Rows.{shown}
use Rattle.sqlite.specs.Given.{IsPlain}
use Rattle.sqlite.specs.Listing.{understood, reads_listing}
use Rattle.wh_rows.specs.Statements.{reading, counting}
use Rattle.wh_rows.specs.Holds.{Layout, values_of}
use Rattle.std.specs.declared.cmp.Ordering.{Ordering}
use Rattle.std.specs.FinMap.{FinMap, insert}
use Rattle.sqlite.specs.Collation.TheVariants.{Binary}
use Rattle.sqlite_value.specs.declared.value.Value.{Value}
use Rattle.sqlite_value.specs.declared.value.Value.TheVariants.{Int}
use Rattle.sqlite_sql.specs.declared.ops.BinaryOp.TheVariants.{Compare}
use Rattle.sqlite_sql.specs.declared.ops.CompareOp.TheVariants.{Eq}
use Rattle.sqlite_schema.specs.declared.schema.Index.{Index}
use Rattle.sqlite_schema.specs.Rules.{equal, agree, guards}

abbrev pub command_of : Result Compiled CompileError → Command
command_of (Ok c) = c.command
command_of (Err e) = Nothing

-- the text isn't understood
abbrev pub IsUnknown : Result Compiled CompileError → Type 0
IsUnknown (Ok c) = ⊥
IsUnknown (Err e) = ⊤

-- a text on a table means something where the table is there, and elsewhere it isn't understood
abbrev pub Means : Bool → Type 0 → Result Compiled CompileError → Type 0
Means true It read = It
Means false It read = IsUnknown read

-- the row passes the tests
abbrev pub passes : Row → List Term → Row → Bool
passes params tests row = list_all (holds (params ∷ row ∷ [])) tests

-- a table that no other table refers to, and whose rows are not counted or stamped with the time
pub record IsPlainTable (schema : Schema) (at : ℕ) (table : Table) : Type 0 where
  pub has : slice_get schema.tables at ≡ Some table
  pub uncounted : table.is_counted ≡ false
  pub unstamped : table.stamps.terms ≡ []
  pub idle : (keys : Keys) (olds news : List Row) → works schema keys 0 table.tree olds news ≡ []

-- the row has the rowid that the parameters have at this place
abbrev pub same_rowid : ℕ → List Term
same_rowid here = op2 (Compare Eq Binary) (col 1 0) (col 0 here) ∷ []

-- what a text has to mean, to put the row that its parameters are at its key, over the row that is there
pub record PutsOne {K V : Type 0} (under : Schema) (layout : Layout K V) (text : List ℕ) : Type 0 where
  pub at : ℕ
  pub table : IsPlainTable under at layout.table
  pub terms : List Term
  pub width : ℕ
  pub target : List ℕ
  pub here : ℕ
  pub cells : List Term
  pub command : command_of (understood under text)
      ≡ InsertOr at Abort (Values terms width) (record { target = Some target; update = Some (record { lets = []; body = reading layout.table.tree (same_rowid here) (col 1 0 ∷ cells) [] }) } ∷ [])
  pub plain : IsPlain (understood under text)
  -- the row as it is written where none is there, less a rowid that is chosen
  pub source : V → Row
  pub given : (v : V) → value_rows (layout.encode v) width (length terms / width) terms ≡ source v ∷ []
  pub own : (v : V) → cast_row layout.table (source v) ≡ source v
  pub kept : (v : V) (rows : List Row) → cast_row layout.table (drop 0 (with_rowid Chosen rows (source v))) ≡ with_rowid Chosen rows (source v)
  pub shows : (v : V) (rows : List Row) → values_of layout.table (with_rowid Chosen rows (source v)) ≡ layout.encode v
  -- the row in the way is that of the key
  pub test : V → Row → Bool
  pub hits : (v : V) (rows : List Row) (r : Row) → conflicts (Some target) under.indexes layout.table (with_rowid Chosen rows (source v)) r ≡ test v (values_of layout.table r)
  pub agree : (v w : V) → test v (layout.encode w) ≡ eq_by_cmp layout.order (layout.key v) (layout.key w)
  -- the update finds it by its rowid, and this is what it writes after the rowid
  pub finds : (v : V) (rows : List Row) (id : Value) (r : Row) → passes (layout.encode v ++ id ∷ shown layout.table (with_rowid Chosen rows (source v))) (same_rowid here) r ≡ (equal Binary (rowid r) id && true)
  pub over : V → Row → Row
  pub writes : (v : V) (rows : List Row) (id : Value) (r : Row)
      → drop 1 (output (reading layout.table.tree (same_rowid here) (col 1 0 ∷ cells) []) ((layout.encode v ++ id ∷ shown layout.table (with_rowid Chosen rows (source v))) ∷ r ∷ [])).1 ≡ rowid r ∷ over v (values_of layout.table r)
  pub remade : (v w : V) → layout.key w ≡ layout.key v → (r : Row) (n : ℤ) → rowid r ≡ Int n → values_of layout.table r ≡ layout.encode w
      → (cast_row layout.table (Int n ∷ over v (layout.encode w)) ≡ Int n ∷ over v (layout.encode w)) × (values_of layout.table (Int n ∷ over v (layout.encode w)) ≡ layout.encode v)

-- what a text has to mean, to put in so many rows, which its parameters are, one after the other
pub record InsertsEach {K V : Type 0} (under : Schema) (layout : Layout K V) (many : ℕ) (text : List ℕ) : Type 0 where
  pub at : ℕ
  pub table : IsPlainTable under at layout.table
  pub terms : List Term
  pub width : ℕ
  pub command : command_of (understood under text) ≡ Insert at (Values terms width)
  pub plain : IsPlain (understood under text)
  -- a row as it is written, less a rowid that is chosen
  pub source : V → Row
  pub given : (vs : List V) → length vs ≡ many → value_rows (flat_map layout.encode vs) width (length terms / width) terms ≡ map source vs
  pub own : (v : V) → cast_row layout.table (source v) ≡ source v
  pub shows : (v : V) (rows : List Row) → values_of layout.table (with_rowid Chosen rows (source v)) ≡ layout.encode v

-- what a text has to mean, to take out the row of the key that its parameters are
pub record RemovesOne {K V : Type 0} (under : Schema) (layout : Layout K V) (bind : K → Row) (text : List ℕ) : Type 0 where
  pub at : ℕ
  pub table : IsPlainTable under at layout.table
  pub tests : List Term
  pub command : command_of (understood under text) ≡ Delete at (record { lets = []; body = reading layout.table.tree tests (col 1 0 ∷ []) [] })
  pub plain : IsPlain (understood under text)
  pub test : K → Row → Bool
  pub hits : (k : K) (r : Row) → passes (bind k) tests r ≡ test k (values_of layout.table r)
  pub agree : (k : K) (w : V) → test k (layout.encode w) ≡ eq_by_cmp layout.order k (layout.key w)

-- what a text has to mean, to take out all rows
pub record RemovesAll {K V : Type 0} (under : Schema) (layout : Layout K V) (text : List ℕ) : Type 0 where
  pub at : ℕ
  pub table : IsPlainTable under at layout.table
  pub command : command_of (understood under text) ≡ Delete at (record { lets = []; body = reading layout.table.tree [] (col 1 0 ∷ []) [] })
  pub plain : IsPlain (understood under text)

-- what a text has to mean, to change the row of a key, if it has one, to what the parameters make of it
pub record MovesOne {K V P : Type 0} (under : Schema) (layout : Layout K V) (bind : P → Row) (key : P → K) (moved : P → V → V) (text : List ℕ) : Type 0 where
  pub at : ℕ
  pub table : IsPlainTable under at layout.table
  pub tests : List Term
  pub cells : List Term
  pub command : command_of (understood under text) ≡ Update at (record { lets = []; body = reading layout.table.tree tests (col 1 0 ∷ cells) [] })
  pub plain : IsPlain (understood under text)
  pub test : P → Row → Bool
  pub hits : (p : P) (r : Row) → passes (bind p) tests r ≡ test p (values_of layout.table r)
  pub agree : (p : P) (w : V) → test p (layout.encode w) ≡ eq_by_cmp layout.order (key p) (layout.key w)
  -- what it writes after the rowid
  pub over : P → Row → Row
  pub writes : (p : P) (r : Row) → drop 1 (output (reading layout.table.tree tests (col 1 0 ∷ cells) []) (bind p ∷ r ∷ [])).1 ≡ rowid r ∷ over p (values_of layout.table r)
  pub remade : (p : P) (w : V) (r : Row) (n : ℤ) → rowid r ≡ Int n → values_of layout.table r ≡ layout.encode w
      → (cast_row layout.table (Int n ∷ over p (layout.encode w)) ≡ Int n ∷ over p (layout.encode w)) × (values_of layout.table (Int n ∷ over p (layout.encode w)) ≡ layout.encode (moved p w))
  pub same_key : (p : P) (w : V) → layout.key (moved p w) ≡ layout.key w

-- the map with the row of a key, where it has one, changed
abbrev pub moved_at : {K V : Type 0} {R : K → K → Ordering} → FinMap R V → K → (V → V) → Option V → FinMap R V
moved_at m k f None = m
moved_at m k f (Some w) = insert m k (f w)

-- a second key of a table's rows, and which rows have the same
pub record KeepsApart {K V : Type 0} (under : Schema) (layout : Layout K V) (clash : V → V → Bool) : Type 0 where
  pub index : Index
  pub among : Has under.indexes index
  pub guards : guards index layout.table ≡ true
  pub meets : Row → Row → Bool
  pub agrees : (r x : Row) → agree index.order index.columns r index.columns x ≡ meets (values_of layout.table r) (values_of layout.table x)
  pub same : (v w : V) → meets (layout.encode w) (layout.encode v) ≡ clash v w

-- what a text has to mean, to show the rows of a table that pass a test, in the order of their keys
pub record ReadsSome {K V : Type 0} (under : Schema) (layout : Layout K V) (params : Row) (keep : V → Bool) (text : List ℕ) : Type 0 where
  pub tests : List Term
  pub project : List Term
  pub order : List (Term × Key)
  pub names : List (List ℕ)
  pub command : command_of (understood under text) ≡ Select (record { lets = []; body = reading layout.table.tree tests project order }) names
  pub plain : IsPlain (understood under text)
  pub unlisted : reads_listing under text ≡ false
  pub test : Row → Bool
  pub hits : (r : Row) → passes params tests r ≡ test (values_of layout.table r)
  pub agree : (v : V) → test (layout.encode v) ≡ keep v
  -- what a row is sorted by, and all that it shows
  pub sorted_by : Row → Row
  pub shows : (r : Row) → ◌≡◌ {A = Output} (output (reading layout.table.tree tests project order) (params ∷ r ∷ [])) (sorted_by (values_of layout.table r), values_of layout.table r)
  pub in_order : (v w : V) → output_cmp (reading layout.table.tree tests project order) (sorted_by (layout.encode v), layout.encode v) (sorted_by (layout.encode w), layout.encode w) ≡ layout.order (layout.key v) (layout.key w)

-- what a text has to mean, to count the rows of a table
pub record CountsAll {K V : Type 0} (under : Schema) (layout : Layout K V) (text : List ℕ) : Type 0 where
  pub names : List (List ℕ)
  pub command : command_of (understood under text) ≡ Select (record { lets = []; body = counting layout.table.tree [] }) names
  pub plain : IsPlain (understood under text)
  pub unlisted : reads_listing under text ≡ false
