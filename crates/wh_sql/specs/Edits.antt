-- Edits of one table, one after the other.
use Rattle.std.specs.Prelude.{◌≡◌, ℕ, List, [], ◌∷◌, map, flat_map, take, IsTrue, ⊤}
use Rattle.std.specs.FinMap.{FinMap, remove}
use Rattle.sqlite_rules.specs.Lists.{Has}
use Rattle.sqlite.specs.Order.{Row}
use Rattle.wh_history.specs.declared.plan.Edit.{Edit}
use Rattle.wh_history.specs.declared.plan.Edit.TheVariants.{Put, Remove}
use Rattle.wh_rows.specs.Holds.{Layout}
use Rattle.wh_rows.specs.Inserting.{rows_at_once, bind_rows}
use Rattle.wh_rows.specs.Steps.{with_row}
use Rattle.wh_rows.specs.Texts.{Texts}

-- a table with one edit
abbrev pub with_edit : {K V : Type 0} (layout : Layout K V) → Edit V K → FinMap layout.order V → FinMap layout.order V
with_edit layout (Put row) m = with_row layout row m
with_edit layout (Remove key) m = remove m key

-- its values are of their types
abbrev pub IsValid : {K V : Type 0} → Layout K V → V → Type 0
IsValid layout row = IsTrue (layout.is_valid row)

-- the row that an edit puts, if it puts one, is so
abbrev pub Puts : {K V : Type 0} → (V → Type 0) → Edit V K → Type 0
Puts P (Put row) = P row
Puts P (Remove key) = ⊤

-- what is put, or stands at the key that is taken out, has values of their types
abbrev pub IsOfTypes : {K V : Type 0} (layout : Layout K V) → Edit V K → Type 0
IsOfTypes layout (Put row) = IsTrue (layout.is_valid row)
IsOfTypes layout (Remove key) = (row : _) × IsTrue (layout.is_valid row) × (layout.key row ≡ key)

-- so is each of these
abbrev pub AreOfTypes : {K V : Type 0} → Layout K V → List (Edit V K) → Type 0
AreOfTypes {K = K} {V = V} layout edits = (edit : Edit V K) → Has edits edit → IsOfTypes layout edit

-- the statement that makes an edit, with its parameters
abbrev pub statement_of : {K V : Type 0} (layout : Layout K V) (texts : Texts) (bind : K → Row) → Edit V K → List ℕ × Row
statement_of layout texts bind (Put row) = (texts.put, layout.encode row)
statement_of layout texts bind (Remove key) = (texts.remove, bind key)

-- ---- edits in parts

-- the rows that edits put
abbrev pub rows_put : {K V : Type 0} → List (Edit V K) → List V
rows_put [] = []
rows_put (Put row ∷ edits) = row ∷ rows_put edits
rows_put (Remove key ∷ edits) = rows_put edits

-- from each edit on, it and those that follow it, up to sixteen
abbrev pub runs_of : {E : Type 0} → List E → List (List E)
runs_of [] = []
runs_of (edit ∷ edits) = take rows_at_once (edit ∷ edits) ∷ runs_of edits

-- the statements that may make a part of some edits: one that puts in all rows, and one for each edit
abbrev pub part_statements : {K V : Type 0} (layout : Layout K V) (texts : Texts) (bind : K → Row) (insert : List ℕ) → List (Edit V K) → List (List ℕ × Row)
part_statements layout texts bind insert part = (insert, bind_rows layout (rows_put part)) ∷ map (statement_of layout texts bind) part

-- those that may make all of them
abbrev pub statements_in_parts : {K V : Type 0} (layout : Layout K V) (texts : Texts) (bind : K → Row) (insert : List ℕ) → List (Edit V K) → List (List ℕ × Row)
statements_in_parts layout texts bind insert edits = flat_map (part_statements layout texts bind insert) (runs_of edits)
