-- The rows that a scan has still to hand out.
use Rattle.std.specs.Prelude.{Ok, IfOk, OnErr, ◌≡◌, List, [], ◌∷◌, ◌++◌, map, filter, Bool, true, false, Option, None, Some, Result, if◌then◌else◌, IsTrue, IfErr}
use Rattle.std.specs.List.{list_all}
use Rattle.std.specs.FinMap.{FinMap, values}
use Rattle.std.specs.Vec.Iter.{into_iter_items}
use Rattle.sqlite_trees.specs.declared.store.Store.{Ghosts}
use Rattle.sqlite.specs.Order.{Row}
use Rattle.sqlite.specs.State.{HasCleanDisk}
use Rattle.wh_rows.specs.Holds.{Layout}
use Rattle.wh_rows.specs.Parts.{PartTexts, forward, part_text, bind_part, is_behind, stands_behind, IsArranged}
use Rattle.wh_rows.specs.declared.table.Table.{Table}
use Rattle.wh_sql.specs.Page.{HasKey}
use Rattle.wh_policy.specs.declared.format.Format.{Format}
use Rattle.wh_rows.specs.Names.{is_there}
use Rattle.wh_rows.specs.Tables.{Tables as TypedTables}
use Rattle.wh_sql.specs.Reads.{IsOfAskedDamage, FailsToShow, ReadsOnly}
use Rattle.wh_sql.specs.declared.fault.ReadFault.{ReadFault}
use Rattle.wh_sql.specs.Answers.{state_of, SaysAsStored, SaysInFormat, SaysAsStoredIn}
use Rattle.wh_store.specs.declared.scan.Cursor.{Cursor}
use Rattle.wh_sql.specs.declared.at_rest.Tables.{Tables}

-- of a table, those that were read ahead, and then those after the last of them
abbrev pub rows_left : {K V : Type 0} (layout : Layout K V) → FinMap layout.order V → Cursor K V → List V
rows_left layout rows cursor = into_iter_items cursor.ahead ++ (if cursor.is_over then [] else filter (is_behind layout cursor.unread.after) (values rows))

-- the first of them is handed out; none comes only where none is left
abbrev pub HandsOut : {V : Type 0} → List V → Option V → List V → Type 0
HandsOut left None rest = (left ≡ []) × (rest ≡ [])
HandsOut left (Some row) rest = left ≡ row ∷ rest

-- nothing is handed out any more, and nothing is read
abbrev pub IsOver : {K V : Type 0} → Cursor K V → Type 0
IsOver cursor = (into_iter_items cursor.ahead ≡ []) × IsTrue cursor.is_over

-- ---- of any rows that are stored

-- those after the key of the last that was read, in the order of their keys; none where nothing is read any more
abbrev pub AreUnread : {K V : Type 0} → Layout K V → (K → Row) → List Row → Option K → Bool → List Row → Type 0
AreUnread layout bind stored after true rows = rows ≡ []
AreUnread layout bind stored after false rows = IsArranged layout.table (filter (stands_behind layout bind after) stored) rows

-- those that were read ahead, and then these
abbrev pub AreAheadOf : {K V : Type 0} → Layout K V → (K → Row) → List Row → List V → Option K → Bool → List Row → Type 0
AreAheadOf layout bind stored ahead after is_over rows = (unread : List Row) × AreUnread layout bind stored after is_over unread × (rows ≡ map layout.encode ahead ++ unread)

-- these are left to hand out, in the order of their keys
abbrev pub AreLeft : {K V : Type 0} → Layout K V → (K → Row) → List Row → Cursor K V → List Row → Type 0
AreLeft layout bind stored cursor = AreAheadOf layout bind stored (into_iter_items cursor.ahead) cursor.unread.after cursor.is_over

-- what was left is the row that is handed out, and then what is left, however that is ordered; none comes only where none was left
abbrev pub HandsOutSo : {K V : Type 0} → Layout K V → (K → Row) → List Row → List V → Option K → Bool → Option V → (List Row → Type 0) → Type 0
HandsOutSo layout bind stored ahead after is_over None WasLeft = WasLeft []
HandsOutSo layout bind stored ahead after is_over (Some row) WasLeft = (left : List Row) → AreAheadOf layout bind stored ahead after is_over left → WasLeft (layout.encode row ∷ left)

abbrev pub HandsOutOf : {K V : Type 0} → Layout K V → (K → Row) → List Row → Cursor K V → Option V → Cursor K V → Type 0
HandsOutOf layout bind stored before found after = HandsOutSo layout bind stored (into_iter_items after.ahead) after.unread.after after.is_over found (AreLeft layout bind stored before)

-- those that were read ahead are of their types
abbrev pub AreValid : {K V : Type 0} → Layout K V → Cursor K V → Type 0
AreValid layout cursor = IsTrue (list_all layout.is_valid (into_iter_items cursor.ahead))

-- ---- why the next part isn't read

-- The question for the part of a table after a key of it fails: memory ran out, the answer has a damaged row, or the database refused the question.
abbrev pub FailsToShowPart : {S K V A : Type 0} → Ghosts S → Layout K V → Table → PartTexts → (K → Row) → Option K → Tables S → Tables S → Result A ReadFault → Type 0
FailsToShowPart g layout table texts bind after old new result =
    HasCleanDisk (state_of g new) → HasKey layout after → IfErr result (FailsToShow layout table (part_text texts after) (bind_part bind after) (state_of g old) (state_of g new))

-- the damage that it reports is that of a row of this part, of any rows that are stored
abbrev pub IsOfDamagedPart : {S K V A : Type 0} → Ghosts S → Layout K V → Table → PartTexts → (K → Row) → Option K → Tables S → Tables S → Result A ReadFault → Type 0
IsOfDamagedPart g layout table texts bind after old new result =
    SaysAsStored (state_of g old) (state_of g new) (λ stored. IfErr result (IsOfAskedDamage (Some (forward texts.most)) layout table (filter (stands_behind layout bind after) (stored.rows table))))

-- ---- a step of a scan

-- The next row of a table is handed out, or none is left, or the part that it is in isn't read. Of any stored rows none is missed, and none comes twice.
pub record ScansOn {S K V : Type 0} (g : Ghosts S) (name : Table) (layout : Layout K V) (rows_in : TypedTables → FinMap layout.order V) (texts : PartTexts) (bind : K → Row) (format : Format) (old new : Tables S) (before after : Cursor K V) (result : Result (Option V) ReadFault) : Type 0 where
  pub reads : ReadsOnly (state_of g old) (state_of g new) result
  pub rows : SaysInFormat g name format old new (λ t. IfOk result (λ found. HandsOut (rows_left layout (rows_in t) before) found (rows_left layout (rows_in t) after)))
  pub stored : SaysAsStoredIn g name format old new (λ stored. IfOk result (λ found. HandsOutOf layout bind (stored.rows name) before found after))
  -- a damaged row is reported with the part that it is in
  pub damaged : IsOfDamagedPart g layout name texts bind before.unread.after old new result
  pub refused : FailsToShowPart g layout name texts bind before.unread.after old new result
  pub keyed : SaysAsStoredIn g name format old new (λ _. HasKey layout before.unread.after → IfOk result (λ _. HasKey layout after.unread.after))
  pub ended : OnErr result (IsOver after)
  pub over : IsOver before → (result ≡ Ok None) × (new ≡ old) × IsOver after
  -- of a table that the format hasn't nothing is asked
  pub absent : is_there name format ≡ false → into_iter_items before.ahead ≡ [] → (result ≡ Ok None) × (new ≡ old) × (into_iter_items after.ahead ≡ [])
