-- What a call inside a transaction leaves, what it makes, and what a transaction leaves that is undone.
use Rattle.std.specs.Prelude.{◌≡◌, ◌≢◌, ◌≤◌, ◌<◌, ◌+◌, ◌⊎◌, false, if◌then◌else◌, IfOk, ℕ, ⊤, Bool, List, Option, Some, Result, Ok, Err, OnOk, IsErr, IfErr, IsTrue}
use Rattle.sqlite_trees.specs.declared.store.Store.{Ghosts}
use Rattle.sqlite.specs.Order.{Row}
use Rattle.sqlite.specs.State.{State, HasCleanDisk}
use Rattle.wh_rows.specs.declared.cause.Cause.{Cause}
use Rattle.wh_rows.specs.declared.cause.Cause.TheVariants.{Memory}
use Rattle.wh_rows.specs.AtRest.{IsAtRest, IsWriting, Leaves, IsCauseOf}
use Rattle.wh_rows.specs.Inserting.{rows_at_once, BreaksRule}
use Rattle.wh_rows.specs.Tables.{Tables}
use Rattle.wh_sql.specs.Refused.{IsOneRefused}
use Rattle.wh_sql.specs.Answers.{state_of}
use Rattle.wh_sql.specs.declared.at_rest.Tables.{Tables as Opened}
use Rattle.wh_sql.specs.declared.writing.Writing.{Writing}

-- Where the disk returned what was written until now, it did so before, and no fault is forgotten; and where the rows may be put, a crash leaves what
-- the transaction began with.
pub record WritesOnly (old new : State) (may : Type 0) : Type 0 where
  pub clean : HasCleanDisk new → HasCleanDisk old
  pub counts : old.faults ≤ new.faults
  pub left : HasCleanDisk new → (before : Option Tables) (made : Tables) → IsWriting before (Some made) old → may → Leaves before new

-- where the rows may be put, the tables that the transaction has made are these after an answer
abbrev pub Makes : {A : Type 0} → State → State → Result A Cause → Type 0 → (Tables → Tables) → Type 0
Makes old new result may step = HasCleanDisk new → (before : Option Tables) (made : Tables) → IsWriting before (Some made) old → may → OnOk result (IsWriting before (Some (step made)) new)

-- what becomes of the mark that a write was refused: a refusal sets it, and an answer leaves it
abbrev pub NotesRefusals : {A : Type 0} → Bool → Bool → Result A Cause → Type 0
NotesRefusals old new (Ok _) = new ≡ old
NotesRefusals old new (Err _) = IsTrue new

-- a crash leaves what the transaction began with, and so does the connection where it is still open
abbrev pub Undoes : State → State → Type 0
Undoes old new = HasCleanDisk new → (before made : Option Tables) → IsWriting before made old → Leaves before new × (IsTrue new.is_open → IsAtRest before new)

-- what is so inside a transaction that has made tables
abbrev pub SaysInWriting : {S : Type 0} → Ghosts S → Opened S → Opened S → Type 0 → Type 0
SaysInWriting g old new fact = HasCleanDisk (state_of g new) → (before : Option Tables) (made : Tables) → IsWriting before (Some made) (state_of g old) → fact

-- an error that is not of memory tells which of these statements the database refused, and why
abbrev pub TellsRefused : {S A : Type 0} → Ghosts S → List (List ℕ × Row) → Opened S → Opened S → Result A Cause → Type 0
TellsRefused g statements old new result = IfErr result (λ cause. cause ≢ Memory → IsOneRefused g IsCauseOf statements old.conn new.conn cause)

-- ---- what a call that writes answers

-- One key is written by a statement: where the rows may be put, the tables then are those after the step. An error that isn't of memory tells why the database
-- refused the statement, where its parameters are of their types. Once a refusal has ended the transaction there is an error, and the connection is left as it is.
pub record MakesEdit {S : Type 0} (g : Ghosts S) (old new : Writing S) (result : Result (Unit {0}) Cause) (may : Type 0) (step : Tables → Tables) (statement : List ℕ × Row) (of_types : Type 0) : Type 0 where
  pub same_reference : new.tables.ghost_name ≡ old.tables.ghost_name
  pub writes : WritesOnly (state_of g old.tables.now) (state_of g new.tables.now) ⊤
  pub edited : Makes (state_of g old.tables.now) (state_of g new.tables.now) result may step
  pub cause : HasCleanDisk (state_of g new.tables.now) → IsTrue (state_of g old.tables.now).in_transaction → old.writes < 18_446_744_073_709_551_615 → of_types
      → IfErr result (λ cause. cause ≢ Memory → IsCauseOf statement.0 statement.1 (state_of g old.tables.now) (state_of g new.tables.now) cause)
  pub counted : OnOk result (new.writes ≡ old.writes + 1)
  pub late : old.tables.now.conn.in_transaction ≡ false → IsErr result × (new.tables.now.conn ≡ old.tables.now.conn)
  pub noted : NotesRefusals old.refused new.refused result

-- So many keys are written by statements, one after the other.
pub record MakesEdits {S : Type 0} (g : Ghosts S) (old new : Writing S) (result : Result (Unit {0}) Cause) (may : Type 0) (step : Tables → Tables) (keys : ℕ) (statements : List (List ℕ × Row)) (of_types : Type 0) : Type 0 where
  pub same_reference : new.tables.ghost_name ≡ old.tables.ghost_name
  pub writes : WritesOnly (state_of g old.tables.now) (state_of g new.tables.now) may
  pub edited : Makes (state_of g old.tables.now) (state_of g new.tables.now) result may step
  pub cause : SaysInWriting g old.tables.now new.tables.now (may → of_types → old.writes + keys ≤ 18_446_744_073_709_551_615 → TellsRefused g statements old.tables.now new.tables.now result)
  pub counted : OnOk result (new.writes ≡ old.writes + keys)
  pub noted : NotesRefusals old.refused new.refused result

-- So many new rows are put by one statement, or none: where there are not sixteen of them, or they break a rule of the schema. Once a refusal has ended the
-- transaction there is an error, and the connection is left as it is.
pub record InsertsRows {S : Type 0} (g : Ghosts S) (old new : Writing S) (result : Result Bool Cause) (may : Type 0) (step : Tables → Tables) (keys : ℕ) (statement : List ℕ × Row) : Type 0 where
  pub same_reference : new.tables.ghost_name ≡ old.tables.ghost_name
  pub writes : WritesOnly (state_of g old.tables.now) (state_of g new.tables.now) ⊤
  pub inserted : HasCleanDisk (state_of g new.tables.now) → (before : Option Tables) (made : Tables) → IsWriting before (Some made) (state_of g old.tables.now) → may
      → IfOk result (λ inserted. IsWriting before (Some (if inserted then step made else made)) (state_of g new.tables.now))
  pub sixteen : IfOk result (λ inserted. IsTrue inserted → keys ≡ rows_at_once)
  pub refused : HasCleanDisk (state_of g new.tables.now) → IfOk result (λ inserted. inserted ≡ false → (keys ≢ rows_at_once) ⊎ BreaksRule statement.0 statement.1 (state_of g old.tables.now) (state_of g new.tables.now))
  pub counted : IfOk result (λ inserted. new.writes ≡ old.writes + (if inserted then keys else 0))
  pub cause : HasCleanDisk (state_of g new.tables.now) → IsTrue (state_of g old.tables.now).in_transaction → old.writes + keys ≤ 18_446_744_073_709_551_615 → may
      → IfErr result (λ cause. cause ≢ Memory → IsCauseOf statement.0 statement.1 (state_of g old.tables.now) (state_of g new.tables.now) cause)
  pub late : old.tables.now.conn.in_transaction ≡ false → IsErr result × (new.tables.now.conn ≡ old.tables.now.conn)
  pub noted : NotesRefusals old.refused new.refused result
