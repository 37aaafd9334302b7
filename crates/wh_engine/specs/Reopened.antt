-- What is left of a warehouse that can't be opened again after a crash.
use Rattle.std.specs.Prelude.{◌⊎◌, suc, List, length, take, Result}
use Rattle.sqlite_disk.specs.declared.Disk.{Ghosts}
use Rattle.sqlite_trees.specs.declared.store.Store.{Ghosts as StoreGhosts}
use Rattle.sqlite_wal.specs.Recovery.{Image}
use Rattle.sqlite.specs.Tree.{Trees}
use Rattle.sqlite.specs.State.{HasCleanDisk}
use Rattle.sqlite.specs.Files.{HoldsDatabase, file_state}
use Rattle.wh_history.specs.Accepted.{Accepted}
use Rattle.wh_history.specs.Tables.{Limits}
use Rattle.wh_rows.specs.Raw.{Stored, RestsOn, LeavesStored}
use Rattle.wh_store.specs.InFiles.{AreStoredIn, AreUnopened}
use Rattle.wh_store.specs.Opening.{SparesStore}
use Rattle.wh_sql.specs.Answers.{state_of}
use Rattle.wh_admission.specs.Admission.{AreAdmitted, accepted_after_all}
use Rattle.wh_engine.specs.Answered.{AreTreesOf, IsReady}
use Rattle.wh_engine.specs.Delivered.{AreAnswers}
use Rattle.wh_engine.specs.Opened.{IsNotOpened, IsUnopened}
use Rattle.wh_admission.specs.declared.command.Command.{Command}
use Rattle.wh_admission.specs.declared.command.Refusal.{Refusal}
use Rattle.wh_admission.specs.declared.command.Reply.{Reply}
use Rattle.wh_engine.specs.declared.engine.Engine.{Engine}
use Rattle.wh_engine.specs.declared.reopen.NotReopened.{NotReopened}
use Rattle.wh_engine.specs.declared.reopen.NotReopened.TheVariants as left

-- what is so where the engine is ready for commands, and of any two lists
abbrev pub WhereReady : {S : Type 0} → StoreGhosts S → Engine S → (Limits → List Accepted → Type 0) → Type 0
WhereReady g engine fact = (limits : Limits) (commands : List Accepted) → IsReady limits commands engine.session (state_of g engine.tables) → fact limits commands

abbrev pub OfAnyTwo : (Limits → List Accepted → List Accepted → Type 0) → Type 0
OfAnyTwo fact = (limits : Limits) (before after : List Accepted) → AreAdmitted limits before → AreAdmitted limits after → fact limits before after

-- it is ready for the first commands or for the second
abbrev pub IsReadyForEither : {S : Type 0} → StoreGhosts S → Limits → List Accepted → List Accepted → Engine S → Type 0
IsReadyForEither g limits before after engine =
    HasCleanDisk (state_of g engine.tables) → ∥ IsReady limits before engine.session (state_of g engine.tables) ⊎ IsReady limits after engine.session (state_of g engine.tables) ∥₁

-- a log and its database file recover to the tables of the first commands, or to those of the second
abbrev pub HoldsEither : Limits → List Accepted → List Accepted → Image → Type 0
HoldsEither limits before after image = ∥ ((trees : Trees) × HoldsDatabase image trees × (AreTreesOf limits before trees ⊎ AreTreesOf limits after trees)) ∥₁

-- A warehouse of the first commands or of the second isn't opened again, and this is known of it. The database refused the files, which held one of the two; or it
-- wasn't opened, since memory ran out or the database refused a call, and the connection rests with one of them, or a crash leaves it.
abbrev pub IsNotReady : {D : Type 0} {g : Ghosts D} → Limits → List Accepted → List Accepted → Type 0 → NotReopened D g → Type 0
IsNotReady limits before after Known (left.Files error rest) = AreUnopened (λ image. Known × HoldsEither limits before after image) rest error
IsNotReady limits before after Known (left.Warehouse fault conn) =
    HasCleanDisk (file_state conn) → Known × ∥ IsNotOpened limits before fault (file_state conn) ⊎ IsNotOpened limits after fault (file_state conn) ∥₁

-- The same of any rows that are stored: that it is none or is damaged is answered only where it is so by these rows, which are still there.
abbrev pub IsNotReadyOn : {D : Type 0} {g : Ghosts D} → Stored → NotReopened D g → Type 0
IsNotReadyOn stored (left.Files error rest) = AreUnopened (AreStoredIn stored) rest error
IsNotReadyOn stored (left.Warehouse fault conn) =
    HasCleanDisk (file_state conn) → ∥ IsUnopened stored fault × LeavesStored stored (file_state conn) × (SparesStore fault → RestsOn stored (file_state conn)) ∥₁

-- So it is of commands that were delivered with these answers before the crash: they are theirs, and the warehouse is that of the answered commands, or of
-- these and the next one.
abbrev pub IsNotDeliveredAgain : {D : Type 0} {g : Ghosts D} → Limits → List Accepted → List Command → List (Result Reply Refusal) → NotReopened D g → Type 0
IsNotDeliveredAgain limits commands sent answers =
    IsNotReady limits (accepted_after_all limits commands (take (length answers) sent)) (accepted_after_all limits commands (take (suc (length answers)) sent))
    (AreAnswers limits commands sent answers)
