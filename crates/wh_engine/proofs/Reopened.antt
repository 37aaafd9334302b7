-- What a warehouse has accepted that is opened again after a crash.
use Rattle.std.proofs.Common.{◌⊎◌, inl, inr, List, Some}
use Rattle.std.proofs.Math.Logic.{∥∥₁_map}
use Rattle.sqlite_disk.specs.declared.Disk.{Ghosts}
use Rattle.sqlite_wal.specs.Recovery.{Image}
use Rattle.sqlite.specs.State.{State, HasCleanDisk}
use Rattle.sqlite.specs.declared.error.Error.{Error}
use Rattle.sqlite.specs.declared.file.Leftover.{Leftover}
use Rattle.wh_history.specs.Accepted.{Accepted}
use Rattle.wh_history.specs.Tables.{Limits}
use Rattle.wh_rows.specs.Raw.{Stored, LeavesStored}
use Rattle.wh_store.specs.InFiles.{IsReopened, AreStoredIn, HoldsOneOf, AreUnopened, IsNotReopened}
use Rattle.wh_engine.specs.Answered.{AreTreesOf, LeavesOneOf, Rests}
use Rattle.wh_engine.specs.Reopened.{HoldsEither, IsNotReady, IsNotReadyOn}
use Rattle.wh_engine.specs.declared.reopen.NotReopened.{NotReopened}
use Rattle.wh_engine.specs.declared.reopen.NotReopened.TheVariants as left

found_of : (limits : Limits) (commands : List Accepted) (old new : State) (found : IsReopened old new) → AreTreesOf limits commands found.trees → Rests limits commands new
found_of limits commands old new found of = record { tables = of.tables; are = of.are; rests = found.rests (Some of.tables) of.trees_are }

-- the connection rests with the tables of the first commands, or with those of the second
pub rests_again : (limits : Limits) (before after : List Accepted) (old new : State) → LeavesOneOf limits before after old → IsReopened old new → Rests limits before new ⊎ Rests limits after new
rests_again limits before after old new leaves found = elim (leaves.each found.trees found.left) [
  | inl first ↦ inl (found_of limits before old new found first)
  | inr second ↦ inr (found_of limits after old new found second)
]

-- ---- where it isn't opened

still_unopened : {D : Type 0} {g : Ghosts D} (Held Then : Image → Type 0) (rest : Leftover D g) (error : Error) → ((image : Image) → Held image → Then image) → AreUnopened Held rest error → AreUnopened Then rest error
still_unopened Held Then rest error so is = record { files = is.files; held = λ clean. so _ (is.held clean); stays = λ clean image may. so image (is.stays clean image may); refused = is.refused }

-- the files that a crash left of the connection held the tables of the first commands, or those of the second
pub unopened_holds : {D : Type 0} {g : Ghosts D} (limits : Limits) (before after : List Accepted) (s : State) (rest : Leftover D g) (error : Error) → (HasCleanDisk s → LeavesOneOf limits before after s)
    → IsNotReopened s rest error → IsNotReady limits before after (HasCleanDisk s) (left.Files error rest)
unopened_holds limits before after s rest error leaves is =
    still_unopened (λ image. HasCleanDisk s × HoldsOneOf s image) (λ image. HasCleanDisk s × HoldsEither limits before after image) rest error
    (λ image held. (held.0, ∥∥₁_map held.1 (λ it. (it.0, it.1, (leaves held.0).each it.0 it.2)))) is

-- they store any rows that the crash left
pub unopened_stores : {D : Type 0} {g : Ghosts D} (stored : Stored) (s : State) (rest : Leftover D g) (error : Error) → LeavesStored stored s → IsNotReopened s rest error → IsNotReadyOn stored (left.Files error rest)
unopened_stores stored s rest error leaves is =
    still_unopened (λ image. HasCleanDisk s × HoldsOneOf s image) (AreStoredIn stored) rest error (λ image held. ∥∥₁_map held.1 (λ it. (it.0, it.1, leaves.each it.0 it.2))) is

-- what follows from what is known of it
pub known_of : {D : Type 0} {g : Ghosts D} (limits : Limits) (before after : List Accepted) (Known Then : Type 0) (why : NotReopened D g) → (Known → Then) → IsNotReady limits before after Known why → IsNotReady limits before after Then why
known_of limits before after Known Then (left.Files error rest) so is =
    still_unopened (λ image. Known × HoldsEither limits before after image) (λ image. Then × HoldsEither limits before after image) rest error (λ image held. (so held.0, held.1)) is
known_of limits before after Known Then (left.Warehouse fault conn) so is = λ clean. let it = is clean in (so it.0, it.1)
