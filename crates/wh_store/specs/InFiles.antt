-- What the files of a warehouse hold between two runs.
use Rattle.std.specs.Prelude.{Option}
use Rattle.sqlite_disk.specs.declared.Disk.{Ghosts}
use Rattle.sqlite_disk.specs.declared.Files.{Files}
use Rattle.sqlite_trees.specs.Tree.{Trees}
use Rattle.sqlite_wal.specs.Files.{outcomes}
use Rattle.sqlite_wal.specs.Reads.{AreClean}
use Rattle.sqlite_wal.specs.Recovery.{Image}
use Rattle.sqlite.specs.Files.{HoldsDatabase, IsCleanLeft, FailsToOpenFiles, LeavesFiles, image_of}
use Rattle.sqlite.specs.State.{State, HasCleanDisk}
use Rattle.sqlite.specs.declared.error.Error.{Error}
use Rattle.sqlite.specs.declared.file.Leftover.{Leftover}
use Rattle.wh_rows.specs.AtRest.{AreTrees, IsAtRest}
use Rattle.wh_rows.specs.Raw.{Stored, IsStored, RestsOn}
use Rattle.wh_rows.specs.Schema.{schema_in}
use Rattle.wh_rows.specs.Tables.{Tables}

-- a log and its database file recover to a database that holds this
abbrev pub AreInFiles : Option Tables → Image → Type 0
AreInFiles held image = ∥ ((trees : Trees) × HoldsDatabase image trees × AreTrees held trees) ∥₁

-- the trees are those of a database of the making's schema in which this is stored
abbrev pub AreTreesOn : Stored → Trees → Type 0
AreTreesOn stored trees = IsStored stored (record { schema = schema_in stored.format; trees = trees })

-- a log and its database file recover to such a database
abbrev pub AreStoredIn : Stored → Image → Type 0
AreStoredIn stored image = ∥ ((trees : Trees) × HoldsDatabase image trees × AreTreesOn stored trees) ∥₁

-- they recover to one of what a crash could leave of the connection
abbrev pub HoldsOneOf : State → Image → Type 0
HoldsOneOf s image = ∥ ((trees : Trees) × HoldsDatabase image trees × s.may_leave trees) ∥₁

-- A connection that was opened after a crash of another: it found one of what the crash could leave, and rests with what that held, and on what was
-- stored there.
pub record IsReopened (before again : State) : Type 0 where
  pub trees : Trees
  pub left : before.may_leave trees
  pub rests : (held : Option Tables) → AreTrees held trees → IsAtRest held again
  pub rests_stored : (stored : Stored) → AreTreesOn stored trees → RestsOn stored again

-- ---- files that aren't opened

-- The database refuses the files with this error, and this is left of them. Where the disk returned what was written, memory ran out, or a call of the disk
-- failed, or a file is full, or they hold no database and aren't new, as the error says; and a database that they hold is still there.
abbrev pub RefusesFiles : {D : Type 0} {g : Ghosts D} → Files D → Leftover D g → Error → Type 0
RefusesFiles files left error = IsCleanLeft left → FailsToOpenFiles files left error × LeavesFiles files left

-- Files that were found after a crash and aren't opened. Where the disk returned what was written until then, they held this, and so does whatever a further
-- crash leaves of them.
pub record AreUnopened {D : Type 0} {g : Ghosts D} (Held : Image → Type 0) (left : Leftover D g) (error : Error) : Type 0 where
  pub files : Files D
  pub held : AreClean g files.log files.db → Held (image_of g files)
  pub stays : AreClean g files.log files.db → (image : Image) → outcomes g files.log files.db image → Held image
  pub refused : RefusesFiles files left error

-- They are those of a connection, to which the disk had returned what was written, and held one of what the crash could leave of it.
abbrev pub IsNotReopened : {D : Type 0} {g : Ghosts D} → State → Leftover D g → Error → Type 0
IsNotReopened before = AreUnopened (λ image. HasCleanDisk before × HoldsOneOf before image)
