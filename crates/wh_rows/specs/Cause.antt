-- Why a statement was refused.
use Rattle.sqlite.specs.declared.error.ErrorCode.TheVariants as code
use Rattle.sqlite.specs.declared.error.Error.{Error}
use Rattle.sqlite.specs.declared.error.Error.TheVariants.{SqliteFailure}
use Rattle.wh_rows.specs.declared.cause.Cause.{Cause}
use Rattle.wh_rows.specs.declared.cause.Cause.TheVariants.{Memory, Disk, Size, Interrupted}

-- the cause that the database's error gives; disk, where it is none of the three others
abbrev pub cause_of : Error → Cause
cause_of (SqliteFailure code.OutOfMemory) = Memory
cause_of (SqliteFailure code.TooBig) = Size
cause_of (SqliteFailure code.OperationInterrupted) = Interrupted
cause_of _ = Disk
