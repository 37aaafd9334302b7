-- Stores that never fail to tell what was written.
use Rattle.std.specs.Prelude.{Option}
use Rattle.sqlite_trees.specs.declared.store.Store.{Ghosts}
use Rattle.sqlite.specs.Held.{Held, state}
use Rattle.sqlite.specs.State.{HasCleanDisk}
use Rattle.wh_rows.specs.AtRest.{IsAtRest}
use Rattle.wh_rows.specs.Tables.{Tables}

-- whatever is called, a read tells what was written: so over memory, where no disk lies
abbrev pub IsFaithful : {S : Type 0} → Ghosts S → Type 0
IsFaithful {S} g = (c : Held S) → HasCleanDisk (state g c)

-- a connection to such a store is at rest with these tables
abbrev pub RestsFaithfully : {S : Type 0} → Ghosts S → Option Tables → Held S → Type 0
RestsFaithfully g held c = IsFaithful g × IsAtRest held (state g c)
