-- A database in memory never fails.
use Rattle.std.proofs.Common.{refl}
use Rattle.sqlite.specs.Held.{Held, state}
use Rattle.sqlite.specs.State.{HasCleanDisk}
use Rattle.sqlite.specs.Steps.{over_memory}
use Rattle.sqlite_trees.specs.View.{doubt}
use Rattle.sqlite_trees.specs.declared.memory.MemStore.{MemStore}

pub is_clean : (c : Held MemStore) → HasCleanDisk (state over_memory c)
unfolding doubt
is_clean c = refl
