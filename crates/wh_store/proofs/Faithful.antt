-- Over memory no disk lies.
use Rattle.std.proofs.Common.{◌≡◌, true, refl, ◌∙◌}
use Rattle.sqlite_disk.specs.declared.Disk as disk
use Rattle.sqlite_pool.specs.Pool.{files}
use Rattle.sqlite_pool.proofs.StateLemmas.{clean_is}
use Rattle.sqlite_trees.proofs.Doubt.{no_doubt}
use Rattle.sqlite.specs.Files.{over_files}
use Rattle.sqlite.specs.Steps.{over_memory}
use Rattle.wh_store.specs.Faithful.{IsFaithful}
use Rattle.wh_store.proofs.InMemory.{is_clean}

pub memory_is_faithful : IsFaithful over_memory
memory_is_faithful = is_clean

-- the same of files on such disks
pub files_are_faithful : {D : Type 0} {g : disk.Ghosts D} → ((d : D) → g.is_clean d ≡ true) → IsFaithful (over_files {D = D} {g = g})
files_are_faithful clean c =
    let pool = c.store.pool in
    no_doubt _ (clean_is pool ∙ rw (clean (files pool).0, clean (files pool).1) refl)
