use Rattle.std.proofs.Common.{subst, ◌∙◌}
use Rattle.std.proofs.Math.Logic.{∥∥₁_map}
use Rattle.sqlite_trees.specs.View.{IsClean}
use Rattle.sqlite_trees.proofs.Doubt.{no_doubt}
use Rattle.sqlite_store.specs.FileStore.{view}
use Rattle.sqlite_wal.specs.Files.{outcomes}
use Rattle.sqlite_wal.specs.Reads.{AreClean}
use Rattle.sqlite_pool.proofs.StateLemmas.{clean_is, may_leave_is}
use Rattle.sqlite.proofs.Theorems.{opens_again}
use Rattle.wh_store.proofs.reopen.into_files.Goals as goal

pub returns : goal.returns
returns g c honest image may =
    let back = c.into_store.result in
    let sure = subst (λ p. AreClean g.D.Disk p.0 p.1) c.close.ensures honest in
    let none : IsClean (view back) = no_doubt _ (clean_is back.pool ∙ sure) in
    let allowed = may_leave_is back.pool image sure (subst (λ p. outcomes g.D.Disk p.0 p.1 image) c.close.ensures may) in
    ∥∥₁_map (opens_again back (c.into_store.ensures.numbered none) (c.into_store.ensures.sound none) image allowed)
    (λ it. (it.0, it.2, c.into_store.ensures.quiet.outcomes it.0 it.1))
