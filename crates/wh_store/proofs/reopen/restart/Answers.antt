use Rattle.std.proofs.Common.{Bool, true, false, ◌&&◌, IsTrue, refl, subst, ◌∙◌, arith}
use Rattle.std.proofs.Math.Logic.{∥∥₁_map}
use Rattle.sqlite_disk.specs.declared.Files.{Files}
use Rattle.sqlite_trees.specs.Tree.{Trees}
use Rattle.sqlite_trees.specs.View.{IsClean}
use Rattle.sqlite_trees.proofs.Doubt.{no_doubt}
use Rattle.sqlite_store.specs.FileStore.{view}
use Rattle.sqlite_store.specs.Laws.{settled_at}
use Rattle.sqlite_wal.specs.Files.{outcomes}
use Rattle.sqlite_wal.specs.Reads.{AreClean}
use Rattle.sqlite_wal.specs.Recovery.{Image}
use Rattle.sqlite_pool.proofs.StateLemmas.{clean_is, may_leave_is}
use Rattle.sqlite.specs.Files.{file_state, image_of}
use Rattle.sqlite.specs.State.{HasCleanDisk}
use Rattle.sqlite.proofs.Theorems.{opens_again}
use Rattle.wh_store.specs.InFiles.{HoldsOneOf}
use Rattle.wh_store.proofs.Reopened.{opened_rests, opened_rests_on}
use Rattle.wh_store.proofs.reopen.restart.Goals as goal

both_earlier : (a b x y : Bool) → (IsTrue a → IsTrue x) → (IsTrue b → IsTrue y) → IsTrue (a && b) → IsTrue (x && y)
both_earlier true true true true f g h = refl
both_earlier true true true false f g h = g refl
both_earlier true true false y f g h = absurd (let no = f refl in cc)
both_earlier true false x y f g h = absurd (let no = h in cc)
both_earlier false b x y f g h = absurd (let no = h in cc)

pub returns-in-Ok-clause-found : goal.returns-in-Ok-clause-found
returns-in-Ok-clause-found g c clean =
    let back = c.into_store.result in
    let files = c.close-files.result in
    let again = c.in-Ok.again in
    let found = c.in-Ok.ensures.found clean in
    let opened = c.in-Ok.ensures.opened clean in
    let honest : AreClean g.D.Disk files.log files.db = both_earlier _ _ _ _ c.crash.ensures.clean c.crash-2.ensures.clean found.honest in
    let image = image_of g.D.Disk (record { log = c.crash.new.self; db = c.crash-2.new.self }) in
    let sure = subst (λ p. AreClean g.D.Disk p.0 p.1) c.close-files.ensures honest in
    let none : IsClean (view back) = no_doubt _ (clean_is back.pool ∙ sure) in
    let may = may_leave_is back.pool image sure (subst (λ p. outcomes g.D.Disk p.0 p.1 image) c.close-files.ensures (c.crash.ensures.left, c.crash-2.ensures.left)) in
    let settled = λ (t : Trees). settled_at again.store g.met.D.Disk.seen_may_stay t opened.0.is_open in
    ∥∥₁_map (opens_again back (c.into_store.ensures.numbered none) (c.into_store.ensures.sound none) image may)
    (λ it. record {
      trees = it.0;
      left = c.into_store.ensures.quiet.outcomes it.0 it.1;
      rests = λ held are. opened_rests held (file_state again) it.0 are opened.0 opened.1 (found.holds it.0 it.2) settled;
      rests_stored = λ stored are. opened_rests_on stored (file_state again) it.0 are opened.0 opened.1 (found.holds it.0 it.2) settled;
    })

pub returns-in-Ok-clause-clean : goal.returns-in-Ok-clause-clean
returns-in-Ok-clause-clean g c clean =
    let files = c.close-files.result in
    let honest : AreClean g.D.Disk files.log files.db = both_earlier _ _ _ _ c.crash.ensures.clean c.crash-2.ensures.clean (c.in-Ok.ensures.found clean).honest in
    let none : IsClean (view c.into_store.result) = no_doubt _ (clean_is c.into_store.result.pool ∙ subst (λ p. AreClean g.D.Disk p.0 p.1) c.close-files.ensures honest) in
    omega (arith, c.into_store.ensures.quiet.clean)

pub returns-in-Err-clause-refused : goal.returns-in-Err-clause-refused
returns-in-Err-clause-refused g c =
    let back = c.into_store.result in
    let files = c.close-files.result in
    let failed = c.in-Err.ensures in
    let crashed : Files _ = record { log = c.crash.new.self; db = c.crash-2.new.self } in
    let holds : AreClean g.D.Disk crashed.log crashed.db → (image : Image) → outcomes g.D.Disk files.log files.db image → HasCleanDisk (file_state c.args.conn) × HoldsOneOf (file_state c.args.conn) image =
    λ clean image left.
    let honest : AreClean g.D.Disk files.log files.db = both_earlier _ _ _ _ c.crash.ensures.clean c.crash-2.ensures.clean clean in
    let sure = subst (λ p. AreClean g.D.Disk p.0 p.1) c.close-files.ensures honest in
    let none : IsClean (view back) = no_doubt _ (clean_is back.pool ∙ sure) in
    let may = may_leave_is back.pool image sure (subst (λ p. outcomes g.D.Disk p.0 p.1 image) c.close-files.ensures left) in
    let was : HasCleanDisk (file_state c.args.conn) = omega (arith, c.into_store.ensures.quiet.clean) in
    (was, ∥∥₁_map (opens_again back (c.into_store.ensures.numbered none) (c.into_store.ensures.sound none) image may) (λ it. (it.0, it.2, c.into_store.ensures.quiet.outcomes it.0 it.1))) in
    record {
      files = crashed;
      held = λ clean. holds clean (image_of g.D.Disk crashed) (c.crash.ensures.left, c.crash-2.ensures.left);
      stays = λ clean image may. holds clean image (c.crash.ensures.crash image.log may.0, c.crash-2.ensures.crash image.db may.1);
      refused = λ clean. (failed.cause clean, failed.unharmed clean);
    }
