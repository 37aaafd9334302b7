use Rattle.std.proofs.Common.{inl, refl, ap, length}
use Rattle.sqlite_trees.specs.Tree.{Trees}
use Rattle.sqlite_store.specs.Laws.{settled_at}
use Rattle.sqlite.specs.Files.{file_state}
use Rattle.wh_store.proofs.Faithful.{files_are_faithful}
use Rattle.wh_store.proofs.Opened.{opened_blank}
use Rattle.wh_store.proofs.scratch.open_scratch.Goals as goal

pub returns-in-Ok : goal.returns-in-Ok
returns-in-Ok c =
    let conn = c.in-Ok.conn in
    let faithful = files_are_faithful (λ d. refl) in
    let clean = faithful conn in
    let opened = c.in-Ok.ensures.opened clean in
    let settled = λ (t : Trees). settled_at conn.store (λ file. inl refl) t opened.0.is_open in
    (faithful, opened_blank _ (file_state conn) (inl (inl (ap length c.new-2.ensures.empty))) (c.in-Ok.ensures.found clean).reads opened.0 opened.1 settled)
