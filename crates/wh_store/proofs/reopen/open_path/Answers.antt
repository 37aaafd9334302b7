use Rattle.std.proofs.Common.{inl, refl}
use Rattle.std.proofs.Math.Logic.{∥∥₁_map}
use Rattle.sqlite_trees.specs.Tree.{Trees}
use Rattle.sqlite_store.specs.Laws.{settled_at}
use Rattle.sqlite.specs.Files.{file_state}
use Rattle.wh_store.proofs.Reopened.{opened_rests, opened_rests_on}
use Rattle.wh_store.proofs.Opened.{opened_blank}
use Rattle.wh_store.proofs.reopen.open_path.Goals as goal

pub returns-in-Ok-clause-held : goal.returns-in-Ok-clause-held
returns-in-Ok-clause-held g c held in_files clean =
    let conn = c.in-Ok.conn in
    let opened = c.in-Ok.ensures.opened clean in
    let settled = λ (t : Trees). settled_at conn.store (λ file. inl refl) t opened.0.is_open in
    ∥∥₁_map in_files (λ it. opened_rests held (file_state conn) it.0 it.2 opened.0 opened.1 ((c.in-Ok.ensures.found clean).holds it.0 it.1) settled)

pub returns-in-Ok-clause-stored : goal.returns-in-Ok-clause-stored
returns-in-Ok-clause-stored g c stored in_files clean =
    let conn = c.in-Ok.conn in
    let opened = c.in-Ok.ensures.opened clean in
    let settled = λ (t : Trees). settled_at conn.store (λ file. inl refl) t opened.0.is_open in
    ∥∥₁_map in_files (λ it. opened_rests_on stored (file_state conn) it.0 it.2 opened.0 opened.1 ((c.in-Ok.ensures.found clean).holds it.0 it.1) settled)

pub returns-in-Ok-clause-nothing : goal.returns-in-Ok-clause-nothing
returns-in-Ok-clause-nothing g c nothing clean =
    let conn = c.in-Ok.conn in
    let opened = c.in-Ok.ensures.opened clean in
    let settled = λ (t : Trees). settled_at conn.store (λ file. inl refl) t opened.0.is_open in
    opened_blank _ (file_state conn) nothing (c.in-Ok.ensures.found clean).reads opened.0 opened.1 settled
