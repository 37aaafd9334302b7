use Rattle.std.proofs.Common.{inl, inr, subst, sym}
use Rattle.std.proofs.Math.Logic.{∥∥₁_map}
use Rattle.sqlite.specs.Files.{file_state}
use Rattle.sqlite.specs.State.{HasCleanDisk}
use Rattle.wh_rows.specs.Raw.{LeavesStored}
use Rattle.wh_engine.specs.Answered.{LeavesOneOf}
use Rattle.wh_engine.specs.Reopened.{IsNotReady}
use Rattle.wh_engine.specs.declared.reopen.NotReopened.TheVariants as lost
use Rattle.wh_engine.proofs.Reopened.{rests_again, unopened_holds, unopened_stores}
use Rattle.wh_engine.proofs.reopen.restart.Goals as goal

pub returns-in-Ok-open-clause-ready : goal.returns-in-Ok-open-clause-ready
returns-in-Ok-open-clause-ready g c limits before after first second leaves clean =
    let again = c.in-Ok-open.again in
    let stopped = c.close.result in
    let conn = c.in-Ok.conn in
    let opened : HasCleanDisk (file_state conn) = c.in-Ok-open.ensures.spares.clean clean in
    let left : LeavesOneOf limits before after (file_state stopped) = subst (λ h. LeavesOneOf limits before after (file_state h)) (sym c.close.ensures) leaves in
    ∥∥₁_map (c.in-Ok.ensures.found opened) (λ found. elim (rests_again limits before after (file_state stopped) (file_state conn) left found) [
      | inl rests ↦ inl (c.in-Ok-open.ensures.ready clean limits before first rests)
      | inr rests ↦ inr (c.in-Ok-open.ensures.ready clean limits after second rests)
    ])

pub returns-in-Ok-open-clause-clean : goal.returns-in-Ok-open-clause-clean
returns-in-Ok-open-clause-clean g c clean =
    let opened : HasCleanDisk (file_state c.in-Ok.conn) = c.in-Ok-open.ensures.spares.clean clean in
    subst (λ h. HasCleanDisk (file_state h)) c.close.ensures (c.in-Ok.ensures.clean opened)

pub returns-in-Err-clause-refused : goal.returns-in-Err-clause-refused
returns-in-Err-clause-refused g c limits before after first second leaves =
    let stopped = c.close.result in
    let old = c.args.engine.tables.conn in
    let left : HasCleanDisk (file_state stopped) → LeavesOneOf limits before after (file_state stopped) =
    subst (λ h. HasCleanDisk (file_state h) → LeavesOneOf limits before after (file_state h)) (sym c.close.ensures) leaves in
    subst (λ h. IsNotReady limits before after (HasCleanDisk (file_state h)) (lost.Files c.in-Err.error c.in-Err.left)) c.close.ensures
    (unopened_holds limits before after (file_state stopped) c.in-Err.left c.in-Err.error left c.in-Err.ensures.refused)

pub returns-in-Err-clause-refused_stored : goal.returns-in-Err-clause-refused_stored
returns-in-Err-clause-refused_stored g c stored leaves =
    let stopped = c.close.result in
    let left : LeavesStored stored (file_state stopped) = subst (λ h. LeavesStored stored (file_state h)) (sym c.close.ensures) leaves in
    unopened_stores stored (file_state stopped) c.in-Err.left c.in-Err.error left c.in-Err.ensures.refused

pub returns-in-Err-open-clause-refused : goal.returns-in-Err-open-clause-refused
returns-in-Err-open-clause-refused g c limits before after first second leaves clean =
    let stopped = c.close.result in
    let conn = c.in-Ok.conn in
    let failed = c.in-Err-open.ensures in
    let opened : HasCleanDisk (file_state conn) = failed.spares_left.clean clean in
    let was : HasCleanDisk (file_state c.args.engine.tables.conn) = subst (λ h. HasCleanDisk (file_state h)) c.close.ensures (c.in-Ok.ensures.clean opened) in
    let left : LeavesOneOf limits before after (file_state stopped) = subst (λ h. LeavesOneOf limits before after (file_state h)) (sym c.close.ensures) (leaves was) in (
      was,
      ∥∥₁_map (c.in-Ok.ensures.found opened) (λ found. elim (rests_again limits before after (file_state stopped) (file_state conn) left found) [
        | inl rests ↦ inl (failed.refused clean limits before first rests)
        | inr rests ↦ inr (failed.refused clean limits after second rests)
      ]),
    )

pub returns-in-Err-open-clause-refused_stored : goal.returns-in-Err-open-clause-refused_stored
returns-in-Err-open-clause-refused_stored g c stored leaves clean =
    let failed = c.in-Err-open.ensures in
    let left : LeavesStored stored (file_state c.close.result) = subst (λ h. LeavesStored stored (file_state h)) (sym c.close.ensures) leaves in
    ∥∥₁_map (c.in-Ok.ensures.found (failed.spares_left.clean clean)) (λ found. failed.fault_stored clean stored (found.rests_stored stored (left.each found.trees found.left)))
