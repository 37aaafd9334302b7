use Rattle.std.proofs.Common.{inl, inr}
use Rattle.std.specs.Bool.{⊤}
use Rattle.std.proofs.Math.Logic.{∥∥₁_map}
use Rattle.sqlite.specs.Files.{file_state}
use Rattle.sqlite.specs.State.{HasCleanDisk}
use Rattle.wh_admission.specs.Admission.{accepted_after}
use Rattle.wh_engine.proofs.Redelivered.{answered_leaves, from_before, from_after}
use Rattle.wh_admission.proofs.Admitted.{admitted_after}
use Rattle.wh_engine.proofs.Reopened.{known_of}
use Rattle.wh_engine.proofs.reopen.redeliver.Goals as goal

pub returns-clause-redelivered : goal.returns-clause-redelivered
returns-clause-redelivered g c limits commands ready clean =
    let command = c.args.command.now in
    let after = accepted_after limits commands command in
    let stopped = c.apply.new.self in
    let again = c.in-Ok.again in
    let last = c.apply-answer.new.self in
    let opened : HasCleanDisk (file_state again.tables.conn) = c.apply-answer.ensures.keeps.clean clean in
    let told = c.apply.ensures.answered (c.in-Ok.ensures.clean opened) limits commands ready in
    let left = answered_leaves limits commands command c.apply.result stopped.session (file_state stopped.tables.conn) told in
    let admitted = admitted_after limits commands command ready.admitted in
    ∥∥₁_map (c.in-Ok.ensures.ready limits commands after ready.admitted admitted left opened) (λ which. elim which [
      | inl first ↦ from_before limits commands command c.apply-answer.result last.session (file_state last.tables.conn) (c.apply-answer.ensures.answered clean limits commands first)
      | inr second ↦ from_after limits commands command c.apply-answer.result last.session (file_state last.tables.conn) (c.apply-answer.ensures.answered clean limits after second)
    ])

pub returns-in-Err-clause-refused : goal.returns-in-Err-clause-refused
returns-in-Err-clause-refused g c limits commands ready =
    let command = c.args.command.now in
    let after = accepted_after limits commands command in
    let stopped = c.apply.new.self in
    let admitted = admitted_after limits commands command ready.admitted in
    let left = λ (was : HasCleanDisk (file_state stopped.tables.conn)). answered_leaves limits commands command c.apply.result stopped.session (file_state stopped.tables.conn) (c.apply.ensures.answered was limits commands ready) in
    known_of limits commands after (HasCleanDisk (file_state stopped.tables.conn)) ⊤ c.in-Err.why (λ was. tt) (c.in-Err.ensures.refused limits commands after ready.admitted admitted left)
