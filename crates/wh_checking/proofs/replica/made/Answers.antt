use Rattle.std.proofs.Common.{[], ◌∷◌, sym, ap, subst, ◌∙◌}
use Rattle.sqlite.specs.Files.{over_files}
use Rattle.wh_policy.specs.Policy.{read_policy}
use Rattle.wh_model.specs.Sound.{init_of}
use Rattle.wh_sql.specs.Answers.{state_of}
use Rattle.wh_engine.specs.Answered.{IsReady}
use Rattle.wh_checking.proofs.Followed.{made_next, no_making, no_policy}
use Rattle.wh_checking.proofs.replica.made.Goals as goal

pub returns-then-not-is_making_row : goal.returns-then-not-is_making_row
returns-then-not-is_making_row c = no_making c.args.limits c.args.row.now (sym c.is_making_row.ensures ∙ c.if-not-is_making_row.true)

pub returns-in-Ok : goal.returns-in-Ok
returns-in-Ok c =
    let engine = c.in-Ok.engine in
    let policy = engine.session.policy in
    let fresh = c.in_ok-connection.ensures in
    let made = c.in-Ok.ensures.made (fresh.0 engine.tables.conn) fresh.1 in
    let ready = subst (λ bytes. IsReady c.args.limits (init_of policy bytes ∷ []) engine.session (state_of over_files engine.tables)) c.as_slice.ensures made in
    (init_of policy c.args.row.now.bytes, made_next c.args.limits c.args.row.now policy (sym c.is_making_row.ensures ∙ c.if-not-is_making_row.false) ready.admitted, (fresh.0, ready))

pub returns-in-Err-Policy-default : goal.returns-in-Err-Policy-default
returns-in-Err-Policy-default c =
    let refused = rw c.in-Err-Policy-default.field-0-0-is at c.in-Err-Policy-default.ensures.refused in
    no_policy c.args.limits c.args.row.now c.in-Err-Policy-default.field-0-0-0 (ap read_policy (sym c.as_slice.ensures) ∙ refused)
