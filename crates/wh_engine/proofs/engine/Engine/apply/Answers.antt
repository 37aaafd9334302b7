use Rattle.std.proofs.Common.{◌≡◌}
use Rattle.sqlite.specs.Held.{state}
use Rattle.wh_admission.specs.Admission.{answer, accepted_after}
use Rattle.wh_engine.proofs.Outcomes.{noted}
use Rattle.wh_engine.proofs.engine.Engine.apply.Goals as goal

pub returns-clause-answered : goal.returns-clause-answered
returns-clause-answered g c clean limits commands ready =
    let new = state g.S.Store c.perform-answer.new.tables.conn in
    rw c.stops-self.ensures (noted limits c.perform-answer.new.session new (λ told. answer limits commands c.args.command.now ≡ told) commands (accepted_after limits commands c.args.command.now) c.perform-answer.result (c.perform-answer.ensures.performed clean limits commands ready))
