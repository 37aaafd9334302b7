use Rattle.wh_engine.proofs.Previewing.{accept_previewed, fault_previewed}
use Rattle.wh_engine.proofs.preview.preview_of.Goals as goal

pub returns-in-Ok-Accept-clause-previewed : goal.returns-in-Ok-Accept-clause-previewed
returns-in-Ok-Accept-clause-previewed g c clean commands t held rests good new =
    accept_previewed c.args.session.now.limits commands c.args.command.now good new c.in-Ok-Accept.receipt c.in-Ok-Accept.edits c.in-Ok-Accept.field-0-2
    (rw c.in-Ok-Accept.field-0-is at (c.in-Ok-Accept.ensures.decided clean commands t held rests good new))

pub returns-clause-previewed : goal.returns-clause-previewed
returns-clause-previewed g c clean commands t held rests good new =
    fault_previewed c.args.session.now.limits commands c.args.command.now good new c.in-Err.fault (c.in-Err.ensures.decided clean commands t held rests good new)
