use Rattle.sqlite.specs.Held.{state}
use Rattle.wh_engine.specs.Answered.{IsPlanOf}
use Rattle.wh_engine.proofs.Outcomes.{noted}
use Rattle.wh_engine.proofs.Scanning.{read, shut}
use Rattle.wh_engine.proofs.engine.Engine.plan.Goals as goal

pub returns-then-self-clause-reads : goal.returns-then-self-clause-reads
returns-then-self-clause-reads g c = shut g.S.Store c.args.self.now c.if-self.true

pub returns-clause-reads : goal.returns-clause-reads
returns-clause-reads g c = rw c.stops-self.ensures (read g.S.Store c.args.self.now c.foretell-edits.new.tables c.foretell-edits.result c.if-self.false c.foretell-edits.ensures.reads)

pub returns-clause-foretold : goal.returns-clause-foretold
returns-clause-foretold g c clean limits commands ready =
    let new = state g.S.Store c.foretell-edits.new.tables.conn in
    rw c.stops-self.ensures (noted limits c.args.self.now.session new (IsPlanOf limits commands c.args.command.now) commands commands c.foretell-edits.result (c.foretell-edits.ensures.foretold clean limits commands ready))
