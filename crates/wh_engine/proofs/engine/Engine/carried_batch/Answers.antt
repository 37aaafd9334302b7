use Rattle.std.proofs.Common.{ap, subst, IfOk}
use Rattle.wh_records.specs.Parts.{IsPartAt}
use Rattle.wh_engine.specs.declared.session.Session.{Session}
use Rattle.wh_engine.proofs.Scanning.{read, still_serves}
use Rattle.wh_engine.proofs.engine.Engine.carried_batch.Goals as goal

pub returns-clause-serves : goal.returns-clause-serves
returns-clause-serves g c =
    let reads = read g.S.Store c.args.self.now c.carried_batch-found.new.tables c.carried_batch-found.result c.if-self.false c.carried_batch-found.ensures.reads in
    rw c.stops-self.ensures (still_serves g.S.Store c.args.self.now _ c.carried_batch-found.result reads c.carried_batch-found.ensures.sound)

pub returns-clause-part : goal.returns-clause-part
returns-clause-part g c clean limits commands ready =
    let same = ap (λ (s : Session). s.policy) ready.session_is in
    subst (λ p. IfOk c.carried_batch-found.result (IsPartAt p commands c.args.dim c.args.from)) same
    (c.carried_batch-found.ensures.part clean limits commands ready.rests.tables ready.rests.are ready.rests.rests ready.admitted same)
