use Rattle.wh_engine.proofs.Scanning.{read, shut, still_serves}
use Rattle.wh_engine.proofs.engine.Engine.tally_links.Goals as goal

pub returns-then-self-clause-reads : goal.returns-then-self-clause-reads
returns-then-self-clause-reads g c = shut g.S.Store c.args.self.now c.if-self.true

pub returns-clause-reads : goal.returns-clause-reads
returns-clause-reads g c =
    rw c.stops-self.ensures (read g.S.Store c.args.self.now c.tally_links-counted.new.tables c.tally_links-counted.result c.if-self.false c.tally_links-counted.ensures.reads)

pub returns-clause-serves : goal.returns-clause-serves
returns-clause-serves g c =
    let reads = read g.S.Store c.args.self.now c.tally_links-counted.new.tables c.tally_links-counted.result c.if-self.false c.tally_links-counted.ensures.reads in
    rw c.stops-self.ensures (still_serves g.S.Store c.args.self.now _ c.tally_links-counted.result reads c.tally_links-counted.ensures.sound)
