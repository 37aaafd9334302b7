use Rattle.std.proofs.Common.{ap}
use Rattle.sqlite.specs.Held.{state}
use Rattle.wh_engine.specs.declared.session.Session.{Session}
use Rattle.wh_engine.proofs.FoundCounts.{counted}
use Rattle.wh_admission.proofs.Admitted.{admitted_sound}
use Rattle.wh_engine.proofs.Scanning.{read, shut}
use Rattle.wh_engine.proofs.engine.Engine.counts.Goals as goal
use Rattle.wh_sql.proofs.Sparing.{tables_again, tables_left}

pub returns-then-self-clause-reads : goal.returns-then-self-clause-reads
returns-then-self-clause-reads g c = shut g.S.Store c.args.self.now c.if-self.true

pub returns-clause-reads : goal.returns-clause-reads
returns-clause-reads g c = rw c.stops-self.ensures (read g.S.Store c.args.self.now c.counts_of-counts.new.tables c.counts_of-counts.result c.if-self.false c.counts_of-counts.ensures.reads)

pub returns-clause-counted : goal.returns-clause-counted
returns-clause-counted g c clean limits commands ready =
    let old = state g.S.Store c.args.self.now.tables.conn in
    let new = state g.S.Store c.counts_of-counts.new.tables.conn in
    let t = ready.rests.tables in
    let rests = ready.rests.rests in
    rw c.stops-self.ensures (counted limits commands c.args.self.now.session old new ready c.counts_of-counts.result
    (c.counts_of-counts.ensures.counts clean t rests limits commands ready.rests.are (admitted_sound limits commands ready.admitted) (ap (λ (s : Session). s.format) ready.session_is)) (tables_again c.counts_of-counts.ensures.reads.spares clean t rests) (tables_left c.counts_of-counts.ensures.reads.spares clean t rests))
