use Rattle.sqlite.specs.Held.{state}
use Rattle.wh_engine.proofs.Previewing.{held_then, previewed}
use Rattle.wh_engine.proofs.Scanning.{read, shut}
use Rattle.wh_engine.proofs.engine.Engine.preview.Goals as goal
use Rattle.wh_sql.proofs.Sparing.{tables_again, tables_left}

pub returns-then-self-clause-reads : goal.returns-then-self-clause-reads
returns-then-self-clause-reads g c = shut g.S.Store c.args.self.now c.if-self.true

pub returns-clause-reads : goal.returns-clause-reads
returns-clause-reads g c = rw c.stops-self.ensures (read g.S.Store c.args.self.now c.preview_anew-preview.new.tables c.preview_anew-preview.result c.if-self.false c.preview_anew-preview.ensures.reads)

pub returns-clause-previewed : goal.returns-clause-previewed
returns-clause-previewed g c clean limits commands ready =
    let session = c.args.self.now.session in
    let old = state g.S.Store c.args.self.now.tables.conn in
    let new = state g.S.Store c.preview_anew-preview.new.tables.conn in
    let kind = c.args.kind in
    let bytes = c.args.bytes.now in
    let t = ready.rests.tables in
    let rests = ready.rests.rests in
    let foreseen = c.preview_anew-preview.ensures.previewed clean commands t (held_then limits commands session old new ready kind bytes) rests in
    rw c.stops-self.ensures (previewed limits commands session old new ready kind bytes c.preview_anew-preview.result foreseen (tables_again c.preview_anew-preview.ensures.reads.spares clean t rests) (tables_left c.preview_anew-preview.ensures.reads.spares clean t rests))
