use Rattle.std.proofs.Common.{rules}
use Rattle.sqlite.specs.Held.{state}
use Rattle.wh_engine.proofs.Scanning.{serving, not_reopen}
use Rattle.wh_engine.proofs.engine.Engine.advance.Goals as goal
use Rattle.wh_sql.proofs.Sparing.{tables_again, tables_left}

pub returns-clause-reads : goal.returns-clause-reads
returns-clause-reads g c = record {
  spares = c.row_after-found.ensures.reads.spares;
  serves = λ clean limits commands ready.
      let old = state g.S.Store c.args.self.now.tables.conn in
      let new = state g.S.Store c.row_after-found.new.tables.conn in
      let t = ready.rests.tables in
      let rests = ready.rests.rests in
      rw (c.note.ensures, c.stops.ensures) (serving limits commands c.args.self.now.session old new ready c.row_after-found.result
      (c.row_after-found.ensures.sound clean t rests) (tables_again c.row_after-found.ensures.reads.spares clean t rests) (tables_left c.row_after-found.ensures.reads.spares clean t rests));
  blames = c.row_after-found.ensures.reads.blames;
  noted = search rules;
  only = not_reopen _ _ c.row_after-found.ensures.reads.work;
}
